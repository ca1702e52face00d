-- `convex_regions::visit_all` meets its contract: the invariant is `Visiting` of Regions. Assumes
-- nothing.
use lib.ListN.{length}
use Rattle.mesh.specs.Rows.{rows_mesh}
use Rattle.convex_regions.proofs.Regions.{Visiting}
use Rattle.convex_regions.proofs.visit_all.Given as goal

abbrev pub invariant-loop-k : goal.invariant-loop-k
invariant-loop-k l = Visiting (length l.initial.corners) (length l.initial.starts) (length l.initial.points) (rows_mesh l.mesh) l.corners l.edges l.taken l.starts l.points l.t l.k
