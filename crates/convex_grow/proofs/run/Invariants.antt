-- `convex_grow::run` meets its contract: the invariant is `Going` of Growth. Assumes nothing.
use Prim.Native.Nat.{◌+◌, ◌*◌}
use lib.ListN.{length}
use Rattle.mesh.specs.Rows.{rows_mesh}
use Rattle.convex_ring.specs.Buffers.{free}
use Rattle.convex_grow.proofs.Growth.{Going}
use Rattle.convex_grow.proofs.run.Given as goal

abbrev pub invariant-loop-p : goal.invariant-loop-p
invariant-loop-p l = Going (length l.initial.corners) (rows_mesh l.mesh) l.initial.corners l.initial.edges l.initial.taken l.initial.p l.corners l.edges l.taken l.p

abbrev pub decreases-loop-p : goal.decreases-loop-p
decreases-loop-p l = l.p.pending + 2 * free l.taken
