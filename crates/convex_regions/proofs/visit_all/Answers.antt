-- `convex_regions::visit_all` meets its contract: the invariant is `Visiting` of Regions. Assumes
-- nothing.
use mathlib.Core.Path.{refl}
use native.Mathlib.Omega.{arith}
use lib.ListN.{length}
use Rattle.mesh.specs.Rows.{rows_mesh}
use Rattle.mesh.proofs.Rows.{length_rows}
use Rattle.convex_regions.proofs.Regions.{visiting_start, visiting_turn, visiting_end, visited_rows}
use Rattle.convex_regions.proofs.visit_all.Goals as goal

pub loop-k-init : goal.loop-k-init
loop-k-init c = let g = c.args in
    visiting_start (length g.corners.now) (length g.starts.now) (length g.points.now) (rows_mesh g.mesh.now) c.requires.0 c.requires.1 refl refl (omega (arith, c.requires.2, length_rows g.mesh.now)) (omega (arith, c.requires.3, length_rows g.mesh.now)) c.requires.4

pub loop-k-preserved : goal.loop-k-preserved
loop-k-preserved c = let g = c.args in
    visiting_turn (length g.corners.now) (length g.starts.now) (length g.points.now) (rows_mesh g.mesh.now)
    (omega (arith, length_rows g.mesh.now)) c.loop-k.invariant c.visit-t.ensures

pub returns : goal.returns
returns c = let g = c.args in
    visited_rows g.mesh.now (visiting_end (length g.corners.now) (length g.starts.now) (length g.points.now) (rows_mesh g.mesh.now) (omega (arith, length_rows g.mesh.now)) c.loop-k.invariant)
