-- `convex_grow::run` meets its contract: the invariant is `Going` of Growth. Assumes nothing.
use native.Mathlib.Omega.{arith}
use lib.ListN.{length}
use Rattle.mesh.specs.Rows.{rows_mesh}
use Rattle.convex_grow.proofs.Growth.{going_turn, going_end}
use Rattle.convex_grow.proofs.run.Goals as goal

pub loop-p-preserved : goal.loop-p-preserved
loop-p-preserved c = let g = c.args in
    going_turn (length g.corners.now) (rows_mesh g.mesh.now) g.corners.now g.edges.now g.taken.now g.from c.loop-p-test.true c.loop-p.invariant c.step-p.ensures

pub returns : goal.returns
returns c = let g = c.args in
    going_end (length g.corners.now) (rows_mesh g.mesh.now) g.corners.now g.edges.now g.taken.now g.from (omega (arith, c.loop-p-test.false)) c.loop-p.invariant
