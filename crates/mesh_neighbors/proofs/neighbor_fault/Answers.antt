-- `mesh_neighbors::neighbor_fault` meets its contract: the invariant is `Judged` of Earliest.
-- Assumes nothing.
use native.Mathlib.Omega.{arith}
use Rattle.mesh.specs.Rows.{rows_mesh}
use Rattle.mesh.proofs.Rows.{length_rows}
use Rattle.mesh_neighbors.proofs.Earliest.{judged_start, judged_turn, judged_end}
use Rattle.mesh_neighbors.proofs.neighbor_fault.Goals as goal

pub loop-k-init : goal.loop-k-init
loop-k-init c = judged_start (rows_mesh c.args.mesh.now)

pub loop-k-preserved : goal.loop-k-preserved
loop-k-preserved c = judged_turn (rows_mesh c.args.mesh.now) (omega (arith, length_rows c.args.mesh.now, c.loop-k-test.true)) c.loop-k.invariant c.row_fault.ensures c.earlier_of-judged.ensures

pub returns : goal.returns
returns c = judged_end (rows_mesh c.args.mesh.now) (omega (arith, length_rows c.args.mesh.now, c.loop-k-test.false)) c.loop-k.invariant
