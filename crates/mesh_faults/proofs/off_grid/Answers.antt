-- `mesh_faults::off_grid` meets its contract: no row before k has a coordinate off the grid.
-- Assumes nothing.
use mathlib.Core.Path.{sym, ◌∙◌}
use native.Mathlib.Omega.{arith}
use Rattle.mesh.specs.Mesh.{off_grid}
use Rattle.mesh.proofs.Passes.{pass_found, pass_next, pass_end}
use Rattle.mesh_faults.proofs.off_grid.Goals as goal

pub returns-then-row_off : goal.returns-then-row_off
unfolding off_grid
returns-then-row_off c = pass_found _ _ (omega arith) c.loop-row.invariant (sym c.row_off.ensures ∙ c.if-row_off.true)

pub loop-row-preserved : goal.loop-row-preserved
loop-row-preserved c = (pass_next _ _ (omega arith) c.loop-row.invariant (sym c.row_off.ensures ∙ c.if-row_off.false))

pub returns : goal.returns
unfolding off_grid
returns c = pass_end _ _ (omega arith) c.loop-row.invariant
