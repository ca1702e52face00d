-- `mesh_faults::flat` meets its contract: no row before k is flat. Assumes nothing.
use mathlib.Core.Path.{sym, ◌∙◌}
use native.Mathlib.Omega.{arith}
use Rattle.mesh.specs.Mesh.{flat}
use Rattle.mesh.proofs.Passes.{pass_found, pass_next, pass_end, row_on_grid}
use Rattle.mesh_faults.proofs.flat.Goals as goal

pub row_flat-requires : goal.row_flat-requires
row_flat-requires c = row_on_grid _ (omega arith) c.requires

pub returns-then-row_flat : goal.returns-then-row_flat
unfolding flat
returns-then-row_flat c = pass_found _ _ (omega arith) c.loop-row.invariant (sym c.row_flat.ensures ∙ c.if-row_flat.true)

pub loop-row-preserved : goal.loop-row-preserved
loop-row-preserved c = (pass_next _ _ (omega arith) c.loop-row.invariant (sym c.row_flat.ensures ∙ c.if-row_flat.false))

pub returns : goal.returns
unfolding flat
returns c = pass_end _ _ (omega arith) c.loop-row.invariant
