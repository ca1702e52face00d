-- `grid::is_step_count` meets its contract. Assumes nothing.
use mathlib.Core.Path.{sym, ◌∙◌}
use lib.Ieee.{of_bits}
use Rattle.integers.proofs.Tests.{differ}
use Rattle.grid.proofs.Steps.{step_low, step_bits, step_high}
use Rattle.grid.proofs.is_step_count.Goals as goal
use Rattle.grid.proofs.is_step_count.Goals.{then-steps, else-steps}

pub returns-then-steps-2 : goal.returns-then-steps-2
unfolding of_bits
returns-then-steps-2 c = elim c.if-steps.branch [
  | then-steps w ↦ step_bits c.args.steps c.well_formed.0.1 w.if-steps.true (sym w.value-is ∙ c.if-steps-2.true)
  | else-steps w ↦ differ (sym w.if-steps.false ∙ sym w.value-is ∙ c.if-steps-2.true)
]

pub returns-else-steps-2 : goal.returns-else-steps-2
unfolding of_bits
returns-else-steps-2 c = elim c.if-steps.branch [
  | then-steps w ↦ c.if-steps-2.false ∙ step_high c.args.steps (sym w.value-is ∙ c.if-steps-2.false)
  | else-steps w ↦ c.if-steps-2.false ∙ step_low c.args.steps w.if-steps.false
]
