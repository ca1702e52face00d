-- `placement::place_fault` meets its contract: each refusal in its turn. Assumes nothing.
use mathlib.Core.Path.{sym, ◌∙◌}
use Rattle.placement.proofs.Faults.{told_7, told_2_place, told_2, told_none}
use Rattle.placement.proofs.place_fault.Goals.{then-not-on_grid-via-then-not-on_grid, then-not-on_grid-via-else-not-on_grid+then-off_range}
use Rattle.placement.proofs.place_fault.Goals as goal

pub returns-then-result_broken : goal.returns-then-result_broken
returns-then-result_broken c = told_7 _ _ _ (sym c.result_broken.ensures ∙ c.if-result_broken.true)

pub returns-then-not-on_grid : goal.returns-then-not-on_grid
returns-then-not-on_grid c =
    elim c.then-not-on_grid.branch [
      | then-not-on_grid-via-then-not-on_grid w ↦ told_2_place _ _ _ (sym c.result_broken.ensures ∙ c.if-result_broken.false) (sym c.on_grid.ensures ∙ w.if-not-on_grid.true)
      | then-not-on_grid-via-else-not-on_grid+then-off_range w ↦ told_2 _ _ _ (sym c.result_broken.ensures ∙ c.if-result_broken.false) (sym c.on_grid.ensures ∙ w.if-not-on_grid.false) (sym w.off_range.ensures ∙ w.if-off_range.true)
    ]

pub returns : goal.returns
returns c = told_none _ _ _ (sym c.result_broken.ensures ∙ c.if-result_broken.false) (sym c.on_grid.ensures ∙ c.if-not-on_grid.false) (sym c.off_range.ensures ∙ c.if-off_range.false)
