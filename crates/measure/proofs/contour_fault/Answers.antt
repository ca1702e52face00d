-- `measure::contour_fault` meets its contract: each refusal in its turn. Assumes nothing.
use mathlib.Core.Path.{sym, ◌∙◌}
use Rattle.measure.proofs.Answers.{contour_7, contour_2, contour_none}
use Rattle.measure.proofs.contour_fault.Goals as goal

pub returns-then-ragged : goal.returns-then-ragged
returns-then-ragged c = contour_7 _ (sym c.ragged.ensures ∙ c.if-ragged.true)

pub returns-then-off_range : goal.returns-then-off_range
returns-then-off_range c = contour_2 _ (sym c.ragged.ensures ∙ c.if-ragged.false) (sym c.off_range.ensures ∙ c.if-off_range.true)

pub returns : goal.returns
returns c = contour_none _ (sym c.ragged.ensures ∙ c.if-ragged.false) (sym c.off_range.ensures ∙ c.if-off_range.false)
