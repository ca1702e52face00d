-- `measure::table_fault` meets its contract: each refusal in its turn. Assumes nothing.
use mathlib.Core.Path.{sym, ◌∙◌}
use Rattle.measure.proofs.Answers.{table_7, table_2, table_none}
use Rattle.measure.proofs.table_fault.Goals as goal

pub returns-then-result_broken : goal.returns-then-result_broken
returns-then-result_broken c = table_7 _ _ (sym c.result_broken.ensures ∙ c.if-result_broken.true)

pub returns-then-off_range : goal.returns-then-off_range
returns-then-off_range c = table_2 _ _ (sym c.result_broken.ensures ∙ c.if-result_broken.false) (sym c.off_range.ensures ∙ c.if-off_range.true)

pub returns : goal.returns
returns c = table_none _ _ (sym c.result_broken.ensures ∙ c.if-result_broken.false) (sym c.off_range.ensures ∙ c.if-off_range.false)
