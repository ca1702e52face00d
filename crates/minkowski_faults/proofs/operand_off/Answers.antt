-- `minkowski_faults::operand_off` meets its contract: the corners, then the bounds. Assumes
-- nothing.
use mathlib.Core.Path.{sym, ◌∙◌}
use Rattle.minkowski_faults.proofs.Range.{off_append_in, off_append_out}
use Rattle.minkowski_faults.proofs.operand_off.Goals as goal

pub returns-then-off_range : goal.returns-then-off_range
returns-then-off_range c = c.if-off_range.true ∙ sym (off_append_out _ _ (sym c.off_range.ensures ∙ c.if-off_range.true))

pub returns-else-off_range : goal.returns-else-off_range
returns-else-off_range c = c.bounds_off.ensures ∙ sym (off_append_in _ _ (sym c.off_range.ensures ∙ c.if-off_range.false))
