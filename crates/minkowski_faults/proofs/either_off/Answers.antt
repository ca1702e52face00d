-- `minkowski_faults::either_off` meets its contract: the two numbers in turn. Assumes nothing.
use mathlib.Core.Path.{sym, ◌∙◌, ap}
use mathlib.Core.Bool.{not}
use borrow.Author.Rules.{rules}
use Rattle.minkowski_faults.proofs.Range.{off_in, off_out, off_last}
use Rattle.minkowski_faults.proofs.either_off.Goals as goal

pub returns-then-not-in_range : goal.returns-then-not-in_range
returns-then-not-in_range c = ap not c.if-not-in_range.true ∙ sym (off_out _ (search rules) c.in_range.ensures c.if-not-in_range.true)

pub returns-else-not-in_range : goal.returns-else-not-in_range
returns-else-not-in_range c = sym (off_in _ (search rules) c.in_range.ensures c.if-not-in_range.false ∙ off_last (search rules) c.in_range-else-not-in_range.ensures)
