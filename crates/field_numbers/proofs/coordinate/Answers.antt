-- `field_numbers::coordinate` meets its contract. Assumes nothing.
use mathlib.Core.Path.{◌∙◌}
use borrow.Author.Rules.{rules}
use Rattle.field_numbers.proofs.Readings.{no_first, no_minus, read_at_most, behind_minus, no_number_behind}
use Rattle.field_numbers.proofs.coordinate.Goals as goal
use Rattle.field_numbers.proofs.coordinate.Goals.{in_default-via-then-digits-lt1, in_default-via-else-digits-lt1+in_default-1}

pub returns-in_err-number-in-45 : goal.returns-in_err-number-in-45
returns-in_err-number-in-45 c = c.from_residual.ensures ∙ no_number_behind c.args.digits.now (search rules) c.number.ensures c.in_err-number-in-45.was

pub negative-requires : goal.negative-requires
negative-requires c = read_at_most _ c.number.ensures c.in_ok-number-in-45.was

pub returns-in_ok-number-in-45 : goal.returns-in_ok-number-in-45
returns-in_ok-number-in-45 c = behind_minus c.args.digits.now (search rules) c.number.ensures c.in_ok-number-in-45.was c.negative.ensures

pub returns-in_default : goal.returns-in_default
returns-in_default c = c.number-in_default.ensures ∙ no_minus c.args.digits.now (elim c.in_default.branch [ in_default-via-then-digits-lt1 w ↦ no_first c.args.digits.now (search rules) | in_default-via-else-digits-lt1+in_default-1 w ↦ λ q. search rules ])
