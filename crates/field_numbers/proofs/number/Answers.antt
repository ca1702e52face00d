-- `field_numbers::number` meets its contract: the tests in turn. Assumes nothing.
use mathlib.Core.Path.{sym, ◌∙◌}
use native.Mathlib.Omega.{arith}
use borrow.Author.Rules.{rules}
use Rattle.field_numbers.proofs.Readings.{told_wrong, told_right, front_run, no_digits, too_long, other_bytes, too_large, is_number_lem}
use Rattle.field_numbers.proofs.number.Goals as goal
use Rattle.field_numbers.proofs.number.Goals.{then-is_empty-via-then-is_empty, then-is_empty-via-else-is_empty+then-digits-gt-MAX_DIGITS}

pub returns-then-is_empty : goal.returns-then-is_empty
returns-then-is_empty c = told_wrong _ (elim c.then-is_empty.branch [
  | then-is_empty-via-then-is_empty w ↦ no_digits _ c.args.digits.now (search rules)
  | then-is_empty-via-else-is_empty+then-digits-gt-MAX_DIGITS w ↦ too_long _ c.args.digits.now (λ q. search rules) w.if-digits-gt-MAX_DIGITS.true
])

pub returns-then-run_end-digits : goal.returns-then-run_end-digits
returns-then-run_end-digits c = let digits = c.args.digits.now in
    told_wrong _ (other_bytes _ digits (λ q. search rules) c.if-digits-gt-MAX_DIGITS.false (λ q. c.if-run_end-digits.true (front_run digits c.run_end.ensures.0 ∙ q)))

pub returns-then-v-most : goal.returns-then-v-most
returns-then-v-most c = let digits = c.args.digits.now in
    let d = sym (front_run digits c.run_end.ensures.0) ∙ c.if-run_end-digits.false in
    told_wrong _ (too_large _ digits (λ q. search rules) c.if-digits-gt-MAX_DIGITS.false d (omega (arith, c.value-v.ensures, c.if-v-most.true)))

pub returns : goal.returns
returns c = let digits = c.args.digits.now in
    let d = sym (front_run digits c.run_end.ensures.0) ∙ c.if-run_end-digits.false in
    told_right (is_number_lem _ digits (λ q. search rules) c.if-digits-gt-MAX_DIGITS.false d (omega (arith, c.value-v.ensures, c.if-v-most.false))) c.value-v.ensures
