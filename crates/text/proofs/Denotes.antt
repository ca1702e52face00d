-- The digits of a number denote it (`decimal_denotes`). Assumes nothing.
use mathlib.Core.Path.{◌≡◌, ◌∙◌, ap}
use mathlib.Core.List.{List, [], ◌∷◌}
use Prim.Native.Nat.{ℕ, zero, suc, ◌+◌, ◌^◌, ◌/◌, ◌%◌, ◌<◌}
use native.Mathlib.Omega.{arith}
use borrow.Author.Tests.{ltb-true, ltb-false}
use lib.Dec.{ltb}
use lib.ListN.{length, get_or}
use Rattle.integers.specs.Lists.{All}
use Rattle.integers.proofs.Order.{by_test}
use Rattle.text.specs.Text.{digits, decimal}
use Rattle.text.specs.Denotes.{value_from, IsDigit, DecimalDenotes}
use Rattle.text.proofs.Digits.{tenth}

-- the digits of n read, then t: 10 (n / 10) + n % 10 = n
value_digits : (k : ℕ) {n : ℕ} (t : List ℕ) → n < 10 ^ suc k → value_from 0 (digits (suc k) n t) ≡ value_from n t
unfolding digits value_from
value_digits zero {n} t h = by_test (ltb n 10) (λ e. rw e (ap (λ v. value_from v t) (omega arith))) (λ e. absurd (omega (arith, h, ltb-false n 10 e)))
value_digits (suc k) {n} t h =
    by_test (ltb n 10)
    (λ e. rw e (ap (λ v. value_from v t) (omega arith)))
    (λ e. rw e (value_digits k _ (tenth (suc k) h) ∙ ap (λ v. value_from v t) (omega arith)))

digit_digits : (k : ℕ) {n : ℕ} (t : List ℕ) → n < 10 ^ k → All IsDigit t → All IsDigit (digits k n t)
unfolding digits
digit_digits zero t h d = d
digit_digits (suc k) {n} t h d =
    by_test (ltb n 10)
    (λ e. rw e ((omega arith, omega (arith, ltb-true n 10 e)), d))
    (λ e. rw e (digit_digits k _ (tenth k h) ((omega arith, omega arith), d)))

-- the first digit of what is above 0 is above '0'
lead_digits : (k : ℕ) {n : ℕ} (t : List ℕ) → 0 < n → n < 10 ^ suc k → 48 < get_or (digits (suc k) n t) 0 0
unfolding digits
lead_digits zero {n} t p h = by_test (ltb n 10) (λ e. rw e (omega arith)) (λ e. absurd (omega (arith, h, ltb-false n 10 e)))
lead_digits (suc k) {n} t p h =
    by_test (ltb n 10)
    (λ e. rw e (omega arith))
    (λ e. rw e (lead_digits k _ (omega (arith, ltb-false n 10 e)) (tenth (suc k) h)))

-- there are no fewer than those after them, and one more
longer_digits : (k n : ℕ) (t : List ℕ) → length t < length (digits (suc k) n t)
unfolding digits
longer_digits zero n t = by_test (ltb n 10) (λ e. rw e (omega arith)) (λ e. rw e (omega arith))
longer_digits (suc k) n t = by_test (ltb n 10) (λ e. rw e (omega arith)) (λ e. rw e (omega (arith, longer_digits k (n / 10) ((48 + n % 10) ∷ t))))

-- what is below 10 has one digit
one_digit : {n : ℕ} → n < 10 → length (decimal n) ≡ 1
unfolding digits
one_digit {n} h = by_test (ltb n 10) (λ e. rw e) (λ e. absurd (omega (arith, ltb-false n 10 e)))

pub decimal_denotes : DecimalDenotes
unfolding value_from
decimal_denotes n h = record {
  value = value_digits 19 [] h;
  digit = digit_digits 20 [] h tt;
  some = omega (arith, longer_digits 19 n []);
  lead = λ m. by_test (ltb n 10) (λ e. absurd (omega (arith, one_digit (ltb-true n 10 e), m))) (λ e. lead_digits 19 [] (omega (arith, ltb-false n 10 e)) h);
}
