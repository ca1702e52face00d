-- A number below 10^k has no more than k digits (`digits_enough`), so 20 are enough for every
-- number below 2^63 (`decimal_enough`). Assumes nothing.
use mathlib.Core.Path.{◌≡◌, refl}
use mathlib.Core.List.{List, []}
use Prim.Native.Nat.{ℕ, zero, suc, ◌^◌, ◌/◌, ◌<◌}
use native.Mathlib.Omega.{arith}
use native.Mathlib.Nat.{pow-suc}
use borrow.Author.Tests.{ltb-false}
use lib.Dec.{ltb}
use Rattle.integers.proofs.Order.{by_test}
use Rattle.text.specs.Text.{digits, decimal}

-- a tenth of what is below 10^(k + 1) is below 10^k
pub tenth : (k : ℕ) {n : ℕ} → n < 10 ^ suc k → n / 10 < 10 ^ k
tenth k h = omega (arith, h, pow-suc 10 k)

-- one digit is enough for what is below 10
pub digits_enough : (j k : ℕ) {n : ℕ} (t : List ℕ) → n < 10 ^ suc j → n < 10 ^ suc k → digits (suc j) n t ≡ digits (suc k) n t
unfolding digits
digits_enough zero zero t h i = refl
digits_enough zero (suc k) {n} t h i = by_test (ltb n 10) (λ e. rw e) (λ e. absurd (omega (arith, h, ltb-false n 10 e)))
digits_enough (suc j) zero {n} t h i = by_test (ltb n 10) (λ e. rw e) (λ e. absurd (omega (arith, i, ltb-false n 10 e)))
digits_enough (suc j) (suc k) {n} t h i =
    by_test (ltb n 10) (λ e. rw e) (λ e. rw e (digits_enough j k _ (tenth (suc j) h) (tenth (suc k) i)))

pub decimal_enough : (k : ℕ) {n : ℕ} → n < 9223372036854775808 → n < 10 ^ suc k → decimal n ≡ digits (suc k) n []
decimal_enough k {n} h i = digits_enough 19 k [] (omega (arith, h)) i
