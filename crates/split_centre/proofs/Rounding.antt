-- Rounding to nearest: of naturals (`nearest_most`, `nearest_least`), of the negative
-- (`rounded_neg`), of a magnitude with a sign (`rounded_signed`), and that it stays between whole
-- numbers that the quotient lies between (`rounded_most`, `rounded_least`). Assumes nothing.
use mathlib.Core.Path.{◌≡◌, refl, sym, ◌∙◌, ap, subst}
use mathlib.Core.Bool.{Bool, true, false}
use Prim.Native.Nat.{ℕ, zero, suc, ◌+◌, ◌*◌, ◌≤◌, ◌<◌}
use native.Mathlib.Omega.{arith}
use native.Mathlib.Nat.{div-lt_iff_lt-mul, le-div_iff_mul-le, div-eq_of_lt}
use lib.IntN.{ℤ, pos, negsuc, neg_ℤ, nat_abs, ◌*ℤ◌}
use lib.Signed.{◌≤ℤ◌}
use Rattle.integers.proofs.Laws.{negℤ_*ℤ}
use Rattle.integers.proofs.Order.{zarith, neg_parts, mul_parts, neg_mono, ≤_in}
use Rattle.wide.specs.Words.{signed}
use Rattle.wide.proofs.Signs.{signed_size}
use Rattle.wide_divide.specs.Quotients.{nearest}
use Rattle.split.specs.Splitting.{rounded}

-- n ≤ j d gives 2 n + d < (j + 1) 2 d
pub nearest_most : (n j : ℕ) {d : ℕ} → 0 < d → n ≤ j * d → nearest n d ≤ j
nearest_most n j {d} h k =
    let l : nearest n d < suc j = (div-lt_iff_lt-mul {k = 2 * d} {x = 2 * n + d} {y = suc j} (omega arith)).1 (omega arith) in
    omega arith

-- j d ≤ n gives j 2 d ≤ 2 n + d
pub nearest_least : (n j : ℕ) {d : ℕ} → 0 < d → j * d ≤ n → j ≤ nearest n d
nearest_least n j {d} h k = (le-div_iff_mul-le {k = 2 * d} {x = j} {y = 2 * n + d} (omega arith)).1 (omega arith)

pub rounded_neg : (m : ℤ) {d : ℕ} → 0 < d → rounded (neg_ℤ m) d ≡ neg_ℤ (rounded m d)
unfolding rounded
rounded_neg (pos zero) {d} h = none (div-eq_of_lt {n = 2 * 0 + d} {m = 2 * d} (omega arith))
  where
    none : {q : ℕ} → q ≡ 0 → pos q ≡ neg_ℤ (pos q)
    none {q} e = omega (zarith, neg_parts (pos q))
rounded_neg (pos (suc n)) h = refl
rounded_neg (negsuc n) {d} h = twice (nearest (suc n) d)
  where
    twice : (q : ℕ) → pos q ≡ neg_ℤ (neg_ℤ (pos q))
    twice q = omega (zarith, neg_parts (pos q), neg_parts (neg_ℤ (pos q)))

-- of a magnitude with a sign
pub rounded_signed : (s : Bool) (n : ℕ) {d : ℕ} → 0 < d → rounded (signed s n) d ≡ signed s (nearest n d)
unfolding rounded
rounded_signed true n {d} h = rounded_neg (pos n) h
rounded_signed false n h = refl

pub rounded_size : (s : Bool) (n : ℕ) {d : ℕ} → 0 < d → nat_abs (rounded (signed s n) d) ≡ nearest n d
rounded_size s n {d} h = ap nat_abs (rounded_signed s n h) ∙ signed_size s (nearest n d)

pub rounded_most : (m k : ℤ) {d : ℕ} → 0 < d → m ≤ℤ (k *ℤ pos d) → rounded m d ≤ℤ k
unfolding rounded
rounded_most (pos n) (pos j) {d} h l = omega (zarith, nearest_most n j h (omega (zarith, ≤_in l)))
rounded_most (pos n) (negsuc j) {d} h l = absurd (omega (zarith, ≤_in l, mul_parts (negsuc j) (pos d)))
rounded_most (negsuc n) (pos j) {d} h l = omega (zarith, neg_parts (pos (nearest (suc n) d)))
rounded_most (negsuc n) (negsuc j) {d} h l =
    omega (zarith, neg_parts (pos (nearest (suc n) d)), nearest_least (suc n) (suc j) h (omega (zarith, ≤_in l, mul_parts (negsuc j) (pos d))))

pub rounded_least : {m : ℤ} (k : ℤ) {d : ℕ} → 0 < d → (k *ℤ pos d) ≤ℤ m → k ≤ℤ rounded m d
rounded_least {m} k {d} h l =
    let u : neg_ℤ (rounded m d) ≤ℤ neg_ℤ k =
    subst (λ z. z ≤ℤ neg_ℤ k) (rounded_neg m h) (rounded_most (neg_ℤ m) (neg_ℤ k) h (subst (λ z. neg_ℤ m ≤ℤ z) (sym (negℤ_*ℤ k (pos d))) (neg_mono l))) in
    omega (zarith, neg_parts (rounded m d), neg_parts k)
