-- f64 values that are whole numbers. One whose multiple is k * 2 ^ 1074, for a k above 0 with or
-- without a sign, is what the integer gives as an f64 (`whole_is`); and that gives the integer back
-- (`int_back`). Assumes nothing.
use mathlib.Core.Path.{◌≡◌, refl, sym, ap, ◌∙◌}
use Prim.Native.Nat.{ℕ, zero, suc, ◌*◌, ◌^◌, ◌≤◌, ◌<◌}
use native.Mathlib.Nat.{mul-one, mul_right_comm, mul-pos, eq_of_mul-eq-mul_right}
use native.Mathlib.Omega.{arith}
use mathlib.Core.Bool.{Bool, true, false}
use lib.Dec.{T, le→leb, lt→ltb}
use lib.IntN.{ℤ, pos, negsuc, nat_abs}
use lib.Pow.{pow_pos}
use lib.Ieee.{Float, nan, inf, fin, binary64, up, down, of_int, to_signed, in_signed, in_float}
use lib.Ieee.Fits.{of_int-fits}
use lib.Ieee.Exact.{HasValue}
use lib.Ieee.Back.{round_whole, whole_unique, positive_back, negative_back}
use Rattle.integers.proofs.Order.{zarith, neg_parts}
use Rattle.floats.specs.Floats.{multiple, signed, size}
use Rattle.floats.proofs.Comparisons.{Number, multiple_exact}
use Rattle.floats.proofs.Sums.{abs_signed}

-- a signed number that is not 0 has one sign and one size
pub signed_same : (s t : Bool) (a : ℕ) {b : ℕ} → 0 < b → signed s a ≡ signed t b → (s ≡ t) × (a ≡ b)
signed_same s t a {b} h e = (go s t e, sym (abs_signed s a) ∙ ap nat_abs e ∙ abs_signed t b)
  where
    go : (s t : Bool) → signed s a ≡ signed t b → s ≡ t
    go true true e = refl
    go true false e = absurd (omega (zarith, e, neg_parts (pos a)))
    go false true e = absurd (omega (zarith, e, neg_parts (pos b)))
    go false false e = refl

has_value : (x : Float) (s : Bool) {k : ℕ} → Number x → 0 < k → multiple x ≡ signed s (k * 2 ^ 1074) → HasValue x s k 1
unfolding multiple
has_value nan s {k} h p q = h.finite
has_value (inf t) s {k} h p q = h.finite
has_value (fin t m e) s {k} h p q =
    let d = signed_same t s (size m e) (mul-pos p (pow_pos 1074)) q in (
      d.0,
      eq_of_mul-eq-mul_right (2 ^ 1074) (pow_pos 1074) (m * up e * 1) (k * down e)
          (ap (λ (x : ℕ). x * 2 ^ 1074) (mul-one (m * up e)) ∙ sym (multiple_exact t m e h.fitting) ∙ ap (λ (x : ℕ). x * down e) d.1 ∙ mul_right_comm k (2 ^ 1074) (down e)),
    )

int_value : (s : Bool) (k : ℕ) → 0 < k → k ≤ 2 ^ 53 → HasValue (of_int binary64 (signed s k)) s k 1
unfolding of_int
int_value s zero h l = absurd (omega arith)
int_value true (suc k) h l = round_whole binary64 true (suc k) l
int_value false (suc k) h l = round_whole binary64 false (suc k) l

pub whole_is : {x : Float} (s : Bool) {k : ℕ} → Number x → 0 < k → k ≤ 2 ^ 53 → multiple x ≡ signed s (k * 2 ^ 1074) → x ≡ of_int binary64 (signed s k)
whole_is {x} s {k} h p l e = whole_unique binary64 x (of_int binary64 (signed s k)) s k h.fitting (of_int-fits binary64 (signed s k)) (has_value x s h p e) (int_value s k p l)

-- in h bits and a sign
pub int_back : (h : ℕ) (z : ℤ) → nat_abs z ≤ 2 ^ 53 → nat_abs z < 2 ^ h → T (in_signed binary64 h (of_int binary64 z)) × (to_signed h (of_int binary64 z) ≡ z)
unfolding in_float
int_back h (pos n) l k = positive_back binary64 h n (le→leb n (2 ^ 53) l) k
int_back h (negsuc n) l k = negative_back binary64 h n (lt→ltb n (2 ^ 53) l) (omega arith)
