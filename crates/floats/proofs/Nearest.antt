-- `nearest`. In order: off by one half at most (`nearest_near`); when it is below a bound
-- (`nearest_lt`); from a whole number that is off by one half at most (`nearest_tie`,
-- `nearest_plain`). Assumes nothing.
use mathlib.Core.Path.{◌≡◌, refl, sym, ap, ◌∙◌, subst}
use mathlib.Core.Logic.{◌↔◌}
use Prim.Native.Nat.{ℕ, zero, suc, ◌+◌, ◌*◌, ◌/◌, ◌%◌, ◌^◌, ◌≤◌, ◌<◌}
use native.Mathlib.Nat.{add-mul, div-add-mod', mod-lt, div-lt_iff_lt-mul, div-eq_of_lt-le}
use native.Mathlib.Omega.{arith}
use mathlib.Core.Bool.{Bool, true, false}
use lib.Arith.{lt_of_le-ne}
use lib.IntN.{ℤ, pos, negsuc, nat_abs, ◌+ℤ◌, ◌-ℤ◌, ◌*ℤ◌}
use lib.Pow.{pow_pos}
use Rattle.floats.specs.Floats.{signed, nearest}
use Rattle.floats.proofs.Rounding.{Near}
use Rattle.floats.proofs.Sums.{abs_signed, apart, same_sign, mul_signed}

-- |z| / U + 1 / 2 cut, for U = 2 H
abbrev up_half : ℕ → ℕ → ℕ
up_half H n = (n + H) / (2 * H)

pub nearest_signed : (s : Bool) (n : ℕ) → nearest (signed s n) ≡ signed s (up_half (2 ^ 1073) n)
unfolding nearest
nearest_signed true zero = refl
nearest_signed true (suc n) = refl
nearest_signed false n = refl

pub by_sign : (z : ℤ) → (s : Bool) × (n : ℕ) × (z ≡ signed s n)
by_sign (pos n) = (false, n, refl)
by_sign (negsuc n) = (true, suc n, refl)

-- ---- n + H = q U + r with r < U
half_near : {H : ℕ} (n : ℕ) → 0 < H → Near (2 * (up_half H n * (2 * H))) (2 * n) (2 * H)
half_near {H} n h =
    let e : up_half H n * (2 * H) + (n + H) % (2 * H) ≡ n + H = div-add-mod' (n + H) (2 * H) in
    let l : (n + H) % (2 * H) < 2 * H = mod-lt (n + H) (omega arith) in
    record { above = omega arith; below = omega arith }

pub nearest_near : (z : ℤ) → 2 * nat_abs (nearest z *ℤ pos (2 ^ 1074) -ℤ z) ≤ 2 ^ 1074
nearest_near z = go (by_sign z)
  where
    go : (s : Bool) × (n : ℕ) × (z ≡ signed s n) → 2 * nat_abs (nearest z *ℤ pos (2 ^ 1074) -ℤ z) ≤ 2 ^ 1074
    go (s, n, e) =
        let q = up_half (2 ^ 1073) n in
        subst (λ (x : ℤ). 2 * nat_abs (nearest x *ℤ pos (2 ^ 1074) -ℤ x) ≤ 2 ^ 1074) (sym e)
        (subst (λ (x : ℤ). 2 * nat_abs (x -ℤ signed s n) ≤ 2 ^ 1074) (sym (ap (λ (x : ℤ). x *ℤ pos (2 ^ 1074)) (nearest_signed s n) ∙ mul_signed s q (2 ^ 1074)))
        (apart s (q * 2 ^ 1074) n (half_near n (pow_pos 1073))))

-- ---- below K

half_lt : {H : ℕ} (n K : ℕ) → 0 < H → (up_half H n < K) ↔ (n + H < K * (2 * H))
half_lt {H} n K h = div-lt_iff_lt-mul (omega arith)

-- |nearest z| < K is |z| + 1 / 2 < K
pub nearest_lt : (z : ℤ) (K : ℕ) → (nat_abs (nearest z) < K) ↔ (nat_abs z + 2 ^ 1073 < K * 2 ^ 1074)
nearest_lt z K = go (by_sign z)
  where
    go : (s : Bool) × (n : ℕ) × (z ≡ signed s n) → (nat_abs (nearest z) < K) ↔ (nat_abs z + 2 ^ 1073 < K * 2 ^ 1074)
    go (s, n, e) = subst (λ (x : ℤ). (nat_abs (nearest x) < K) ↔ (nat_abs x + 2 ^ 1073 < K * 2 ^ 1074)) (sym e)
        (subst (λ (x : ℕ). (x < K) ↔ (nat_abs (signed s n) + 2 ^ 1073 < K * 2 ^ 1074)) (sym (ap nat_abs (nearest_signed s n) ∙ abs_signed s (up_half (2 ^ 1073) n)))
        (subst (λ (x : ℕ). (up_half (2 ^ 1073) n < K) ↔ (x + 2 ^ 1073 < K * 2 ^ 1074)) (sym (abs_signed s n)) (half_lt n K (pow_pos 1073))))

-- ---- from a whole number that is off by one half at most, of size k: itself, or one more in size
-- where z is the half beyond it
module _ {H n : ℕ} (k : ℕ) (P : 0 < H) where
  half_tie : n ≡ k * (2 * H) + H → up_half H n ≡ k + 1
  half_tie e = div-eq_of_lt-le (2 * H) (omega (arith, add-mul k 1 (2 * H))) (omega (arith, add-mul k 1 (2 * H), add-mul (k + 1) 1 (2 * H)))

  half_plain : Near (2 * (k * (2 * H))) (2 * n) (2 * H) → (n ≡ k * (2 * H) + H → ⊥) → up_half H n ≡ k
  half_plain h ne =
      let l : n ≤ k * (2 * H) + H = omega (arith, h.below) in
      div-eq_of_lt-le (2 * H) (omega (arith, h.above)) (omega (arith, lt_of_le-ne l ne, add-mul k 1 (2 * H)))

module _ (s : Bool) (n k : ℕ) where
  half_more : signed s (k * 2 ^ 1074) +ℤ signed s (2 ^ 1073) ≡ signed s (k * 2 ^ 1074 + 2 ^ 1073)
  half_more = same_sign s (k * 2 ^ 1074) (2 ^ 1073)

  pub nearest_tie : signed s n ≡ signed s (k * 2 ^ 1074) +ℤ signed s (2 ^ 1073) → nearest (signed s n) ≡ signed s k +ℤ signed s 1
  nearest_tie e =
      let d : n ≡ k * 2 ^ 1074 + 2 ^ 1073 = sym (abs_signed s n) ∙ ap nat_abs (e ∙ half_more) ∙ abs_signed s (k * 2 ^ 1074 + 2 ^ 1073) in
      nearest_signed s n ∙ ap (signed s) (half_tie k (pow_pos 1073) d) ∙ sym (same_sign s k 1)

  pub nearest_plain : Near (2 * (k * 2 ^ 1074)) (2 * n) (2 ^ 1074) → (signed s n ≡ signed s (k * 2 ^ 1074) +ℤ signed s (2 ^ 1073) → ⊥) → nearest (signed s n) ≡ signed s k
  nearest_plain h ne = nearest_signed s n ∙ ap (signed s) (half_plain k (pow_pos 1073) h (λ e. ne (ap (signed s) e ∙ sym half_more)))
