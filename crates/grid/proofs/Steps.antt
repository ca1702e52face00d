-- Powers of two as f64 values, and the step count by its bits. In order: the step count's powers
-- (`step_power`); they pass the code's tests (`step_passed`); what passes them is one of the powers
-- (`passed_step`); so the code's answers (`step_low`, `step_high`, `step_bits`). Assumes nothing.
use mathlib.Core.Path.{◌≡◌, refl, sym, ap, ◌∙◌, subst}
use mathlib.Core.Bool.{Bool, true, false, not, ◌&&◌, ◌||◌, cond}
use Prim.Native.Nat.{ℕ, zero, suc, ◌+◌, ◌*◌, ◌/◌, ◌%◌, ◌^◌, ◌<◌, ◌≤◌}
use native.Mathlib.Omega.{arith}
use borrow.Enum.Match.{each_below}
use lib.Count.{count_trailing_zeros}
use lib.Dec.{T, T_not, leb, ltb, eqb, leb→le, le→leb, lt→ltb, eqb→eq}
use lib.IntN.{ℤ, pos, negsuc}
use lib.Pow.{pow-lt}
use lib.Ieee.{Float, nan, inf, fin, binary64, fits, is_nan, up, down, lt, le, minus, odd, of_fields, of_bits, to_bits, ones, top}
use lib.Ieee.Fits.{and_l, and_r, down_pos}
use lib.Ieee.Bits.{of_bits-to_bits}
use Rattle.integers.proofs.Tests.{differ, ≤-lt_z, le_z-≤}
use Rattle.floats.specs.Floats.{multiple}
use Rattle.floats.proofs.Comparisons.{Number, same_test, and_true, leb_or, lt_multiple, le_multiple}
use Rattle.floats.proofs.Values.{exponent_le}
use Rattle.grid.specs.Grid.{step_count}

-- 2 ^ k
abbrev pub power : ℕ → Float
power k = fin false 1 (pos k)

pub step_power : (x : Float) → T (step_count x) → (k : ℕ) × (k < 11) × (x ≡ power k)
unfolding step_count
step_power (fin false (suc zero) (pos k)) t = (k, omega (arith, leb→le k 10 t), refl)
step_power (fin false (suc zero) (negsuc k)) t = absurd t
step_power (fin false zero e) t = absurd t
step_power (fin false (suc (suc m)) e) t = absurd t
step_power (fin true m e) t = absurd t
step_power (inf s) t = absurd t
step_power nan t = absurd t

-- ---- the code's tests

-- in the bits, the digits after the first are 0
abbrev no_digits : Float → Bool
no_digits x = eqb (to_bits binary64 x % 2 ^ 52) 0

pub record Passed (x : Float) : Type 0 where
  pub low : T (not (lt x (power 0)))
  pub high : T (le x (power 10))
  pub digits : T (no_digits x)

-- the eleven powers pass them
power_passed : (k : ℕ) → k < 11 → T (not (lt (power k) (power 0)) && le (power k) (power 10) && no_digits (power k))
unfolding lt le to_bits
power_passed = each_below 11 (λ k. T (not (lt (power k) (power 0)) && le (power k) (power 10) && no_digits (power k))) (tt, (tt, (tt, (tt, (tt, (tt, (tt, (tt, (tt, (tt, (tt, tt)))))))))))

step_passed : (x : Float) → T (step_count x) → Passed x
step_passed x t =
    let p = step_power x t in
    let y = power p.0 in
    let a = power_passed p.0 p.1 in
    let b = and_l (not (lt y (power 0)) && le y (power 10)) (no_digits y) a in
    subst Passed (sym p.2) (record {
      low = and_l (not (lt y (power 0))) (le y (power 10)) b;
      high = and_r (not (lt y (power 0))) (le y (power 10)) b;
      digits = and_r (not (lt y (power 0)) && le y (power 10)) (no_digits y) a;
    })

-- ---- and what passes them is a step count

-- x is one where it is from 1 to 1024
abbrev Between : Float → Type 0
Between x = T (not (lt x (power 0))) → T (le x (power 10)) → T (step_count x)

at_most : (a b : ℕ) → T (ltb a b || (eqb a b && true)) → a ≤ b
at_most a b t = leb→le a b (subst T (ap (λ y. ltb a b || y) (sym (and_true (eqb a b))) ∙ sym (leb_or a b)) t)

one_digit : (s : Bool) (e : ℤ) → Between (fin s 1 e)
unfolding lt le step_count
one_digit true e h k = absurd (T_not (ltb 0 (1 * up e * 1 + 1 * 1 * down e)) h (lt→ltb 0 (1 * up e * 1 + 1 * 1 * down e) (omega (arith, down_pos e))))
one_digit false (negsuc j) h k = absurd (T_not (ltb 1 (1 * 2 ^ suc j)) h (lt→ltb 1 (1 * 2 ^ suc j) (omega (arith, pow-lt {i = 0} {j = suc j} (omega arith)))))
one_digit false (pos j) h k = le→leb j 10 (exponent_le j 10 (omega (arith, at_most (1 * 2 ^ j * 1) (1 * 2 ^ 10 * 1) k)))

infinite : (b s : Bool) (x : Float) → Between x → Between (cond b (inf s) x)
unfolding lt le
infinite true true x f h k = absurd h
infinite true false x f h k = absurd k
infinite false s x f h k = f h k

-- an exponent's field E and no digits after the first are 0, an infinity or a power
of_fields_lem : (s : Bool) (E : ℕ) → Between (of_fields binary64 s E 0)
unfolding lt of_fields odd count_trailing_zeros
of_fields_lem true zero h k = absurd h
of_fields_lem false zero h k = absurd h
of_fields_lem s (suc j) h k = infinite (eqb (suc j) (ones binary64)) s (fin s 1 (minus (j + 52) 1074)) (one_digit s (minus (j + 52) 1074)) h k

passed_step : {x : Float} → T (fits binary64 x) → Passed x → T (step_count x)
unfolding of_bits
passed_step {x} f p =
    let b = to_bits binary64 x in
    let E = b % top binary64 / 2 ^ 52 in
    let s = leb (top binary64) b in
    subst Between (ap (of_fields binary64 s E) (sym (eqb→eq (b % 2 ^ 52) 0 p.digits)) ∙ of_bits-to_bits binary64 x f) (of_fields_lem s E) p.low p.high

-- ---- so the code's answers

one : Number (power 0)
unfolding fits
one = record { fitting = tt; finite = tt }

-- 1 is at most each of the powers
least : (k : ℕ) → k < 11 → T (le (power 0) (power k))
unfolding lt le
least = each_below 11 (λ k. T (le (power 0) (power k))) (tt, (tt, (tt, (tt, (tt, (tt, (tt, (tt, (tt, (tt, (tt, tt)))))))))))

from_one : (x : Float) → T (step_count x) → T (le (power 0) x)
from_one x t = let p = step_power x t in subst (λ y. T (le (power 0) y)) (sym p.2) (least p.0 p.1)

-- what compares is no NaN
pub no_nan : (x y : Float) → le x y ≡ true → T (not (is_nan x))
unfolding le is_nan
no_nan nan y h = differ h
no_nan (inf s) y h = tt
no_nan (fin s m e) y h = tt

-- what is at least 1 is not below it
not_below : (x : Float) → fits binary64 x ≡ true → T (not (is_nan x)) → le (power 0) x ≡ true → lt x (power 0) ≡ false
not_below nan f n h = unfold is_nan in absurd n
not_below (inf true) f n h = unfold le in differ h
not_below (inf false) f n h = unfold lt in refl
not_below (fin s m e) f n h =
    let X : Number (fin s m e) = record { fitting = subst T (sym f) tt; finite = tt } in
    lt_multiple (fin s m e) (power 0) X one ∙ ≤-lt_z (le_z-≤ (multiple (power 0)) (multiple (fin s m e)) (sym (le_multiple one X) ∙ h))

module _ (x : Float) where
  pub step_low : le (power 0) x ≡ false → false ≡ step_count x
  step_low e = same_test false (step_count x) (λ t. absurd t) (λ t. subst T e (from_one x t))

  pub step_high : le x (power 10) ≡ false → false ≡ step_count x
  step_high e = same_test false (step_count x) (λ t. absurd t) (λ t. subst T e (step_passed x t).high)

  pub step_bits : fits binary64 x ≡ true → le (power 0) x ≡ true → le x (power 10) ≡ true → no_digits x ≡ step_count x
  step_bits f l h = same_test (no_digits x) (step_count x)
      (λ t. passed_step (subst T (sym f) tt) (record { low = subst (λ b. T (not b)) (sym (not_below x f (no_nan x (power 10) h) l)) tt; high = subst T (sym h) tt; digits = t })) (λ t. (step_passed x t).digits)
