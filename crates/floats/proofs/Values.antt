-- A finite value of a format as a whole number of the format's smallest values, in general for both
-- formats. In order: what `fits` says; the size (`size_shape`, `size_exact`, `size_of_value`);
-- `round` in these units (`round_is_units`, `round_value`). Assumes nothing.
use mathlib.Core.Path.{◌≡◌, sym, ap, ◌∙◌, subst}
use Prim.Native.Nat.{ℕ, zero, suc, ◌+◌, ◌-◌, ◌*◌, ◌/◌, ◌%◌, ◌^◌, ◌≤◌, ◌<◌}
use native.Mathlib.Nat.{lt_irrefl, lt_of_lt_of_le, lt_of_not-le, le_of_suc-le-suc, mul_assoc, mul-one, mul-pos, mul-div_cancel, div-one}
use native.Mathlib.Omega.{arith}
use mathlib.Core.Bool.{Bool, true, false, cond, ◌&&◌}
use lib.Dec.{T, ltb, leb, eqb, ltb→lt, leb→le, eqb→eq}
use lib.IntN.{ℤ, pos, negsuc}
use lib.Pow.{pow-add, pow_pos, pow-lt}
use lib.Ieee.{Float, inf, fin, Format, prec, emax, low, up, down, size, odd, units, round, fits}
use lib.Ieee.Fits.{and_l, and_r, down_pos, round_is, core}
use lib.Ieee.Exact.{HasValue, units_val}
use lib.Ieee.Nearest.{closest_same}
use lib.Ieee.Scale.{finite}
use Rattle.floats.proofs.Rounding.{dropped, kept, rounded}

-- ---- what `fits` says: the exponent is not too low, the digits are few

-- 2 ^ a ≤ 2 ^ l has a ≤ l
pub exponent_le : (a l : ℕ) → 2 ^ a ≤ 2 ^ l → a ≤ l
exponent_le a l h = le_of_suc-le-suc (lt_of_not-le (λ (g : suc l ≤ a). lt_irrefl (2 ^ l) (lt_of_lt_of_le (pow-lt g) h)))

pub down_fits : (f : Format) (s : Bool) (m : ℕ) (e : ℤ) → T (fits f (fin s m e)) → down e ≤ 2 ^ low f
unfolding fits
down_fits f s zero e t = flat e (eqb→eq (up e * down e) 1 t)
  where
    flat : (e : ℤ) → up e * down e ≡ 1 → down e ≤ 2 ^ low f
    flat (pos k) h = pow_pos (low f)
    flat (negsuc k) h = omega (arith, h, pow_pos (low f))
down_fits f s (suc m) e t =
    leb→le (down e) (2 ^ low f) (and_r (eqb (suc m % 2) 1 && ltb (suc m) (2 ^ prec f)) (leb (down e) (2 ^ low f))
    (and_l (eqb (suc m % 2) 1 && ltb (suc m) (2 ^ prec f) && leb (down e) (2 ^ low f)) (ltb (suc m * up e) (2 ^ suc (emax f) * down e)) t))

pub digits_fit : (f : Format) (s : Bool) (m : ℕ) (e : ℤ) → T (fits f (fin s m e)) → m < 2 ^ prec f
unfolding fits
digits_fit f s zero e t = pow_pos (prec f)
digits_fit f s (suc m) e t =
    ltb→lt (suc m) (2 ^ prec f) (and_r (eqb (suc m % 2) 1) (ltb (suc m) (2 ^ prec f)) (and_l (eqb (suc m % 2) 1 && ltb (suc m) (2 ^ prec f)) (leb (down e) (2 ^ low f))
    (and_l (eqb (suc m % 2) 1 && ltb (suc m) (2 ^ prec f) && leb (down e) (2 ^ low f)) (ltb (suc m * up e) (2 ^ suc (emax f) * down e)) t)))

-- ---- m * 2 ^ e in units of 2 ^ -l

abbrev pub size_in : ℕ → ℕ → ℤ → ℕ
size_in l m e = m * up e * 2 ^ l / down e

-- it is m * 2 ^ i for an i
pub size_shape : (l m : ℕ) (e : ℤ) → down e ≤ 2 ^ l → (i : ℕ) × (size_in l m e ≡ m * 2 ^ i)
size_shape l m (pos k) h = (k + l, div-one (m * 2 ^ k * 2 ^ l) ∙ mul_assoc m (2 ^ k) (2 ^ l) ∙ ap (λ (x : ℕ). m * x) (sym (pow-add 2 k l)))
size_shape l m (negsuc k) h =
    let b : suc k ≤ l = exponent_le (suc k) l h in
    let e : 2 ^ l ≡ 2 ^ (l - suc k) * 2 ^ suc k = ap (λ (x : ℕ). 2 ^ x) (omega arith) ∙ pow-add 2 (l - suc k) (suc k) in
    (l - suc k, ap (λ (x : ℕ). x * 2 ^ l / 2 ^ suc k) (mul-one m) ∙ ap (λ (x : ℕ). m * x / 2 ^ suc k) e ∙ ap (λ (x : ℕ). x / 2 ^ suc k) (sym (mul_assoc m (2 ^ (l - suc k)) (2 ^ suc k))) ∙ mul-div_cancel (m * 2 ^ (l - suc k)) (pow_pos (suc k)))

-- the division leaves no rest
pub size_exact : (l m : ℕ) (e : ℤ) → down e ≤ 2 ^ l → size_in l m e * down e ≡ m * up e * 2 ^ l
unfolding size_shape
size_exact l m (pos k) h = mul-one (size_in l m (pos k)) ∙ div-one (m * 2 ^ k * 2 ^ l)
size_exact l m (negsuc k) h =
    let b : suc k ≤ l = exponent_le (suc k) l h in
    let e : 2 ^ l ≡ 2 ^ (l - suc k) * 2 ^ suc k = ap (λ (x : ℕ). 2 ^ x) (omega arith) ∙ pow-add 2 (l - suc k) (suc k) in
    ap (λ (x : ℕ). x * 2 ^ suc k) (size_shape l m (negsuc k) h).1 ∙ mul_assoc m (2 ^ (l - suc k)) (2 ^ suc k) ∙ ap (λ (x : ℕ). m * x) (sym e) ∙ ap (λ (x : ℕ). x * 2 ^ l) (sym (mul-one m))

-- of a value known as n / 2 ^ l it is n
pub size_of_value : (l n : ℕ) (m : ℕ) (e : ℤ) → m * up e * 2 ^ l ≡ n * down e → size_in l m e ≡ n
size_of_value l n m e h = ap (λ (x : ℕ). x / down e) h ∙ mul-div_cancel n (down_pos e)

-- ---- `round` of a / c, which is n / 2 ^ low

module _ (f : Format) (s : Bool) (a : ℕ) {c : ℕ} (n : ℕ) (C : 0 < c) (e : a * 2 ^ low f ≡ n * c) where
  pub round_is_units : round f s a c ≡ units f s (kept (prec f) n) (dropped (prec f) n)
  round_is_units =
      round_is f s a c
      ∙ ap (λ (x : ℕ). core f s x c (size (x / c) - prec f)) e
      ∙ ap (λ (x : ℕ). core f s (n * c) c (size x - prec f)) (mul-div_cancel n C)
      ∙ ap (λ (x : ℕ). units f s x (dropped (prec f) n)) (closest_same (n * c) (c * 2 ^ dropped (prec f) n) n (2 ^ dropped (prec f) n) (mul-pos C (pow_pos (dropped (prec f) n))) (pow_pos (dropped (prec f) n)) (mul_assoc n c (2 ^ dropped (prec f) n)))

units_under : (f : Format) (s : Bool) (q k : ℕ) → T (finite (units f s q k)) → q * 2 ^ k < 2 ^ (low f + suc (emax f))
unfolding units
units_under f s q k = go (ltb (q * 2 ^ k) (2 ^ (low f + suc (emax f)))) (ltb→lt (q * 2 ^ k) (2 ^ (low f + suc (emax f))))
  where
    go : (b : Bool) → (T b → q * 2 ^ k < 2 ^ (low f + suc (emax f))) → T (finite (cond b (odd (suc (prec f)) s q k (low f)) (inf s))) → q * 2 ^ k < 2 ^ (low f + suc (emax f))
    go true h t = h tt
    go false h t = absurd t

-- a finite result is n to the format's digits
pub round_value : (f : Format) (s : Bool) (a : ℕ) {c : ℕ} (n : ℕ) → 0 < c → a * 2 ^ low f ≡ n * c → T (finite (round f s a c)) → HasValue (round f s a c) s (rounded (prec f) n) (2 ^ low f)
round_value f s a {c} n C e t =
    let is = round_is_units f s a n C e in
    subst (λ (z : Float). HasValue z s (rounded (prec f) n) (2 ^ low f)) (sym is)
    (units_val f s (kept (prec f) n) (dropped (prec f) n) (units_under f s (kept (prec f) n) (dropped (prec f) n) (subst (λ (z : Float). T (finite z)) is t)))
