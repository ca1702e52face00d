-- Operations of f64 as multiples of 2 ^ -1074. `RoundOf z r`: r is what the format makes of z * 2 ^
-- -1074. In order: what a rounded value is (`value`, `near`, `exact`, `small_exact`); sums and
-- differences (`add_round`, `sub_round`); the product by a power of two (`mul_round`). Assumes
-- nothing.
use mathlib.Core.Path.{◌≡◌, refl, sym, ap, ap₂, ◌∙◌, subst}
use Prim.Native.Nat.{ℕ, zero, suc, ◌+◌, ◌-◌, ◌*◌, ◌^◌, ◌≤◌, ◌<◌}
use native.Mathlib.Nat.{le_of_lt, le_of_mul-le-mul_right, mul_comm, mul_assoc, mul_right_comm, mul-one, one-mul, zero-mul, add-mul, mul-sub, mul-pos, mul-le-mul_right}
use native.Mathlib.Omega.{arith}
use mathlib.Core.Bool.{Bool, true, false, cond, not, ◌&&◌}
use lib.Dec.{T, ltb, ltb→lt, nltb→le}
use lib.IntN.{ℤ, pos, neg_ℤ, nat_abs, ◌+ℤ◌, ◌-ℤ◌, ◌*ℤ◌, +ℤ_comm, neg_ℤ-neg_ℤ}
use lib.Pow.{pow-add, pow_pos}
use lib.Ieee.{Float, nan, inf, fin, binary64, up, down, unlike, round, neg, add, sub, sum, mul}
use lib.Ieee.Fits.{down_pos, neg-fits}
use lib.Ieee.Exact.{HasValue, units_val}
use lib.Ieee.Scale.{finite}
use Rattle.integers.proofs.Order.{zarith, add_parts, sub_parts, neg_parts}
use Rattle.integers.proofs.Sizes.{abs_parts}
use Rattle.floats.specs.Floats.{multiple, signed, size}
use Rattle.floats.proofs.Rounding.{rounded, rounded_exact, kept, dropped, Near, near_below}
use Rattle.floats.proofs.Values.{down_fits, digits_fit, size_shape, size_of_value, round_is_units, round_value}
use Rattle.floats.proofs.Comparisons.{Number, multiple_exact, here, there}

-- r is z * 2 ^ -1074, rounded once
pub record RoundOf (z : ℤ) (r : Float) : Type 0 where
  pub sign : Bool
  pub num : ℕ
  pub den : ℕ
  pub n : ℕ
  pub above : 0 < den
  pub count : num * 2 ^ 1074 ≡ n * den
  pub is : r ≡ round binary64 sign num den
  pub sized : z ≡ signed sign n

of_value : (x : Float) (s : Bool) (k : ℕ) → HasValue x s k (2 ^ 1074) → multiple x ≡ signed s k
unfolding multiple
of_value nan s k h = absurd h
of_value (inf t) s k h = absurd h
of_value (fin t m e) s k h = ap₂ signed h.0 (size_of_value 1074 k m e h.1)

pub abs_signed : (s : Bool) (k : ℕ) → nat_abs (signed s k) ≡ k
abs_signed true zero = refl
abs_signed true (suc k) = refl
abs_signed false k = refl

pub apart : (s : Bool) (a b : ℕ) {c : ℕ} → Near (2 * a) (2 * b) c → 2 * nat_abs (signed s a -ℤ signed s b) ≤ c
apart true a b {c} h = omega (zarith, h.above, h.below, sub_parts (neg_ℤ (pos a)) (neg_ℤ (pos b)), abs_parts (neg_ℤ (pos a) -ℤ neg_ℤ (pos b)), neg_parts (pos a), neg_parts (pos b))
apart false a b {c} h = omega (zarith, h.above, h.below, sub_parts (pos a) (pos b), abs_parts (pos a -ℤ pos b))

pub mul_signed : (s : Bool) (k n : ℕ) → signed s k *ℤ pos n ≡ signed s (k * n)
mul_signed true zero n = ap pos (zero-mul n) ∙ sym (ap (λ (x : ℕ). neg_ℤ (pos x)) (zero-mul n))
mul_signed true (suc k) n = refl
mul_signed false k n = refl

finite_of_value : (x : Float) (s : Bool) (a c : ℕ) → HasValue x s a c → T (finite x)
finite_of_value nan s a c h = absurd h
finite_of_value (inf t) s a c h = absurd h
finite_of_value (fin t m e) s a c h = tt

-- below 2 ^ 1024 nothing overflows
pub finite_below : {z : ℤ} {r : Float} (o : RoundOf z r) → rounded 53 o.n < 2 ^ 2098 → T (finite r)
finite_below {z} {r} o h =
    finite_of_value r o.sign (rounded 53 o.n) (2 ^ 1074)
    (subst (λ (x : Float). HasValue x o.sign (rounded 53 o.n) (2 ^ 1074)) (sym (o.is ∙ round_is_units binary64 o.sign o.num o.n o.above o.count))
    (units_val binary64 o.sign (kept 53 o.n) (dropped 53 o.n) h))

module _ {z : ℤ} {r : Float} (o : RoundOf z r) (f : T (finite r)) where
  pub value : multiple r ≡ signed o.sign (rounded 53 o.n)
  value = of_value r o.sign (rounded 53 o.n)
      (subst (λ (x : Float). HasValue x o.sign (rounded 53 o.n) (2 ^ 1074)) (sym o.is)
      (round_value binary64 o.sign o.num o.n o.above o.count (subst (λ (x : Float). T (finite x)) o.is f)))

  -- z is m * 2 ^ i with few digits m
  pub exact : {m : ℕ} (i : ℕ) → m < 2 ^ 53 → o.n ≡ m * 2 ^ i → multiple r ≡ z
  exact {m} i h e = value ∙ ap (λ (x : ℕ). signed o.sign (rounded 53 x)) e ∙ ap (signed o.sign) (rounded_exact 53 i h ∙ sym e) ∙ sym o.sized

  -- below 2 ^ j * 2 ^ -1074 the error is at most half of 2 ^ (j - 53)
  pub near : (j : ℕ) → 53 ≤ j → nat_abs (multiple r) < 2 ^ j → 2 * nat_abs (multiple r -ℤ z) ≤ 2 ^ (j - 53)
  near j J h =
      let l : rounded 53 o.n < 2 ^ j = subst (λ (x : ℕ). x < 2 ^ j) (ap nat_abs value ∙ abs_signed o.sign (rounded 53 o.n)) h in
      subst (λ (x : ℤ). 2 * nat_abs (x -ℤ z) ≤ 2 ^ (j - 53)) (sym value)
      (subst (λ (x : ℤ). 2 * nat_abs (signed o.sign (rounded 53 o.n) -ℤ x) ≤ 2 ^ (j - 53)) (sym o.sized)
      (apart o.sign (rounded 53 o.n) o.n (near_below o.n (omega arith) J l)))

-- so what has few digits and is below 2 ^ 1024 is exact
pub small_exact : {z : ℤ} {r : Float} (o : RoundOf z r) {m : ℕ} (i : ℕ) → m < 2 ^ 53 → nat_abs z ≡ m * 2 ^ i → m * 2 ^ i < 2 ^ 2098 → T (finite r) × (multiple r ≡ z)
small_exact o {m} i h e l =
    let n : o.n ≡ m * 2 ^ i = sym (ap nat_abs o.sized ∙ abs_signed o.sign o.n) ∙ e in
    let f = finite_below o (subst (λ (x : ℕ). x < 2 ^ 2098) (sym (ap (rounded 53) n ∙ rounded_exact 53 i h)) l) in
    (f, exact o f i h n)

-- ---- sums

pub sub_mul : (a b k : ℕ) → (a - b) * k ≡ a * k - b * k
sub_mul a b k = mul_comm (a - b) k ∙ mul-sub k a b ∙ ap₂ ◌-◌ (mul_comm k a) (mul_comm k b)

-- (a - b) U = (A - B) c
less : (a b A B c U : ℕ) → a * U ≡ A * c → b * U ≡ B * c → (a - b) * U ≡ (A - B) * c
less a b A B c U p q = sub_mul a b U ∙ ap₂ ◌-◌ p q ∙ sym (sub_mul A B c)

pub same_sign : (s : Bool) (A B : ℕ) → signed s A +ℤ signed s B ≡ signed s (A + B)
same_sign true A B = omega (zarith, add_parts (neg_ℤ (pos A)) (neg_ℤ (pos B)), neg_parts (pos A), neg_parts (pos B), neg_parts (pos (A + B)))
same_sign false A B = refl

-- the larger one's sign
larger : (s : Bool) {A B : ℕ} → B ≤ A → signed s A +ℤ signed (not s) B ≡ signed s (A - B)
larger true {A} {B} h = omega (zarith, add_parts (neg_ℤ (pos A)) (pos B), neg_parts (pos A), neg_parts (pos (A - B)))
larger false {A} {B} h = omega (zarith, add_parts (pos A) (neg_ℤ (pos B)), neg_parts (pos B))

smaller : (s : Bool) {A B : ℕ} → A ≤ B → signed s A +ℤ signed (not s) B ≡ signed (not s) (B - A)
smaller true {A} {B} h = +ℤ_comm (neg_ℤ (pos A)) (pos B) ∙ larger false h
smaller false {A} {B} h = +ℤ_comm (pos A) (neg_ℤ (pos B)) ∙ larger true h

-- equal ones give +0
cancel : (s u : Bool) {A B : ℕ} → B ≤ A → (T (not u) → A ≤ B) → signed s A +ℤ signed (not s) B ≡ signed (s && u) (A - B)
cancel true true {A} {B} h k = larger true h
cancel true false {A} {B} h k = omega (zarith, k tt, add_parts (neg_ℤ (pos A)) (pos B), neg_parts (pos A))
cancel false u {A} {B} h k = larger false h

-- ±a / c + ±b / c, where they are A and B times 2 ^ -1074
module _ (a b : ℕ) {c : ℕ} (A B : ℕ) (C : 0 < c) (p : a * 2 ^ 1074 ≡ A * c) (q : b * 2 ^ 1074 ≡ B * c) where
  order : a ≤ b → A ≤ B
  order h = le_of_mul-le-mul_right (subst (λ (x : ℕ). x ≤ B * c) p (subst (λ (x : ℕ). a * 2 ^ 1074 ≤ x) q (mul-le-mul_right (2 ^ 1074) h))) C

  equal : (s : Bool) → RoundOf (signed s A +ℤ signed s B) (round binary64 s (a + b) c)
  equal s = record { sign = s; num = a + b; den = c; n = A + B; above = C; count = add-mul a b (2 ^ 1074) ∙ ap₂ ◌+◌ p q ∙ sym (add-mul A B c); is = refl; sized = same_sign s A B }

module _ (a b : ℕ) {c : ℕ} (A B : ℕ) (C : 0 < c) (p : a * 2 ^ 1074 ≡ A * c) (q : b * 2 ^ 1074 ≡ B * c) where
  differ : (s : Bool) → RoundOf (signed s A +ℤ signed (not s) B) (cond (ltb a b) (round binary64 (not s) (b - a) c) (round binary64 (s && ltb b a) (a - b) c))
  differ s = go (ltb a b) (ltb b a) (ltb→lt a b) (nltb→le a b) (nltb→le b a)
    where
      go : (t u : Bool) → (T t → a < b) → (T (not t) → b ≤ a) → (T (not u) → a ≤ b) → RoundOf (signed s A +ℤ signed (not s) B) (cond t (round binary64 (not s) (b - a) c) (round binary64 (s && u) (a - b) c))
      go true u f g k = record { sign = not s; num = b - a; den = c; n = B - A; above = C; count = less b a B A c (2 ^ 1074) q p; is = refl; sized = smaller s (order a b A B C p q (le_of_lt (f tt))) }
      go false u f g k = record { sign = s && u; num = a - b; den = c; n = A - B; above = C; count = less a b A B c (2 ^ 1074) p q; is = refl; sized = cancel s u (order b a B A C q p (g tt)) (λ t. order a b A B C p q (k t)) }

  sum_round : (s t : Bool) → RoundOf (signed s A +ℤ signed t B) (sum binary64 s a t b c)
  unfolding sum
  sum_round true true = equal a b A B C p q true
  sum_round false false = equal a b A B C p q false
  sum_round true false = differ true
  sum_round false true = differ false

pub add_round : (x y : Float) → Number x → Number y → RoundOf (multiple x +ℤ multiple y) (add binary64 x y)
unfolding add multiple
add_round (fin s m e) (fin t n d) h k =
    sum_round (m * up e * down d) (n * up d * down e) (size m e) (size n d) (mul-pos (down_pos e) (down_pos d))
    (here s m e t n d h.fitting k.fitting) (there s m e t n d h.fitting k.fitting) s t
add_round nan y h k = absurd h.finite
add_round (inf s) y h k = absurd h.finite
add_round (fin s m e) nan h k = absurd k.finite
add_round (fin s m e) (inf t) h k = absurd k.finite

-- ---- differences

neg_multiple : (x : Float) → multiple (neg x) ≡ neg_ℤ (multiple x)
unfolding multiple neg
neg_multiple nan = refl
neg_multiple (inf s) = refl
neg_multiple (fin true m e) = sym (neg_ℤ-neg_ℤ (pos (size m e)))
neg_multiple (fin false m e) = refl

neg_finite : (x : Float) → T (finite x) → T (finite (neg x))
unfolding neg
neg_finite nan t = absurd t
neg_finite (inf s) t = absurd t
neg_finite (fin s m e) t = tt

pub neg_number : {x : Float} → Number x → Number (neg x)
neg_number {x} h = record { fitting = neg-fits binary64 x h.fitting; finite = neg_finite x h.finite }

pub sub_round : {x y : Float} → Number x → Number y → RoundOf (multiple x -ℤ multiple y) (sub binary64 x y)
unfolding sub
sub_round {x} {y} h k = subst (λ (z : ℤ). RoundOf (multiple x +ℤ z) (add binary64 x (neg y))) (neg_multiple y) (add_round x (neg y) h (neg_number k))

-- ---- the product by 2 ^ t

unlike_no : (s : Bool) → s ≡ unlike s false
unlike_no true = refl
unlike_no false = refl

scale : (a c A k U : ℕ) → A * c ≡ a * U → a * (1 * k) * U ≡ A * k * (c * 1)
scale a c A k U p = ap (λ (x : ℕ). a * x * U) (one-mul k) ∙ mul_right_comm a k U ∙ ap (λ (x : ℕ). x * k) (sym p) ∙ mul_right_comm A c k ∙ ap (λ (x : ℕ). A * k * x) (sym (mul-one c))

pub mul_round : (x : Float) (t : ℕ) → Number x → RoundOf (multiple x *ℤ pos (2 ^ t)) (mul binary64 x (fin false 1 (pos t)))
unfolding mul multiple
mul_round nan t h = absurd h.finite
mul_round (inf s) t h = absurd h.finite
mul_round (fin s m e) t h = record {
  sign = unlike s false;
  num = m * up e * (1 * 2 ^ t);
  den = down e * 1;
  n = size m e * 2 ^ t;
  above = mul-pos (down_pos e) (pow_pos 0);
  count = scale (m * up e) (down e) (size m e) (2 ^ t) (2 ^ 1074) (multiple_exact s m e h.fitting);
  is = refl;
  sized = mul_signed s (size m e) (2 ^ t) ∙ ap (λ (u : Bool). signed u (size m e * 2 ^ t)) (unlike_no s);
}

-- its size has few digits
product_shape : (x : Float) (t : ℕ) (h : Number x) → (m : ℕ) × (i : ℕ) × (m < 2 ^ 53) × ((mul_round x t h).n ≡ m * 2 ^ i)
unfolding mul_round
product_shape (fin s m e) t h =
    let g = size_shape 1074 m e (down_fits binary64 s m e h.fitting) in
    (m, g.0 + t, digits_fit binary64 s m e h.fitting, ap (λ (x : ℕ). x * 2 ^ t) g.1 ∙ mul_assoc m (2 ^ g.0) (2 ^ t) ∙ ap (λ (x : ℕ). m * x) (sym (pow-add 2 g.0 t)))
product_shape nan t h = absurd h.finite
product_shape (inf s) t h = absurd h.finite

-- so a finite product by 2 ^ t is exact
pub mul_exact : {x : Float} (t : ℕ) → Number x → T (finite (mul binary64 x (fin false 1 (pos t)))) → multiple (mul binary64 x (fin false 1 (pos t))) ≡ multiple x *ℤ pos (2 ^ t)
mul_exact {x} t h f = let g = product_shape x t h in exact (mul_round x t h) f g.1 g.2 g.3
