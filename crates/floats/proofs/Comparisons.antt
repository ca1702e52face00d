-- Comparisons of f64 are those of their exact values. In order: the size, exactly
-- (`multiple_exact`); tests scaled by one factor; the three comparisons (`lt_multiple`,
-- `eq_multiple`, `le_multiple`); the sign (`sign_multiple`). Assumes nothing.
use mathlib.Core.Path.{◌≡◌, refl, sym, ap, ap₂, ◌∙◌, subst}
use Prim.Native.Nat.{ℕ, zero, suc, ◌+◌, ◌*◌, ◌^◌, ◌≤◌, ◌<◌}
use native.Mathlib.Nat.{eq-or-lt_of_le, mul_comm, mul_assoc, mul_right_comm, zero-mul, add-mul, zero-add, mul-pos, mul-lt-mul_of_pos_right, lt_of_mul-lt-mul_right, eq_of_mul-eq-mul_right}
use native.Mathlib.Omega.{arith}
use mathlib.Core.Bool.{Bool, true, false, ◌&&◌, ◌||◌, beq}
use mathlib.Core.Logic.{◌⊎◌, inl, inr}
use lib.Dec.{T, ltb, leb, eqb, ltb→lt, lt→ltb, leb→le, le→leb, eqb→eq, eqb_refl}
use lib.IntN.{ℤ, pos, negsuc, nat_abs}
use lib.Signed.{lt_z, le_z}
use lib.Pow.{pow_pos}
use lib.Ieee.{Float, nan, inf, fin, binary64, up, down, fits, lt, eq, le, below, level}
use lib.Ieee.Fits.{down_pos, and_l, and_r}
use lib.Ieee.Scale.{finite}
use Rattle.integers.specs.Test.{eq_z}
use Rattle.floats.specs.Floats.{multiple, signed, size, number}
use Rattle.floats.proofs.Values.{down_fits, size_exact}

-- x is finite and fits
pub record Number (x : Float) : Type 0 where
  pub fitting : T (fits binary64 x)
  pub finite : T (finite x)

pub number_is : (x : Float) → T (number x) → Number x
unfolding number
number_is x t = record { fitting = and_l (fits binary64 x) (finite x) t; finite = and_r (fits binary64 x) (finite x) t }

-- of an f64 in code, which fits
pub number_finite : (x : Float) → fits binary64 x ≡ true → number x ≡ finite x
unfolding number
number_finite x e = ap (λ (b : Bool). b && finite x) e

-- ---- the size, exact: |x| 2 ^ 1074
pub multiple_exact : (s : Bool) (m : ℕ) (e : ℤ) → T (fits binary64 (fin s m e)) → size m e * down e ≡ m * up e * 2 ^ 1074
multiple_exact s m e t = size_exact 1074 m e (down_fits binary64 s m e t)

-- ---- comparisons: a / c < b / d is A < B, where A = a U / c and B = b U / d

pub same_test : (p q : Bool) → (T p → T q) → (T q → T p) → p ≡ q
same_test true true f g = refl
same_test true false f g = absurd (f tt)
same_test false true f g = absurd (g tt)
same_test false false f g = refl

or_l : (a b : Bool) → T a → T (a || b)
or_l true b t = tt
or_l false b t = absurd t

or_r : (a b : Bool) → T b → T (a || b)
or_r true b t = tt
or_r false b t = t

-- a U = A W and b U = B W
module _ (a b A B : ℕ) {U W : ℕ} (P : 0 < U) (Q : 0 < W) (p : a * U ≡ A * W) (q : b * U ≡ B * W) where
  scaled_lt : ltb a b ≡ ltb A B
  scaled_lt = same_test (ltb a b) (ltb A B)
      (λ t. lt→ltb A B (lt_of_mul-lt-mul_right W (subst (λ (x : ℕ). x < B * W) p (subst (λ (x : ℕ). a * U < x) q (mul-lt-mul_of_pos_right (ltb→lt a b t) P)))))
      (λ t. lt→ltb a b (lt_of_mul-lt-mul_right U (subst (λ (x : ℕ). x < b * U) (sym p) (subst (λ (x : ℕ). A * W < x) (sym q) (mul-lt-mul_of_pos_right (ltb→lt A B t) Q)))))

  scaled_eq : eqb a b ≡ eqb A B
  scaled_eq = same_test (eqb a b) (eqb A B)
      (λ t. subst (λ (x : ℕ). T (eqb A x)) (eq_of_mul-eq-mul_right W Q A B (sym p ∙ ap (λ (x : ℕ). x * U) (eqb→eq a b t) ∙ q)) (eqb_refl A))
      (λ t. subst (λ (x : ℕ). T (eqb a x)) (eq_of_mul-eq-mul_right U P a b (p ∙ ap (λ (x : ℕ). x * W) (eqb→eq A B t) ∙ sym q)) (eqb_refl a))

  sums : (a + b) * U ≡ (A + B) * W
  sums = add-mul a b U ∙ ap₂ ◌+◌ p q ∙ sym (add-mul A B W)

scaled_below : (a b A B : ℕ) {U W : ℕ} → 0 < U → 0 < W → a * U ≡ A * W → b * U ≡ B * W → (s t : Bool) → below s a t b ≡ below s A t B
scaled_below a b A B {U} {W} P Q p q false false = scaled_lt a b A B P Q p q
scaled_below a b A B {U} {W} P Q p q false true = refl
scaled_below a b A B {U} {W} P Q p q true false = scaled_lt 0 (a + b) 0 (A + B) P Q (zero-mul U ∙ sym (zero-mul W)) (sums a b A B P Q p q)
scaled_below a b A B {U} {W} P Q p q true true = scaled_lt b a B A P Q q p

scaled_level : (a b A B : ℕ) {U W : ℕ} → 0 < U → 0 < W → a * U ≡ A * W → b * U ≡ B * W → (s t : Bool) → level s a t b ≡ level s A t B
scaled_level a b A B {U} {W} P Q p q s t = ap₂ (λ (x y : Bool). x && (beq s t || y)) (scaled_eq a b A B P Q p q) (scaled_eq a 0 A 0 P Q p (zero-mul U ∙ sym (zero-mul W)))

-- the tests of signed numbers
lt_z_signed : (s t : Bool) (A B : ℕ) → lt_z (signed s A) (signed t B) ≡ below s A t B
lt_z_signed false false A B = refl
lt_z_signed false true A zero = same_test (ltb A 0) false (λ t. omega (arith, ltb→lt A 0 t)) (λ t. absurd t)
lt_z_signed false true A (suc B) = refl
lt_z_signed true false zero B = ap (ltb 0) (sym (zero-add B))
lt_z_signed true false (suc A) B = same_test true (ltb 0 (suc A + B)) (λ t. lt→ltb 0 (suc A + B) (omega arith)) (λ t. tt)
lt_z_signed true true zero zero = refl
lt_z_signed true true zero (suc B) = same_test false (ltb (suc B) 0) (λ t. absurd t) (λ t. omega (arith, ltb→lt (suc B) 0 t))
lt_z_signed true true (suc A) zero = same_test true (ltb 0 (suc A)) (λ t. lt→ltb 0 (suc A) (omega arith)) (λ t. tt)
lt_z_signed true true (suc A) (suc B) = same_test (ltb B A) (ltb (suc B) (suc A)) (λ t. lt→ltb (suc B) (suc A) (omega (arith, ltb→lt B A t))) (λ t. lt→ltb B A (omega (arith, ltb→lt (suc B) (suc A) t)))

neq : (a b : ℕ) → (a ≡ b → ⊥) → false ≡ eqb a b
neq a b h = same_test false (eqb a b) (λ t. absurd t) (λ t. absurd (h (eqb→eq a b t)))

same_eqb : (a b : ℕ) {c d : ℕ} → (a ≡ b → c ≡ d) → (c ≡ d → a ≡ b) → eqb a b ≡ eqb c d
same_eqb a b {c} {d} f g = same_test (eqb a b) (eqb c d)
    (λ t. subst (λ (x : ℕ). T (eqb c x)) (f (eqb→eq a b t)) (eqb_refl c)) (λ t. subst (λ (x : ℕ). T (eqb a x)) (g (eqb→eq c d t)) (eqb_refl a))

pub and_true : (b : Bool) → b ≡ b && true
and_true true = refl
and_true false = refl

and_self : (b : Bool) → b ≡ b && b
and_self true = refl
and_self false = refl

and_no : (a b : Bool) → (T a → T b → ⊥) → false ≡ a && b
and_no true true h = absurd (h tt tt)
and_no true false h = refl
and_no false b h = refl

apart : (A : ℕ) {B : ℕ} → (A ≡ B → A ≡ 0 → ⊥) → false ≡ eqb A B && eqb A 0
apart A {B} h = and_no (eqb A B) (eqb A 0) (λ t u. h (eqb→eq A B t) (eqb→eq A 0 u))

eq_z_signed : (s t : Bool) (A B : ℕ) → eq_z (signed s A) (signed t B) ≡ level s A t B
eq_z_signed false false A B = and_true (eqb A B)
eq_z_signed false true zero zero = refl
eq_z_signed false true zero (suc B) = apart 0 {B = suc B} (λ e z. omega (arith, e))
eq_z_signed false true (suc A) zero = and_self (eqb (suc A) 0)
eq_z_signed false true (suc A) (suc B) = apart (suc A) (λ e z. omega (arith, z))
eq_z_signed true false zero zero = refl
eq_z_signed true false zero (suc B) = and_true (eqb 0 (suc B))
eq_z_signed true false (suc A) B = apart (suc A) (λ e z. omega (arith, z))
eq_z_signed true true zero zero = refl
eq_z_signed true true zero (suc B) = neq 0 (suc B) (λ e. omega (arith, e)) ∙ and_true (eqb 0 (suc B))
eq_z_signed true true (suc A) zero = neq (suc A) 0 (λ e. omega (arith, e)) ∙ and_true (eqb (suc A) 0)
eq_z_signed true true (suc A) (suc B) = same_eqb A B (λ e. ap suc e) (λ e. omega (arith, e)) ∙ and_true (eqb (suc A) (suc B))

pub leb_or : (a b : ℕ) → leb a b ≡ ltb a b || eqb a b
leb_or a b = same_test (leb a b) (ltb a b || eqb a b)
    (λ t. by (eq-or-lt_of_le (leb→le a b t))) (λ t. le→leb a b (from (ltb a b) (eqb a b) (λ u. omega (arith, ltb→lt a b u)) (λ u. omega (arith, eqb→eq a b u)) t))
  where
    by : (a ≡ b) ⊎ (a < b) → T (ltb a b || eqb a b)
    by (inl e) = or_r (ltb a b) (eqb a b) (subst (λ (x : ℕ). T (eqb a x)) e (eqb_refl a))
    by (inr l) = or_l (ltb a b) (eqb a b) (lt→ltb a b l)

    from : (p q : Bool) → (T p → a ≤ b) → (T q → a ≤ b) → T (p || q) → a ≤ b
    from true q f g t = f tt
    from false q f g t = g t

eqb_sym : (a b : ℕ) → eqb a b ≡ eqb b a
eqb_sym a b = same_eqb a b sym sym

le_z_or : (x y : ℤ) → le_z x y ≡ lt_z x y || eq_z x y
le_z_or (pos a) (pos b) = leb_or a b
le_z_or (pos a) (negsuc b) = refl
le_z_or (negsuc a) (pos b) = refl
le_z_or (negsuc a) (negsuc b) = leb_or b a ∙ ap (λ (t : Bool). ltb b a || t) (eqb_sym b a)

-- the fractions of two sizes over one: a / c = A / U, b / d = B / U
pub over : (a c d A U : ℕ) → A * c ≡ a * U → a * d * U ≡ A * (c * d)
over a c d A U p = mul_right_comm a d U ∙ ap (λ (x : ℕ). x * d) (sym p) ∙ mul_assoc A c d

module _ (s : Bool) (m : ℕ) (e : ℤ) (t : Bool) (n : ℕ) (d : ℤ) (h : T (fits binary64 (fin s m e))) (k : T (fits binary64 (fin t n d))) where
  pub here : m * up e * down d * 2 ^ 1074 ≡ size m e * (down e * down d)
  here = over (m * up e) (down e) (down d) (size m e) (2 ^ 1074) (multiple_exact s m e h)

  pub there : n * up d * down e * 2 ^ 1074 ≡ size n d * (down e * down d)
  there = over (n * up d) (down d) (down e) (size n d) (2 ^ 1074) (multiple_exact t n d k) ∙ ap (λ (x : ℕ). size n d * x) (mul_comm (down d) (down e))

  lt_fin : lt (fin s m e) (fin t n d) ≡ lt_z (multiple (fin s m e)) (multiple (fin t n d))
  unfolding lt multiple
  lt_fin = scaled_below (m * up e * down d) (n * up d * down e) (size m e) (size n d) (pow_pos 1074) (mul-pos (down_pos e) (down_pos d)) here there s t ∙ sym (lt_z_signed s t (size m e) (size n d))

  eq_fin : eq (fin s m e) (fin t n d) ≡ eq_z (multiple (fin s m e)) (multiple (fin t n d))
  unfolding eq multiple
  eq_fin = scaled_level (m * up e * down d) (n * up d * down e) (size m e) (size n d) (pow_pos 1074) (mul-pos (down_pos e) (down_pos d)) here there s t ∙ sym (eq_z_signed s t (size m e) (size n d))

pub lt_multiple : (x y : Float) → Number x → Number y → lt x y ≡ lt_z (multiple x) (multiple y)
lt_multiple (fin s m e) (fin t n d) h k = lt_fin s m e t n d h.fitting k.fitting
lt_multiple nan y h k = absurd h.finite
lt_multiple (inf s) y h k = absurd h.finite
lt_multiple (fin s m e) nan h k = absurd k.finite
lt_multiple (fin s m e) (inf t) h k = absurd k.finite

pub eq_multiple : (x y : Float) → Number x → Number y → eq x y ≡ eq_z (multiple x) (multiple y)
eq_multiple (fin s m e) (fin t n d) h k = eq_fin s m e t n d h.fitting k.fitting
eq_multiple nan y h k = absurd h.finite
eq_multiple (inf s) y h k = absurd h.finite
eq_multiple (fin s m e) nan h k = absurd k.finite
eq_multiple (fin s m e) (inf t) h k = absurd k.finite

pub le_multiple : {x y : Float} → Number x → Number y → le x y ≡ le_z (multiple x) (multiple y)
unfolding le
le_multiple {x} {y} h k = ap₂ ◌||◌ (lt_multiple x y h k) (eq_multiple x y h k) ∙ sym (le_z_or (multiple x) (multiple y))

-- ---- the sign is that of the test against 0
sign_of : (z : ℤ) → z ≡ signed (lt_z z (pos 0)) (nat_abs z)
sign_of (pos n) = ap (λ (s : Bool). signed s n) (sym (same_test (ltb n 0) false (λ t. omega (arith, ltb→lt n 0 t)) (λ t. absurd t)))
sign_of (negsuc n) = refl

pub sign_multiple : {x : Float} → Number x → multiple x ≡ signed (lt x (fin false 0 (pos 0))) (nat_abs (multiple x))
unfolding multiple fits
sign_multiple {x} h = sign_of (multiple x) ∙ ap (λ (s : Bool). signed s (nat_abs (multiple x))) (sym (lt_multiple x (fin false 0 (pos 0)) h (record { fitting = tt; finite = tt })))
