-- On the grid the coordinate is within one half plus 2 ^ -23 of the exact one: `placed`. One half
-- from `nearest`; the difference d is rounded once, |d| 2 ^ t < 2 ^ 30, so half of its last digit,
-- times 2 ^ t, is at most 2 ^ -24; the product is exact. Assumes nothing.
use mathlib.Core.Path.{◌≡◌, refl, sym, ap, ◌∙◌, subst}
use mathlib.Core.Bool.{true}
use mathlib.Core.List.{[], ◌∷◌}
use Prim.Native.Nat.{ℕ, zero, suc, ◌+◌, ◌-◌, ◌*◌, ◌/◌, ◌^◌, ◌<◌, ◌≤◌}
use native.Mathlib.Nat.{lt_of_lt_of_le, le_trans, le_of_eq, mul-le-mul_right, lt_of_mul-lt-mul_right, mul-div_cancel, div-one, mul_assoc, one-mul, suc-mul}
use native.Mathlib.Omega.{arith}
use lib.Dec.{T, ltb, ltb→lt, lit<, lit≤}
use lib.IntN.{ℤ, pos, nat_abs, ◌+ℤ◌, ◌-ℤ◌, ◌*ℤ◌}
use lib.Pow.{pow-add, pow_pos}
use lib.Ieee.{Float, nan, inf, fin, binary64, fits, sub, mul}
use lib.Ieee.Fits.{and_r, sub-fits, mul-fits}
use lib.Ieee.Bits.{is_true}
use lib.Ieee.Scale.{finite}
use Rattle.integers.proofs.Ring.{◌:+◌, ◌:-◌, ◌:*◌, ◌:≡◌, int, ring}
use Rattle.integers.proofs.Order.{zarith, sub_parts}
use Rattle.integers.proofs.Sizes.{abs_+, abs_*, abs_parts}
use Rattle.floats.specs.Floats.{multiple, nearest}
use Rattle.floats.proofs.Comparisons.{Number}
use Rattle.floats.proofs.Sums.{RoundOf, sub_round, mul_exact, near}
use Rattle.floats.proofs.Nearest.{nearest_near}
use Rattle.grid.specs.Grid.{on_grid, step_count, scaled, coordinate, count, Placed}
use Rattle.grid.proofs.Bands.{grid_finite, grid_size}
use Rattle.grid.proofs.Steps.{power, step_power}

-- a finite product has a finite factor
factor_finite : (x : Float) (t : ℕ) → T (finite (mul binary64 x (power t))) → T (finite x)
unfolding mul
factor_finite nan t h = absurd h
factor_finite (inf s) t h = absurd h
factor_finite (fin s m e) t h = tt

count_power : (t : ℕ) → count (power t) ≡ 2 ^ t
unfolding multiple
count_power t = ap (λ n. n / 2 ^ 1074) (div-one (1 * 2 ^ t * 2 ^ 1074)) ∙ mul-div_cancel (1 * 2 ^ t) (pow_pos 1074) ∙ one-mul (2 ^ t)

-- g U - E K = (g U - D K) + (D - E) K
split : (g U D E K : ℤ) → g *ℤ U -ℤ E *ℤ K ≡ (g *ℤ U -ℤ D *ℤ K) +ℤ (D -ℤ E) *ℤ K
split = ring (int ∷ int ∷ int ∷ int ∷ int ∷ []) (λ g U D E K. g :* U :- E :* K :≡ (g :* U :- D :* K) :+ (D :- E) :* K) tt

halves : (a b : ℕ) {n : ℕ} (U : ℕ) {E : ℕ} → n ≤ a + b → 2 * a ≤ 2 * U → 2 * b ≤ E → n ≤ U + E
halves a b {n} U {E} h k l = omega arith

-- 2 a ≤ 2 ^ (1104 - t - 53) has 2 (a 2 ^ t) ≤ 2 ^ 1051
grown : (a : ℕ) {t : ℕ} → t < 11 → 2 * a ≤ 2 ^ (1104 - t - 53) → 2 * (a * 2 ^ t) ≤ 2 ^ 1051
grown a {t} h l =
    le_trans (le_of_eq (sym (mul_assoc 2 a (2 ^ t)))) (le_trans (mul-le-mul_right (2 ^ t) l)
    (le_of_eq (sym (pow-add 2 (1104 - t - 53) t) ∙ ap (λ n. 2 ^ n) e)))
  where
    e : 1104 - t - 53 + t ≡ 1051
    e = omega arith

-- d is E * 2 ^ -1074, rounded once, and d 2 ^ t is on the grid
module _ {E : ℤ} {d : Float} {t : ℕ} (R : RoundOf E d) (F : T (fits binary64 d)) (l : t < 11) (g : T (on_grid (mul binary64 d (power t)))) where
  v_fits : fits binary64 (mul binary64 d (power t)) ≡ true
  v_fits = is_true (fits binary64 (mul binary64 d (power t))) (mul-fits binary64 d (power t))

  v_finite : T (finite (mul binary64 d (power t)))
  v_finite = grid_finite (mul binary64 d (power t)) v_fits g

  d_number : Number d
  d_number = record { fitting = F; finite = factor_finite d t v_finite }

  product : multiple (mul binary64 d (power t)) ≡ multiple d *ℤ pos (2 ^ t)
  product = mul_exact t d_number v_finite

  -- |d| < 2 ^ (30 - t)
  d_size : nat_abs (multiple d) < 2 ^ (1104 - t)
  d_size =
      let e : 1104 ≡ 1104 - t + t = omega arith in
      lt_of_mul-lt-mul_right (2 ^ t)
      (subst (λ n. nat_abs (multiple d) * 2 ^ t < n) (ap (λ n. 2 ^ n) e ∙ pow-add 2 (1104 - t) t)
      (subst (λ n. n < 2 ^ 1104) (ap nat_abs product ∙ abs_* (multiple d) (pos (2 ^ t))) (lt_of_lt_of_le (grid_size (mul binary64 d (power t)) v_fits g) (lit≤ tt))))

  difference : 2 * nat_abs (multiple d -ℤ E) ≤ 2 ^ (1104 - t - 53)
  difference = near R d_number.finite (1104 - t) (omega arith) d_size

  within_half : nat_abs (nearest (multiple (mul binary64 d (power t))) *ℤ pos (2 ^ 1074) -ℤ E *ℤ pos (2 ^ t)) ≤ 2 ^ 1073 + 2 ^ 1051
  within_half =
      let v = multiple (mul binary64 d (power t)) in
      let r = nearest v *ℤ pos (2 ^ 1074) -ℤ multiple d *ℤ pos (2 ^ t) in
      let q = (multiple d -ℤ E) *ℤ pos (2 ^ t) in
      halves (nat_abs r) (nat_abs q) (2 ^ 1073)
      (le_trans (le_of_eq (ap nat_abs (split (nearest v) (pos (2 ^ 1074)) (multiple d) E (pos (2 ^ t))))) (abs_+ r q))
      (subst (λ z. 2 * nat_abs (nearest v *ℤ pos (2 ^ 1074) -ℤ z) ≤ 2 ^ 1074) product (nearest_near v))
      (subst (λ n. 2 * n ≤ 2 ^ 1051) (sym (abs_* (multiple d -ℤ E) (pos (2 ^ t)))) (grown (nat_abs (multiple d -ℤ E)) l difference))

-- ---- a whole number of steps

factor : (g n U : ℤ) → g *ℤ U -ℤ n *ℤ U ≡ (g -ℤ n) *ℤ U
factor = ring (int ∷ int ∷ int ∷ []) (λ g n U. g :* U :- n :* U :≡ (g :- n) :* U) tt

-- k U ≤ B < U has k = 0
no_multiple : (k : ℕ) {U B : ℕ} → k * U ≤ B → B < U → k ≡ 0
no_multiple zero {U} {B} h l = refl
no_multiple (suc k) {U} {B} h l = absurd (let e = suc-mul k U in omega (arith, h, l, e))

-- numbers less than one apart are the same
same_whole : (g n : ℤ) {U B : ℕ} → nat_abs (g *ℤ pos U -ℤ n *ℤ pos U) ≤ B → B < U → g ≡ n
same_whole g n {U} {B} h l =
    let k : nat_abs (g -ℤ n) ≡ 0 = no_multiple (nat_abs (g -ℤ n)) (subst (λ m. m ≤ B) (ap nat_abs (factor g n (pos U)) ∙ abs_* (g -ℤ n) (pos U)) h) l in
    omega (zarith, sub_parts g n, abs_parts (g -ℤ n), k)

module _ (x o : Float) (t : ℕ) (X : Number x) (O : Number o) (l : t < 11) (g : T (on_grid (scaled x o (power t)))) where
  abbrev E : ℤ
  E = multiple x -ℤ multiple o

  abbrev at : ℤ
  at = nearest (multiple (scaled x o (power t)))

  at_near : nat_abs (at *ℤ pos (2 ^ 1074) -ℤ E *ℤ pos (count (power t))) ≤ 2 ^ 1073 + 2 ^ 1051
  at_near = subst (λ n. nat_abs (at *ℤ pos (2 ^ 1074) -ℤ E *ℤ pos n) ≤ 2 ^ 1073 + 2 ^ 1051) (sym (count_power t)) (within_half (sub_round X O) (sub-fits binary64 x o) l g)

  placed_power : Placed x o (power t) at
  placed_power = record {
    near = at_near;
    rounded = ap nearest (product (sub_round X O) (sub-fits binary64 x o) l g ∙ ap (λ n. multiple (sub binary64 x o) *ℤ pos n) (sym (count_power t)));
    whole = λ n e. same_whole at n (subst (λ z. nat_abs (at *ℤ pos (2 ^ 1074) -ℤ z) ≤ 2 ^ 1073 + 2 ^ 1051) e at_near) (lit< tt);
  }

pub placed : {x o : Float} (s : Float) → Number x → Number o → T (step_count s) → T (on_grid (scaled x o s)) → Placed x o s (coordinate x o s)
placed {x} {o} s X O c g =
    let p = step_power s c in
    subst (λ y. Placed x o y (coordinate x o y)) (sym p.2) (placed_power x o p.0 X O p.1 (subst (λ y. T (on_grid (scaled x o y))) p.2 g))

-- ---- in range

-- a coordinate on the grid is strictly between -2 ^ 30 and 2 ^ 30
pub coordinate_small : (x o s : Float) → T (on_grid (scaled x o s)) → nat_abs (coordinate x o s) < 2 ^ 30
unfolding on_grid
coordinate_small x o s g = let v = scaled x o s in ltb→lt (nat_abs (nearest (multiple v))) (2 ^ 30) (and_r (finite v) (ltb (nat_abs (nearest (multiple v))) (2 ^ 30)) g)
