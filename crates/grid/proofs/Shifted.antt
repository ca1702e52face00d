-- A number on the grid plus 1.5 * 2 ^ 52, where an f64 has no digit behind the point, and back: the
-- whole number `near`, off by one half at most. In order: a sum with a sign; how far a whole number
-- is from the shift (`Off`); sum and difference as f64 values; the cast; the test for a half that
-- went towards zero, and `nearest` by it (`tie_away`, `no_tie`). Assumes nothing.
use mathlib.Core.Path.{◌≡◌, refl, sym, ap, ap₂, ◌∙◌, subst}
use mathlib.Core.Bool.{Bool, true, false}
use mathlib.Core.Logic.{◌⊎◌, inl, inr}
use Prim.Native.Nat.{ℕ, suc, ◌+◌, ◌-◌, ◌*◌, ◌^◌, ◌<◌, ◌≤◌}
use native.Mathlib.Nat.{le_trans, le_of_lt, le_of_suc-le-suc, lt_of_lt_of_le, lt_of_not-le, lt_of_mul-lt-mul_right, mul-le-mul_right, mul-lt-mul_of_pos_right, add-mul, mul_assoc, suc-mul, eq-zero-or-pos}
use native.Mathlib.Omega.{arith}
use lib.Dec.{T, lit<, lit≤}
use lib.IntN.{pos, negsuc, nat_abs, ◌+ℤ◌, ◌-ℤ◌}
use lib.Pow.{pow_pos}
use lib.Ieee.{Float, fin, binary64, fits, lt, eq, neg, add, sub, sum, of_int, to_signed, in_signed}
use lib.Ieee.Fits.{add-fits, sub-fits}
use lib.Ieee.Nearest.{closest}
use lib.Ieee.Scale.{finite}
use Rattle.integers.specs.Test.{eq_z}
use Rattle.integers.proofs.Order.{zarith, add_parts, sub_parts, neg_parts}
use Rattle.integers.proofs.Tests.{eq_z_true, eq_z_false}
use Rattle.floats.specs.Floats.{multiple, signed, nearest}
use Rattle.floats.proofs.Rounding.{Near, rounded, rounded_at, closest_near}
use Rattle.floats.proofs.Comparisons.{Number, eq_multiple, sign_multiple}
use Rattle.floats.proofs.Sums.{RoundOf, abs_signed, sub_mul, same_sign, add_round, sub_round, value, finite_below, small_exact}
use Rattle.floats.proofs.Wholes.{signed_same, whole_is, int_back}
use Rattle.floats.proofs.Nearest.{nearest_tie, nearest_plain}
use Rattle.grid.specs.Grid.{on_grid}
use Rattle.grid.proofs.Bands.{grid_number, grid_size}

-- ---- a plus n with the sign s

abbrev moved : Bool → ℕ → ℕ → ℕ
moved true a n = a - n
moved false a n = a + n

moved_is : (s : Bool) {a n : ℕ} → n ≤ a → signed s n +ℤ pos a ≡ pos (moved s a n)
moved_is true {a} {n} h = omega (zarith, add_parts (signed true n) (pos a), neg_parts (pos n))
moved_is false {a} {n} h = omega (zarith, add_parts (pos n) (pos a))

-- between two bounds
moved_low : (s : Bool) {a n b : ℕ} (c : ℕ) → n < b → c + b ≤ a → c ≤ moved s a n
moved_low true {a} {n} {b} c h k = omega arith
moved_low false {a} {n} {b} c h k = omega arith

moved_high : (s : Bool) (a : ℕ) {n b c : ℕ} → n < b → a + b ≤ c → moved s a n < c
moved_high true a {n} {b} {c} h k = omega arith
moved_high false a {n} {b} {c} h k = omega arith

-- ---- q U is off from S U plus n, n with the sign s, by U / 2 at most: so q is S plus k with that
-- sign, and k U off from n by as much
record Off (s : Bool) (S q n U : ℕ) : Type 0 where
  k : ℕ
  apart : pos (q * U) -ℤ pos (S * U) ≡ signed s (k * U)
  near : Near (2 * (k * U)) (2 * n) U
  none : k ≡ 0 → q ≡ S

-- less than one below is not below
not_below : (a b : ℕ) {U : ℕ} → 0 < U → 2 * (a * U) ≤ 2 * (b * U) + U → a ≤ b
not_below a b {U} h l = le_of_suc-le-suc (lt_of_not-le (λ (g : suc b ≤ a). omega (arith, mul-le-mul_right U g, suc-mul b U)))

off : (s : Bool) (S q : ℕ) {n U : ℕ} → 0 < U → n ≤ S * U → Near (2 * (q * U)) (2 * moved s (S * U) n) U → Off s S q n U
off true S q {n} {U} h m r =
    let l : q ≤ S = not_below q S h (omega (arith, r.above)) in
    let e : (S - q) * U ≡ S * U - q * U = sub_mul S q U in
    let g : q * U ≤ S * U = mul-le-mul_right U l in
    record {
      k = S - q;
      apart = omega (zarith, e, g, sub_parts (pos (q * U)) (pos (S * U)), neg_parts (pos ((S - q) * U)));
      near = record { above = omega (arith, r.below); below = omega (arith, r.above) };
      none = λ z. omega arith;
    }
off false S q {n} {U} h m r =
    let l : S ≤ q = not_below S q h (omega (arith, r.below)) in
    let e : (q - S) * U ≡ q * U - S * U = sub_mul q S U in
    let g : S * U ≤ q * U = mul-le-mul_right U l in
    record {
      k = q - S;
      apart = omega (zarith, e, g, sub_parts (pos (q * U)) (pos (S * U)));
      near = record { above = omega (arith, r.above); below = omega (arith, r.below) };
      none = λ z. omega arith;
    }

-- ---- 1.5 * 2 ^ 52

abbrev shift : Float
shift = fin false 3 (pos 51)

shift_number : Number shift
unfolding fits
shift_number = record { fitting = tt; finite = tt }

abbrev S : ℕ
S = 3 * 2 ^ 51

shift_multiple : multiple shift ≡ pos (S * 2 ^ 1074)
unfolding multiple
shift_multiple = refl

-- the shift less itself is +0
shift_less : sub binary64 (of_int binary64 (pos S)) shift ≡ of_int binary64 (pos 0)
unfolding sub add sum neg of_int
shift_less = refl

-- ---- bounds, of which `omega` takes no number of more than 38 digits: H is any

sum_below : (a : ℕ) {N U B : ℕ} → 2 * a ≤ 2 * N + U → N < B → U ≤ B → a < 2 * B
sum_below a {N} {U} {B} h k l = omega arith

steps_below : (k : ℕ) {n : ℕ} (H : ℕ) → Near (2 * (k * (2 * H))) (2 * n) (2 * H) → n < 2147483647 * H → k < 1073741824
steps_below k {n} H h l = lt_of_mul-lt-mul_right (2 * H) (below (k * (2 * H)) h.above)
  where
    below : (a : ℕ) → 2 * a ≤ 2 * n + 2 * H → a < 1073741824 * (2 * H)
    below a g = omega arith

-- ---- one half with a sign

abbrev pub half : Bool → Float
half s = fin s 1 (negsuc 0)

half_number : (s : Bool) → Number (half s)
unfolding fits
half_number s = record { fitting = tt; finite = tt }

half_multiple : (s : Bool) → multiple (half s) ≡ signed s (2 ^ 1073)
unfolding multiple
half_multiple true = refl
half_multiple false = refl

no_sign : (s : Bool) → signed s 0 ≡ pos 0
no_sign true = refl
no_sign false = refl

odd_halves : (k H : ℕ) → k * (2 * H) + H ≡ (2 * k + 1) * H
odd_halves k H = omega (arith, add-mul (2 * k) 1 H, mul_assoc 2 k H)

-- ---- v's sum with the shift and the difference, for v of size n with the sign s

abbrev pub near : Float → Float
near v = sub binary64 (add binary64 v shift) shift

module _ (v : Float) (s : Bool) (n : ℕ) (h : Number v) (e : multiple v ≡ signed s n) (l : n < 2147483647 * 2 ^ 1073) where
  abbrev N : ℕ
  N = moved s (S * 2 ^ 1074) n

  abbrev q : ℕ
  q = closest N (2 ^ 1074)

  q_near : Near (2 * (q * 2 ^ 1074)) (2 * N) (2 ^ 1074)
  q_near = closest_near N (pow_pos 1074)

  N_low : 2 ^ 1126 ≤ N
  N_low = moved_low s (2 ^ 1126) l (lit≤ tt)

  N_high : N < 2 ^ 1127
  N_high = moved_high s (S * 2 ^ 1074) l (lit≤ tt)

  n_below : n ≤ S * 2 ^ 1074
  n_below = le_trans (le_of_lt l) (lit≤ tt)

  added : RoundOf (pos N) (add binary64 v shift)
  added = subst (λ z. RoundOf z (add binary64 v shift)) (ap₂ ◌+ℤ◌ e shift_multiple ∙ moved_is s n_below) (add_round v shift h shift_number)

  added_is : (added.sign ≡ false) × (added.n ≡ N)
  added_is = signed_same added.sign false added.n (lt_of_lt_of_le (pow_pos 1126) N_low) (sym added.sized)

  added_rounded : rounded 53 added.n ≡ q * 2 ^ 1074
  added_rounded = ap (rounded 53) added_is.1 ∙ rounded_at 52 1074 N_low N_high

  added_number : Number (add binary64 v shift)
  added_number = record {
    fitting = add-fits binary64 v shift;
    finite = finite_below added (subst (λ k. k < 2 ^ 2098) (sym added_rounded) (lt_of_lt_of_le (sum_below (q * 2 ^ 1074) q_near.above N_high (lit≤ tt)) (lit≤ tt)));
  }

  added_multiple : multiple (add binary64 v shift) ≡ pos (q * 2 ^ 1074)
  added_multiple = value added added_number.finite ∙ ap₂ signed added_is.0 added_rounded

  from_shift : Off s S q n (2 ^ 1074)
  from_shift = off s S q (pow_pos 1074) n_below q_near

  abbrev k : ℕ
  k = from_shift.k

  k_below : k < 1073741824
  k_below = steps_below k (2 ^ 1073) from_shift.near l

  less : RoundOf (signed s (k * 2 ^ 1074)) (near v)
  less = subst (λ z. RoundOf z (near v)) (ap₂ ◌-ℤ◌ added_multiple shift_multiple ∙ from_shift.apart) (sub_round added_number shift_number)

  near_exact : T (finite (near v)) × (multiple (near v) ≡ signed s (k * 2 ^ 1074))
  near_exact = small_exact less 1074 (lt_of_lt_of_le k_below (lit≤ tt)) (abs_signed s (k * 2 ^ 1074)) (lt_of_lt_of_le (mul-lt-mul_of_pos_right k_below (pow_pos 1074)) (lit≤ tt))

  near_number : Number (near v)
  near_number = record { fitting = sub-fits binary64 (add binary64 v shift) shift; finite = near_exact.0 }

  near_is : near v ≡ of_int binary64 (signed s k)
  near_is = go (eq-zero-or-pos k)
    where
      go : (k ≡ 0) ⊎ (0 < k) → near v ≡ of_int binary64 (signed s k)
      go (inl z) =
          ap (λ x. sub binary64 x shift) (whole_is false added_number (lit< tt) (lit≤ tt) (added_multiple ∙ ap (λ x. pos (x * 2 ^ 1074)) (from_shift.none z)))
          ∙ shift_less ∙ ap (of_int binary64) (sym (ap (signed s) z ∙ no_sign s))
      go (inr p) = whole_is s near_number p (le_of_lt (lt_of_lt_of_le k_below (lit≤ tt))) near_exact.1

  cast : T (in_signed binary64 31 (near v)) × (to_signed 31 (near v) ≡ signed s k)
  cast = subst (λ x. T (in_signed binary64 31 x) × (to_signed 31 x ≡ signed s k)) (sym near_is)
      (int_back 31 (signed s k)
      (subst (λ x. x ≤ 2 ^ 53) (sym (abs_signed s k)) (le_of_lt (lt_of_lt_of_le k_below (lit≤ tt))))
      (subst (λ x. x < 2 ^ 31) (sym (abs_signed s k)) (lt_of_lt_of_le k_below (lit≤ tt))))

  -- ---- the half beyond it

  edge : RoundOf (signed s (k * 2 ^ 1074) +ℤ signed s (2 ^ 1073)) (add binary64 (near v) (half s))
  edge = subst (λ z. RoundOf z (add binary64 (near v) (half s))) (ap₂ ◌+ℤ◌ near_exact.1 (half_multiple s)) (add_round (near v) (half s) near_number (half_number s))

  edge_exact : T (finite (add binary64 (near v) (half s))) × (multiple (add binary64 (near v) (half s)) ≡ signed s (k * 2 ^ 1074) +ℤ signed s (2 ^ 1073))
  edge_exact =
      let m : 2 * k + 1 < 2147483648 = omega (arith, k_below) in
      small_exact edge 1073 (lt_of_lt_of_le m (lit≤ tt))
      (ap nat_abs (same_sign s (k * 2 ^ 1074) (2 ^ 1073)) ∙ abs_signed s (k * 2 ^ 1074 + 2 ^ 1073) ∙ odd_halves k (2 ^ 1073))
      (lt_of_lt_of_le (mul-lt-mul_of_pos_right m (pow_pos 1073)) (lit≤ tt))

  test : eq v (add binary64 (near v) (half s)) ≡ eq_z (signed s n) (signed s (k * 2 ^ 1074) +ℤ signed s (2 ^ 1073))
  test = eq_multiple v (add binary64 (near v) (half s)) h (record { fitting = add-fits binary64 (near v) (half s); finite = edge_exact.0 }) ∙ ap₂ eq_z e edge_exact.1

  tie : eq v (add binary64 (near v) (half s)) ≡ true → signed s k +ℤ signed s 1 ≡ nearest (multiple v)
  tie t = sym (nearest_tie s n k (eq_z_true (signed s n) (signed s (k * 2 ^ 1074) +ℤ signed s (2 ^ 1073)) (sym test ∙ t))) ∙ ap nearest (sym e)

  plain : eq v (add binary64 (near v) (half s)) ≡ false → signed s k ≡ nearest (multiple v)
  plain t = sym (nearest_plain s n k from_shift.near (eq_z_false (sym test ∙ t))) ∙ ap nearest (sym e)

-- ---- of a number on the grid

abbrev is_below : Float → Bool
is_below v = lt v (fin false 0 (pos 0))

pub record Shifted (v : Float) : Type 0 where
  pub size : ℕ
  pub small : size < 1073741824
  pub casts : T (in_signed binary64 31 (near v))
  pub gives : to_signed 31 (near v) ≡ signed (is_below v) size
  -- where v is the half beyond it, and where not
  pub tie_away : eq v (add binary64 (near v) (half (is_below v))) ≡ true → signed (is_below v) size +ℤ signed (is_below v) 1 ≡ nearest (multiple v)
  pub no_tie : eq v (add binary64 (near v) (half (is_below v))) ≡ false → signed (is_below v) size ≡ nearest (multiple v)

pub shifted : (v : Float) → fits binary64 v ≡ true → T (on_grid v) → Shifted v
shifted v f g =
    let h = grid_number v f g in
    let s = is_below v in
    let n = nat_abs (multiple v) in
    let e = sign_multiple h in
    let l = grid_size v f g in
    record {
      size = k v s n h e l;
      small = k_below v s n h e l;
      casts = (cast v s n h e l).0;
      gives = (cast v s n h e l).1;
      tie_away = tie v s n h e l;
      no_tie = plain v s n h e l;
    }
