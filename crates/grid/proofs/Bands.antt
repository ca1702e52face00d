-- Tests of an f64 against two ends, -b and b. In order: what owning an f64 tells; ≤ b, of
-- multiples and of floats; < b; the two ends used here; what passing tells (`range_number`,
-- `grid_number`, `grid_size`). Assumes nothing.
use mathlib.Core.Path.{◌≡◌, refl, sym, ap, ◌∙◌, subst}
use mathlib.Core.Bool.{Bool, true, false, ◌&&◌}
use Prim.Native.Nat.{ℕ, suc, ◌+◌, ◌-◌, ◌*◌, ◌^◌, ◌<◌}
use native.Mathlib.Omega.{arith}
use lib.Dec.{T, leb, ltb, ltb→lt, lt→ltb, leb-suc-suc}
use lib.IntN.{ℤ, pos, negsuc, nat_abs}
use lib.Signed.{le_z, lt_z}
use lib.Ieee.{Float, nan, inf, fin, binary64, fits, lt, le}
use lib.Ieee.Fits.{and_l, and_r}
use lib.Ieee.Scale.{finite}
use Rattle.integers.proofs.Tests.{differ}
use Rattle.floats.specs.Floats.{number, multiple, nearest}
use Rattle.floats.proofs.Comparisons.{Number, number_is, number_finite, same_test, lt_multiple, le_multiple}
use Rattle.floats.proofs.Nearest.{nearest_lt}
use Rattle.grid.specs.Grid.{within_range, on_grid}

-- what owning an f64 tells, at a number that is finite
held : (x : Float) → fits binary64 x ≡ true → T (finite x) → Number x
held x h f = record { fitting = subst T (sym h) tt; finite = f }

-- ---- at most b: of integers

at_most : (z : ℤ) (b : ℕ) → le_z z (pos (suc b)) ≡ true → le_z (negsuc b) z ≡ leb (nat_abs z) (suc b)
at_most (pos n) b h = sym h
at_most (negsuc n) b h = sym (leb-suc-suc n b)

past : (z : ℤ) (b : ℕ) → le_z z (pos b) ≡ false → false ≡ leb (nat_abs z) b
past (pos n) b h = sym h
past (negsuc n) b h = differ (sym h)

less_than : (z : ℤ) (b : ℕ) → lt_z z (pos (suc b)) ≡ true → lt_z (negsuc b) z ≡ ltb (nat_abs z) (suc b)
less_than (pos n) b h = sym h
less_than (negsuc n) b h = same_test (ltb n b) (ltb (suc n) (suc b)) (λ t. lt→ltb (suc n) (suc b) (omega (arith, ltb→lt n b t))) (λ t. lt→ltb n b (omega (arith, ltb→lt (suc n) (suc b) t)))

reaching : (z : ℤ) (b : ℕ) → lt_z z (pos b) ≡ false → false ≡ ltb (nat_abs z) b
reaching (pos n) b h = sym h
reaching (negsuc n) b h = differ (sym h)

-- ---- of floats: r is b, l is -b

module _ {l r : Float} {b : ℕ} (L : Number l) (R : Number r) (p : multiple l ≡ negsuc b) (q : multiple r ≡ pos (suc b)) where
  fin_at_most : {x : Float} → Number x → le x r ≡ true → le l x ≡ leb (nat_abs (multiple x)) (suc b)
  fin_at_most {x} X h = le_multiple L X ∙ ap (λ z. le_z z (multiple x)) p ∙ at_most (multiple x) b (ap (le_z (multiple x)) (sym q) ∙ sym (le_multiple X R) ∙ h)

  fin_past : {x : Float} → Number x → le x r ≡ false → false ≡ leb (nat_abs (multiple x)) (suc b)
  fin_past {x} X h = past (multiple x) (suc b) (ap (le_z (multiple x)) (sym q) ∙ sym (le_multiple X R) ∙ h)

  fin_less : {x : Float} → Number x → lt x r ≡ true → lt l x ≡ ltb (nat_abs (multiple x)) (suc b)
  fin_less {x} X h = lt_multiple l x L X ∙ ap (λ z. lt_z z (multiple x)) p ∙ less_than (multiple x) b (ap (lt_z (multiple x)) (sym q) ∙ sym (lt_multiple x r X R) ∙ h)

  fin_reaching : {x : Float} → Number x → lt x r ≡ false → false ≡ ltb (nat_abs (multiple x)) (suc b)
  fin_reaching {x} X h = reaching (multiple x) (suc b) (ap (lt_z (multiple x)) (sym q) ∙ sym (lt_multiple x r X R) ∙ h)

-- ---- the range, 2 ^ 20

abbrev twenty : ℕ
twenty = 1048576 * 2 ^ 1074 - 1

low_20 : Number (fin true 1 (pos 20))
unfolding fits
low_20 = record { fitting = tt; finite = tt }

high_20 : Number (fin false 1 (pos 20))
unfolding fits
high_20 = record { fitting = tt; finite = tt }

multiple_low_20 : multiple (fin true 1 (pos 20)) ≡ negsuc twenty
unfolding multiple
multiple_low_20 = refl

multiple_high_20 : multiple (fin false 1 (pos 20)) ≡ pos (suc twenty)
unfolding multiple
multiple_high_20 = refl

-- an f64's test of `number` is that of `finite`
within_range_lem : (x : Float) → fits binary64 x ≡ true → finite x && leb (nat_abs (multiple x)) (1048576 * 2 ^ 1074) ≡ within_range x
unfolding within_range
within_range_lem x f = ap (λ (b : Bool). b && leb (nat_abs (multiple x)) (1048576 * 2 ^ 1074)) (sym (number_finite x f))

pub range_under : (x : Float) → fits binary64 x ≡ true → le x (fin false 1 (pos 20)) ≡ true → le (fin true 1 (pos 20)) x ≡ within_range x
range_under x f h = go x f h ∙ within_range_lem x f
  where
    go : (x : Float) → fits binary64 x ≡ true → le x (fin false 1 (pos 20)) ≡ true → le (fin true 1 (pos 20)) x ≡ finite x && leb (nat_abs (multiple x)) (1048576 * 2 ^ 1074)
    go nan f h = unfold le in refl
    go (inf true) f h = unfold le in refl
    go (inf false) f h = unfold le in differ h
    go (fin s m e) f h = fin_at_most low_20 high_20 multiple_low_20 multiple_high_20 (held (fin s m e) f tt) h

pub range_over : (x : Float) → fits binary64 x ≡ true → le x (fin false 1 (pos 20)) ≡ false → false ≡ within_range x
range_over x f h = go x f h ∙ within_range_lem x f
  where
    go : (x : Float) → fits binary64 x ≡ true → le x (fin false 1 (pos 20)) ≡ false → false ≡ finite x && leb (nat_abs (multiple x)) (1048576 * 2 ^ 1074)
    go nan f h = refl
    go (inf s) f h = refl
    go (fin s m e) f h = fin_past low_20 high_20 multiple_low_20 multiple_high_20 (held (fin s m e) f tt) h

-- ---- the grid's edge, 2 ^ 30 - 1 / 2

abbrev edge : ℕ
edge = 2147483647 * 2 ^ 1073 - 1

low_edge : Number (fin true 2147483647 (negsuc 0))
unfolding fits
low_edge = record { fitting = tt; finite = tt }

high_edge : Number (fin false 2147483647 (negsuc 0))
unfolding fits
high_edge = record { fitting = tt; finite = tt }

multiple_low_edge : multiple (fin true 2147483647 (negsuc 0)) ≡ negsuc edge
unfolding multiple
multiple_low_edge = refl

multiple_high_edge : multiple (fin false 2147483647 (negsuc 0)) ≡ pos (suc edge)
unfolding multiple
multiple_high_edge = refl

-- n < 2 ^ 31 H - H is n + H < 2 ^ 30 (2 H): `omega` stops at a number of more than 38 digits, so H
-- is any
edge_in : {n : ℕ} (H : ℕ) → n < 2147483647 * H → n + H < 1073741824 * (2 * H)
edge_in {n} H h = omega arith

edge_out : (n H : ℕ) → n + H < 1073741824 * (2 * H) → n < 2147483647 * H
edge_out n H h = omega arith

-- |nearest z| < 2 ^ 30 is |z| < 2 ^ 30 - 1 / 2
on_edge : (z : ℤ) → ltb (nat_abs z) (suc edge) ≡ ltb (nat_abs (nearest z)) (2 ^ 30)
on_edge z = same_test (ltb (nat_abs z) (suc edge)) (ltb (nat_abs (nearest z)) (2 ^ 30))
    (λ t. lt→ltb (nat_abs (nearest z)) (2 ^ 30) ((nearest_lt z (2 ^ 30)).1 (edge_in (2 ^ 1073) (ltb→lt (nat_abs z) (suc edge) t))))
    (λ t. lt→ltb (nat_abs z) (suc edge) (edge_out (nat_abs z) (2 ^ 1073) ((nearest_lt z (2 ^ 30)).0 (ltb→lt (nat_abs (nearest z)) (2 ^ 30) t))))

pub grid_under : (x : Float) → fits binary64 x ≡ true → lt x (fin false 2147483647 (negsuc 0)) ≡ true → lt (fin true 2147483647 (negsuc 0)) x ≡ on_grid x
unfolding on_grid
grid_under nan f h = unfold lt in refl
grid_under (inf true) f h = unfold lt in refl
grid_under (inf false) f h = unfold lt in differ h
grid_under (fin s m e) f h = fin_less low_edge high_edge multiple_low_edge multiple_high_edge (held (fin s m e) f tt) h ∙ on_edge (multiple (fin s m e))

pub grid_over : (x : Float) → fits binary64 x ≡ true → lt x (fin false 2147483647 (negsuc 0)) ≡ false → false ≡ on_grid x
unfolding on_grid
grid_over nan f h = refl
grid_over (inf s) f h = refl
grid_over (fin s m e) f h = fin_reaching low_edge high_edge multiple_low_edge multiple_high_edge (held (fin s m e) f tt) h ∙ on_edge (multiple (fin s m e))

-- ---- what the tests tell of a number that passes

pub range_number : (x : Float) → T (within_range x) → Number x
unfolding within_range
range_number x t = number_is x (and_l (number x) (leb (nat_abs (multiple x)) (1048576 * 2 ^ 1074)) t)

module _ (v : Float) (f : fits binary64 v ≡ true) (g : T (on_grid v)) where
  pub grid_finite : T (finite v)
  unfolding on_grid
  grid_finite = and_l (finite v) (ltb (nat_abs (nearest (multiple v))) (2 ^ 30)) g

  pub grid_number : Number v
  grid_number = held v f grid_finite

  pub grid_size : nat_abs (multiple v) < 2147483647 * 2 ^ 1073
  unfolding on_grid
  grid_size = ltb→lt (nat_abs (multiple v)) (2147483647 * 2 ^ 1073) (subst T (sym (on_edge (multiple v))) (and_r (finite v) (ltb (nat_abs (nearest (multiple v))) (2 ^ 30)) g))
