-- Numbers past the range: one number, by its test (`off_in`, `off_out`, `off_last`), lists in a row
-- (`off_append_out`, `off_append_in`), bounds that are not (`bounds_small`); sums and differences
-- of coordinates as the machine holds them (`coordinate_add_fits`, `held_sum`, `held_difference`);
-- an operand with no parts, and with some (`no_parts`, `some_parts`). Assumes nothing.
use mathlib.Core.Path.{◌≡◌, refl, sym, ◌∙◌, ap}
use mathlib.Core.Bool.{Bool, true, false, not, cond}
use mathlib.Core.List.{List, [], ◌∷◌, ◌++◌}
use Prim.Native.Nat.{ℕ, ◌≤◌, ◌<◌}
use native.Mathlib.Omega.{arith}
use borrow.Author.Tests.{eq-eqb, ne_eqb}
use lib.Dec.{eqb}
use lib.ListN.{length}
use lib.IntN.{ℤ, ◌+ℤ◌, ◌-ℤ◌}
use mir.Syntax.{w32}
use mir.Val.{SFits, to_z, of_z}
use Rattle.integers.proofs.Bits.{kept}
use Rattle.integers.proofs.Ring.{◌:+◌}
use Rattle.integers.proofs.Sizes.{fits}
use Rattle.integers.proofs.Tests.{differ}
use Rattle.plane.specs.Plane.{in_range}
use Rattle.plane.specs.Machine.{Coordinate}
use Rattle.plane.proofs.Size.{in_range_coordinate, coordinate_fits, coordinate_sub_fits}
use Rattle.table.specs.declared.IntRect.{IntRect}
use Rattle.corners.specs.Corners.{off_range}
use Rattle.table.specs.Table.{bounds_list, part_count}
use Rattle.corners.proofs.Range.{was_taken}

-- a signed operand as the machine holds it
abbrev pub held : ℤ → ℤ
held z = to_z w32 (of_z w32 z)

-- ---- a number, by its test as the machine holds it

module _ {z : ℤ} (l : List ℤ) (f : SFits w32 z) {r : Bool} (e : r ≡ in_range (held z)) where
  test : r ≡ in_range z
  test = e ∙ ap in_range (kept f)

  pub off_in : r ≡ true → off_range (z ∷ l) ≡ off_range l
  unfolding off_range
  off_in h = rw (← test, h)

  pub off_out : r ≡ false → off_range (z ∷ l) ≡ true
  unfolding off_range
  off_out h = rw (← test, h)

pub off_last : {z : ℤ} → SFits w32 z → {r : Bool} → r ≡ in_range (held z) → off_range (z ∷ []) ≡ not r
unfolding off_range
off_last {z} f {r} e = rw (← test [] f e) (last r)
  where
    last : (t : Bool) → cond t false true ≡ not t
    last true = refl
    last false = refl

-- ---- lists in a row

choose : (t : Bool) {x y : Bool} → (x ≡ true → y ≡ true) → cond t x true ≡ true → cond t y true ≡ true
choose true f h = f h
choose false f h = refl

pub off_append_out : (a b : List ℤ) → off_range a ≡ true → off_range (a ++ b) ≡ true
unfolding off_range
off_append_out [] b h = differ h
off_append_out (z ∷ a) b h = choose (in_range z) (off_append_out a b) h

pass : (t : Bool) {x y z : Bool} → (x ≡ false → y ≡ z) → cond t x true ≡ false → cond t y true ≡ z
pass true f h = f h
pass false f h = differ (sym h)

pub off_append_in : (a b : List ℤ) → off_range a ≡ false → off_range (a ++ b) ≡ off_range b
unfolding off_range
off_append_in [] b h = refl
off_append_in (z ∷ a) b h = pass (in_range z) (off_append_in a b) h

-- ---- bounds within the range

pub record Small (b : IntRect) : Type 0 where
  pub min_x_lem : Coordinate b.min_x
  pub max_x_lem : Coordinate b.max_x
  pub min_y_lem : Coordinate b.min_y
  pub max_y_lem : Coordinate b.max_y

pub bounds_small : (b : IntRect) → off_range (bounds_list b) ≡ false → Small b
unfolding off_range
bounds_small b h =
    let p = was_taken (in_range b.min_x) _ h in
    let q = was_taken (in_range b.max_x) _ p.1 in
    let r = was_taken (in_range b.min_y) _ q.1 in
    let s = was_taken (in_range b.max_y) _ r.1 in
    record {
      min_x_lem = in_range_coordinate b.min_x p.0;
      max_x_lem = in_range_coordinate b.max_x q.0;
      min_y_lem = in_range_coordinate b.min_y r.0;
      max_y_lem = in_range_coordinate b.max_y s.0;
    }

-- ---- sums and differences of coordinates

pub coordinate_add_fits : {x y : ℤ} → Coordinate x → Coordinate y → SFits w32 (x +ℤ y)
coordinate_add_fits h k = fits w32 (1073741823 ∷ 1073741823 ∷ []) (λ x y. x :+ y) tt _ h _ k

module _ {a b : ℤ} (h : Coordinate a) (k : Coordinate b) where
  pub fits_sum : SFits w32 (held a +ℤ held b)
  fits_sum = rw (kept (coordinate_fits h), kept (coordinate_fits k)) (coordinate_add_fits h k)

  pub fits_difference : SFits w32 (held a -ℤ held b)
  fits_difference = rw (kept (coordinate_fits h), kept (coordinate_fits k)) (coordinate_sub_fits h k)

  pub held_sum : {r : ℤ} → r ≡ held a +ℤ held b → held r ≡ a +ℤ b
  held_sum e = let f = rw (kept (coordinate_fits h), kept (coordinate_fits k)) at e in rw f (kept (coordinate_add_fits h k))

  pub held_difference : {r : ℤ} → r ≡ held a -ℤ held b → held r ≡ a -ℤ b
  held_difference e = let f = rw (kept (coordinate_fits h), kept (coordinate_fits k)) at e in rw f (kept (coordinate_sub_fits h k))

-- ---- parts: one fewer than starts

pub no_parts : (starts : List ℕ) → length starts ≤ 1 → eqb (part_count starts) 0 ≡ true
no_parts starts h = eq-eqb (part_count starts) 0 (omega arith)

pub some_parts : (starts : List ℕ) → 1 < length starts → eqb (part_count starts) 0 ≡ false
some_parts starts h = ne_eqb (part_count starts) 0 (λ e. omega arith)
