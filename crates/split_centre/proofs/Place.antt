-- What the division and the move to the centre ask of a contour's sums (`Placed`), by coordinate.
-- Assumes nothing.
use mathlib.Core.Path.{◌≡◌, refl, sym, subst}
use mathlib.Core.Bool.{true}
use mathlib.Core.List.{List, [], ◌∷◌}
use Prim.Native.Nat.{◌*◌, ◌≤◌, ◌<◌}
use native.Mathlib.Omega.{arith}
use lib.ListN.{length, get_or}
use lib.IntN.{ℤ, pos, negsuc, nat_abs, ◌+ℤ◌, ◌-ℤ◌}
use lib.Signed.{◌≤ℤ◌, ◌<ℤ◌}
use Rattle.integers.specs.Lists.{neighbours}
use Rattle.integers.proofs.Order.{zarith, sub_parts}
use Rattle.integers.proofs.Sizes.{abs_parts}
use Rattle.plane.specs.Plane.{Pt, O, ◌-ᵖ◌, on_grid}
use Rattle.plane.specs.Contour.{contour_area}
use Rattle.plane.specs.Machine.{Coordinate, Extent}
use Rattle.plane.proofs.Size.{in_range_coordinate, on_grid_both}
use Rattle.wide.specs.declared.SignedProduct.{SignedProduct}
use Rattle.wide.specs.Words.{magnitude, value}
use Rattle.wide.proofs.Signs.{signed_size}
use Rattle.split.specs.Splitting.{rounded, moment_x, moment_y, seen_from}
use Rattle.split_centre.specs.declared.Sums.{Sums}
use Rattle.split_centre.specs.Centre.{Summable, Summed, Placed}
use Rattle.split_centre.proofs.Range.{area_of, moment_of, low, high, area_above, edges_between, moment_size, offset_between, coordinate_in_range}

-- h 2^64 ≤ |M| < 2^32 A
high_below_area : (v : SignedProduct) {A : ℤ} → pos 0 <ℤ A → nat_abs (value v) ≤ 4294967292 * nat_abs A → v.words.high < 3 * nat_abs A
high_below_area v {A} p h = omega (zarith, p, h, abs_parts A, signed_size v.negative (magnitude v.words))

extent_of : {z r : ℤ} → Coordinate z → low z ≤ℤ r → r ≤ℤ high z → Extent r
extent_of {z} {r} h l u = record { abs = omega (zarith, sub_parts (pos 1073741823) z, sub_parts (negsuc 1073741822) z, abs_parts z, abs_parts r, h.abs) }

module _ {f : Pt → ℤ} (minus : (a b : Pt) → f (a -ᵖ b) ≡ f a -ℤ f b) (small : (p : Pt) → on_grid p ≡ true → Coordinate (f p)) {c : Pt} {l : List Pt} (h : Summable (c ∷ l)) where
  abbrev seen : List (Pt × Pt)
  seen = neighbours (seen_from c (c ∷ l))

  placed : (v : SignedProduct) {A : ℤ} → A ≡ area_of seen → value v ≡ moment_of f seen → Placed (f c) v (3 * nat_abs A)
  placed v e g =
      subst (λ a. Placed (f c) v (3 * nat_abs a)) (sym e) (record {
        high = high_below_area v (area_above minus small h) (subst (λ m. nat_abs m ≤ 4294967292 * nat_abs (area_of seen)) (sym g) (moment_size f (small c h.grid.0) seen h.wedges (edges_between minus small h)));
        offset = subst (λ m. Extent (rounded m (3 * nat_abs (area_of seen)))) (sym g) (extent_of (small c h.grid.0) (offset_between minus small h).0 (offset_between minus small h).1);
        place = subst (λ m. Coordinate (f c +ℤ rounded m (3 * nat_abs (area_of seen)))) (sym g) (in_range_coordinate _ (coordinate_in_range minus small h));
      })

pub placed_x : {l : List Pt} → 0 < length l → Summable l → {s : Sums} → Summed l s → Placed (get_or l 0 O).x s.x (3 * nat_abs s.area)
unfolding contour_area moment_x
placed_x {l = []} n h g = absurd (omega arith)
placed_x {l = c ∷ l} n h {s} g = placed (λ a b. refl) (λ p g. (on_grid_both p g).0) h s.x g.area g.x

pub placed_y : {l : List Pt} → 0 < length l → Summable l → {s : Sums} → Summed l s → Placed (get_or l 0 O).y s.y (3 * nat_abs s.area)
unfolding contour_area moment_y
placed_y {l = []} n h g = absurd (omega arith)
placed_y {l = c ∷ l} n h {s} g = placed (λ a b. refl) (λ p g. (on_grid_both p g).1) h s.y g.area g.y
