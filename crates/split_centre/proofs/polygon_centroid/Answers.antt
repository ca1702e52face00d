-- `split_centre::polygon_centroid` meets its contract: past the threshold none, otherwise the first
-- corner and each moment over three times the doubled area, to nearest. Assumes nothing.
use mathlib.Core.Path.{◌≡◌, sym, ◌∙◌, ap}
use mathlib.Core.Bool.{true, false}
use mathlib.Core.List.{List, map}
use Prim.Native.Nat.{ℕ, ◌*◌, ◌≤◌, ◌<◌}
use native.Mathlib.Omega.{arith}
use lib.ListN.{length, get_or, length-map}
use lib.IntN.{ℤ, pos, nat_abs, ◌+ℤ◌}
use lib.Signed.{le_z, lt_z}
use mir.Syntax.{w32, w64}
use mir.Val.{to_z, of_z}
use Rattle.integers.proofs.Tests.{lt_z-<, lt_z-≤, ≤-le_z}
use Rattle.integers.proofs.Order.{<-≤}
use Rattle.integers.proofs.Bits.{kept, got, cast_fits}
use Rattle.plane.specs.declared.IntPoint.{IntPoint}
use Rattle.plane.specs.Plane.{Pt, O}
use Rattle.plane.specs.Contour.{contour_area}
use Rattle.plane.specs.Machine.{point, OnGrid}
use Rattle.plane.proofs.Size.{coordinate_fits}
use Rattle.wide.specs.Words.{value}
use Rattle.points.specs.Points.{corner_of, corner_in}
use Rattle.split.specs.Splitting.{rounded, centre_of}
use Rattle.split_centre.specs.declared.Sums.{Sums}
use Rattle.std.specs.Prelude.{Some, None}
use Rattle.split_centre.specs.Centre.{Summable, Summed, Placed, rounded_centre, centroid_found}
use Rattle.split_centre.proofs.Range.{area_seen}
use Rattle.split_centre.proofs.Reading.{grid_of, corner_read}
use Rattle.split_centre.proofs.Place.{placed_x, placed_y}
use Rattle.split_centre.proofs.polygon_centroid.Goals as goal

abbrev threshold : ℤ
threshold = pos 3074457345618258602

module _ (cs : List (List ℤ)) (h : Summable (map corner_of cs)) (n : 3 ≤ length cs) {s : Sums} (g : Summed (map corner_of cs) s) where
  abbrev l : List Pt
  l = map corner_of cs

  -- the area read back
  abbrev area : ℤ
  area = to_z w64 (of_z w64 s.area)

  sum_is : s.area ≡ contour_area l
  sum_is = g.area ∙ area_seen (get_or l 0 O) l

  area_kept : area ≡ s.area
  area_kept = kept {w = w64} (cast_fits sum_is h.below)

  past : lt_z threshold area ≡ true → None ≡ centroid_found l
  unfolding centroid_found
  past t = rw (ap (lt_z threshold) (sym (area_kept ∙ sum_is)) ∙ t)

  third : lt_z threshold area ≡ false → (le_z (pos 0) area ≡ true) × (le_z area threshold ≡ true)
  third t = (ap (le_z (pos 0)) (area_kept ∙ sum_is) ∙ ≤-le_z (<-≤ (lt_z-< (pos 0) (contour_area l) h.above)), ≤-le_z (lt_z-≤ threshold area t))

  -- the origin o, and d three times the area
  module _ {o : IntPoint} {d : ℕ} (e : (point o ≡ corner_in cs 0) × OnGrid o) (k : d ≡ 3 * nat_abs area) where
    x_kept : to_z w32 (of_z w32 o.x) ≡ (get_or l 0 O).x
    x_kept = kept {w = w32} (coordinate_fits e.1.x_small) ∙ ap (λ p. p.x) (corner_read cs 0 e.0)

    y_kept : to_z w32 (of_z w32 o.y) ≡ (get_or l 0 O).y
    y_kept = kept {w = w32} (coordinate_fits e.1.y_small) ∙ ap (λ p. p.y) (corner_read cs 0 e.0)

    d_is : d ≡ 3 * nat_abs s.area
    d_is = k ∙ ap (λ z. 3 * nat_abs z) area_kept

    some : 0 < length l
    some = omega (arith, n, length-map cs corner_of)

    place_x : Placed (to_z w32 (of_z w32 o.x)) s.x d
    place_x = rw (x_kept, d_is) (placed_x some h g)

    place_y : Placed (to_z w32 (of_z w32 o.y)) s.y d
    place_y = rw (y_kept, d_is) (placed_y some h g)

    found : {x y : ℤ} → lt_z threshold area ≡ false → x ≡ to_z w32 (of_z w32 o.x) +ℤ rounded (value s.x) d → y ≡ to_z w32 (of_z w32 o.y) +ℤ rounded (value s.y) d → Some (record { x = x; y = y }) ≡ centroid_found l
    unfolding centroid_found centre_of
    found {x} {y} t p q =
        let u : x ≡ (rounded_centre l).x = p ∙ (λ i. x_kept i +ℤ rounded (g.x i) ((d_is ∙ ap (λ z. 3 * nat_abs z) g.area) i)) in
        let v : y ≡ (rounded_centre l).y = q ∙ (λ i. y_kept i +ℤ rounded (g.y i) ((d_is ∙ ap (λ z. 3 * nat_abs z) g.area) i)) in
        (λ i. Some (record { x = u i; y = v i })) ∙ sym (rw (ap (lt_z threshold) (sym (area_kept ∙ sum_is)) ∙ t))

pub returns-then-s-gt-MAX_CENTROID_AREA : goal.returns-then-s-gt-MAX_CENTROID_AREA
returns-then-s-gt-MAX_CENTROID_AREA c = past c.args.contour.now c.requires.0 c.requires.1 c.sums_of-s.ensures c.if-s-gt-MAX_CENTROID_AREA.true

pub point_at-origin-requires : goal.point_at-origin-requires
point_at-origin-requires c = (omega (arith, c.requires.1), grid_of c.args.contour.now c.requires.0.grid)

pub tripled-d-requires : goal.tripled-d-requires
tripled-d-requires c = third c.args.contour.now c.requires.0 c.requires.1 c.sums_of-s.ensures c.if-s-gt-MAX_CENTROID_AREA.false

pub centred-requires : goal.centred-requires
centred-requires c = place_x c.args.contour.now c.requires.0 c.requires.1 c.sums_of-s.ensures c.point_at-origin.ensures c.tripled-d.ensures

pub centred-requires-2 : goal.centred-requires-2
centred-requires-2 c = place_y c.args.contour.now c.requires.0 c.requires.1 c.sums_of-s.ensures c.point_at-origin.ensures c.tripled-d.ensures

pub returns : goal.returns
returns c = let x = c.centred in
    let y = c.centred-2 in
    found c.args.contour.now c.requires.0 c.requires.1 c.sums_of-s.ensures c.point_at-origin.ensures c.tripled-d.ensures
    c.if-s-gt-MAX_CENTROID_AREA.false (got w32 x.result x.type_inv ∙ x.ensures) (got w32 y.result y.type_inv ∙ y.ensures)
