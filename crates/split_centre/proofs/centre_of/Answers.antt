-- `split_centre::centre_of` meets its contract: the centroid where it is found and strictly inside.
-- Assumes nothing.
use mathlib.Core.Path.{◌≡◌, refl, sym, ◌∙◌, ap}
use mathlib.Core.Bool.{Bool, true, false, cond}
use mathlib.Core.List.{List, [], ◌∷◌, map}
use Prim.Native.Nat.{ℕ, ◌<◌}
use native.Mathlib.Omega.{arith}
use lib.ListN.{length, length-map}
use lib.IntN.{pos}
use lib.Signed.{lt_z}
use Rattle.integers.specs.Lists.{neighbours}
use Rattle.plane.specs.declared.IntPoint.{IntPoint}
use Rattle.plane.specs.Plane.{Pt}
use Rattle.plane.specs.Contour.{contour_area}
use Rattle.plane.specs.Machine.{point, OnGrid}
use Rattle.plane.proofs.Size.{on_grid_both}
use Rattle.points.specs.Points.{corner_of}
use Rattle.split.specs.Splitting.{left_of_all, centre_serves}
use Rattle.std.specs.Prelude.{Some, None}
use Rattle.split_centre.specs.Centre.{Summable, rounded_centre, grid_point, centroid_found, centre_found}
use Rattle.split_centre.proofs.Range.{centre_on_grid}
use Rattle.split_centre.proofs.Reading.{grid_of}
use Rattle.split_centre.proofs.centre_of.Goals as goal

-- which way the centroid was found
at_of : (t : Bool) (a : IntPoint) {g : IntPoint} → cond t None (Some a) ≡ Some g → (t ≡ false) × (g ≡ a)
at_of true a e = absurd (let z : ◌≡◌ {A = ℕ} 0 1 = cc in omega arith)
at_of false a e = (refl, cc)

unserved_of : (t : Bool) (a : IntPoint) → cond t None (Some a) ≡ None → t ≡ true
unserved_of true a e = refl
unserved_of false a e = absurd (let z : ◌≡◌ {A = ℕ} 0 1 = cc in omega arith)

module _ (l : List Pt) where
  abbrev past : Bool
  past = lt_z (pos 3074457345618258602) (contour_area l)

  none : centroid_found l ≡ None → None ≡ centre_found l
  unfolding centroid_found centre_found centre_serves
  none e = rw (unserved_of past (grid_point (rounded_centre l)) e)

  module _ {g : IntPoint} (e : centroid_found l ≡ Some g) where
    within : past ≡ false
    unfolding centroid_found
    within = (at_of past (grid_point (rounded_centre l)) e).0

    is : g ≡ grid_point (rounded_centre l)
    unfolding centroid_found
    is = (at_of past (grid_point (rounded_centre l)) e).1

    served : {t : Bool} → t ≡ left_of_all (point g) (neighbours l) → t ≡ true → Some g ≡ centre_found l
    unfolding centre_found centre_serves
    served p q = ap Some is ∙ sym (rw (within, ap (λ a. left_of_all (point a) (neighbours l)) (sym is) ∙ sym p ∙ q))

    unserved : {t : Bool} → t ≡ left_of_all (point g) (neighbours l) → t ≡ false → None ≡ centre_found l
    unfolding centre_found centre_serves
    unserved p q = sym (rw (within, ap (λ a. left_of_all (point a) (neighbours l)) (sym is) ∙ sym p ∙ q))

on_grid_lem : (l : List Pt) → 0 < length l → Summable l → {g : IntPoint} → g ≡ grid_point (rounded_centre l) → OnGrid g
on_grid_lem [] n h e = absurd (omega arith)
on_grid_lem (c ∷ l) n h e = rw e (let k = on_grid_both (rounded_centre (c ∷ l)) (centre_on_grid h) in record { x_small = k.0; y_small = k.1 })

pub returns-in_default : goal.returns-in_default
returns-in_default c = none (map corner_of c.args.contour.now) (sym c.polygon_centroid.ensures ∙ c.in_default.is)

pub strictly_inside-requires : goal.strictly_inside-requires
strictly_inside-requires c = let l = map corner_of c.args.contour.now in
    (grid_of c.args.contour.now c.requires.0.grid, on_grid_lem l (omega (arith, c.requires.1, length-map c.args.contour.now corner_of)) c.requires.0 (is l (sym c.polygon_centroid.ensures ∙ c.in-Some.is)), c.requires.1)

pub returns-then-strictly_inside : goal.returns-then-strictly_inside
returns-then-strictly_inside c = served (map corner_of c.args.contour.now) (sym c.polygon_centroid.ensures ∙ c.in-Some.is) c.strictly_inside.ensures c.if-strictly_inside.true

pub returns-else-strictly_inside : goal.returns-else-strictly_inside
returns-else-strictly_inside c = unserved (map corner_of c.args.contour.now) (sym c.polygon_centroid.ensures ∙ c.in-Some.is) c.strictly_inside.ensures c.if-strictly_inside.false
