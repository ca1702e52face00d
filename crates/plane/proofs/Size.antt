-- Sizes of differences and cross products of coordinates, as rules for `search` (the ruleset
-- `sizes`), and what the tests `inRange` and `on_grid` tell. Assumes nothing.
use mathlib.Core.Path.{◌≡◌, refl}
use mathlib.Core.Bool.{Bool, true, false, cond}
use mathlib.Core.List.{[], ◌∷◌}
use lib.IntN.{ℤ, pos, negsuc, ◌-ℤ◌, ◌*ℤ◌}
use lib.Signed.{le_z, lt_z}
use mir.Syntax.{w32, w64}
use mir.Val.{SFits}
use Rattle.integers.proofs.Ring.{◌:-◌, ◌:*◌}
use Rattle.integers.proofs.Tests.{zneeds, differ}
use Rattle.integers.proofs.Sizes.{fits, within, abs_parts}
use Rattle.plane.specs.Plane.{Pt, in_range, on_grid}
use Rattle.plane.specs.Machine.{Coordinate, Extent, CrossSize}

pub coordinate_sub : {x y : ℤ} → Coordinate x → Coordinate y → Extent (x -ℤ y)
coordinate_sub h k = within 2147483646 (1073741823 ∷ 1073741823 ∷ []) (λ x y. x :- y) tt _ h _ k

pub coordinate_sub_fits : {x y : ℤ} → Coordinate x → Coordinate y → SFits w32 (x -ℤ y)
coordinate_sub_fits h k = fits w32 (1073741823 ∷ 1073741823 ∷ []) (λ x y. x :- y) tt _ h _ k

pub coordinate_fits : {x : ℤ} → Coordinate x → SFits w32 x
coordinate_fits h = fits w32 (1073741823 ∷ []) (λ x. x) tt _ h

pub extent_fits : {x : ℤ} → Extent x → SFits w64 x
extent_fits h = fits w64 (2147483646 ∷ []) (λ x. x) tt _ h

pub extent_mul_fits : {x y : ℤ} → Extent x → Extent y → SFits w64 (x *ℤ y)
extent_mul_fits h k = fits w64 (2147483646 ∷ 2147483646 ∷ []) (λ x y. x :* y) tt _ h _ k

pub cross_fits : {ax ay bx by : ℤ} → Extent ax → Extent ay → Extent bx → Extent by → SFits w64 (ax *ℤ by -ℤ ay *ℤ bx)
cross_fits h k l m = fits w64 (2147483646 ∷ 2147483646 ∷ 2147483646 ∷ 2147483646 ∷ []) (λ ax ay bx by. ax :* by :- ay :* bx) tt _ h _ k _ l _ m

pub cross_size : {ax ay bx by : ℤ} → Extent ax → Extent ay → Extent bx → Extent by → CrossSize (ax *ℤ by -ℤ ay *ℤ bx)
cross_size h k l m = within 9223372019674906632 (2147483646 ∷ 2147483646 ∷ 2147483646 ∷ 2147483646 ∷ []) (λ ax ay bx by. ax :* by :- ay :* bx) tt _ h _ k _ l _ m

pub ruleset sizes = (coordinate_sub, coordinate_sub_fits, extent_fits, extent_mul_fits, cross_fits, cross_size)

-- ---- what the test of a coordinate tells

pub in_range_coordinate : (z : ℤ) → in_range z ≡ true → Coordinate z
unfolding in_range
in_range_coordinate z = of (le_z z (negsuc 1073741823)) refl
  where
    of : (t : Bool) → le_z z (negsuc 1073741823) ≡ t → cond t false (lt_z z (pos 1073741824)) ≡ true → Coordinate z
    of true e h = differ h
    of false e h = record { abs = omega (zneeds, e, h, abs_parts z) }

pub on_grid_both : (p : Pt) → on_grid p ≡ true → Coordinate p.x × Coordinate p.y
unfolding on_grid
on_grid_both p = of (in_range p.x) refl
  where
    of : (t : Bool) → in_range p.x ≡ t → cond t (in_range p.y) false ≡ true → Coordinate p.x × Coordinate p.y
    of true e h = (in_range_coordinate p.x e, in_range_coordinate p.y h)
    of false e h = differ h
