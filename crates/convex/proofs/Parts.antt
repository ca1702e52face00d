-- The parts of an accepted mesh: each is strictly convex and counter-clockwise, so no corner has
-- turn 0 (`parts_convex`) and each has three corners or more (`convex_three`); each starts with the
-- last corner added, whose turn is above 0 (`part_first`); each has the doubled area of its
-- region's contour, the sum over the triangles taken (`part_area`, `part_taken`), and so all have
-- together the mesh's (`parts_area`).
-- Assumes an accepted mesh where it says so.
use mathlib.Core.Path.{◌≡◌, sym, ◌∙◌, ap, subst}
use mathlib.Core.Bool.{true, cond}
use mathlib.Core.List.{List, [], ◌∷◌, map, map-map}
use Prim.Native.Nat.{ℕ, ◌-◌, ◌≤◌, ◌<◌}
use native.Mathlib.Omega.{arith}
use lib.ListN.{length, get_or}
use lib.IntN.{ℤ, pos}
use lib.Signed.{lt_z}
use Rattle.integers.specs.Lists.{All, sumℤ, sumℕ, rotate, links, neighbours}
use Rattle.integers.proofs.Elements.{all_map, all_image, map_all}
use Rattle.integers.proofs.Rotation.{map_rotate}
use Rattle.integers.proofs.Ring.{con, ◌:≡◌, pt, ring}
use Rattle.integers.proofs.Tests.{<-lt_z, zneeds}
use Rattle.plane.specs.Plane.{Pt, O, ◌-ᵖ◌, cross, angle_cmp, is_less}
use Rattle.plane.specs.Contour.{edges, contour_area}
use Rattle.plane.proofs.Terms.{◌-E◌, cross_e}
use Rattle.plane.proofs.Contours.{contour_rotate}
use Rattle.mesh.specs.Mesh.{Mesh, triangle_at, triangle_area, mesh_area}
use Rattle.mesh.proofs.Accepted.{Accepted}
use Rattle.convex.specs.Joining.{Corner, Region, region, regions, place_of, from_last, without_straight, contour_of, parts}
use Rattle.convex.proofs.Whole.{all_regions}
use Rattle.convex.proofs.Areas.{region_area, taken_area}
use Rattle.convex.proofs.Round.{Round, round_rotate, region_round}
use Rattle.convex.proofs.Newest.{Sharp, region_sharp}
use Rattle.convex.proofs.Straight.{Strict, straight_first, straight_area, straight_round}

-- "Strictly convex, counter-clockwise": of the corners as they stand every turn is above 0, and the
-- edge out is the lesser one at exactly one
pub record StrictlyConvex (l : List Pt) : Type 0 where
  pub left : All (λ t. lt_z (pos 0) (cross t.0 t.1) ≡ true) (neighbours (edges l))
  pub once : sumℕ (map (λ t. cond (is_less (angle_cmp t.1 t.0)) 1 0) (neighbours (edges l))) ≡ 1

flat : {z : ℤ} → z ≡ pos 0 → lt_z (pos 0) z ≡ true → ⊥
flat e h = omega (zneeds, e, h)

-- fewer than three corners turn nowhere: of one edge, and of an edge and its way back, the cross is
-- 0
pub convex_three : (l : List Pt) → StrictlyConvex l → 3 ≤ length l
unfolding edges neighbours links sumℕ
convex_three [] s = absurd (omega (arith, s.once))
convex_three (a ∷ []) s = absurd (flat (one a) s.left.0)
  where
    one : (a : Pt) → cross (a -ᵖ a) (a -ᵖ a) ≡ pos 0
    one = ring (pt ∷ []) (λ a. cross_e (a -E a) (a -E a) :≡ con (pos 0)) tt
convex_three (a ∷ b ∷ []) s = absurd (flat (two a b) s.left.0)
  where
    two : (a b : Pt) → cross (b -ᵖ a) (a -ᵖ b) ≡ pos 0
    two = ring (pt ∷ pt ∷ []) (λ a b. cross_e (b -E a) (a -E b) :≡ con (pos 0)) tt
convex_three (a ∷ b ∷ c ∷ l) s = omega arith

of_strict : (l : List Pt) → Strict (edges l) → StrictlyConvex l
of_strict l s = record { left = all_map (neighbours (edges l)) (λ t h. <-lt_z h) s.left; once = s.once }

from_last_rotated : (l : List Corner) → from_last l ≡ rotate (place_of (length l - 1) l) (map (λ c. c.point) l)
from_last_rotated l = map_rotate (λ c. c.point) (place_of (length l - 1) l) l

first_stays : (l : List Pt) → Sharp l → get_or (without_straight l) 0 O ≡ get_or l 0 O
first_stays [] h = absurd h
first_stays (p ∷ []) h = absurd h
first_stays (p ∷ c ∷ l) h = ap (λ k. get_or k 0 O) (straight_first p c l h)

module _ {m : Mesh} (ok : Accepted m) where
  -- ---- of one region

  module _ (seen : List ℕ) (k : ℕ) (l : k < length m) where
    abbrev r : Region
    r = region m seen k

    from_last_round : Round (edges (from_last r.contour))
    from_last_round = subst (λ c. Round (edges c)) (sym (from_last_rotated r.contour)) (round_rotate _ (map (λ c. c.point) r.contour) (region_round ok seen k l))

    -- the first corner is the last added
    pub part_first : get_or (contour_of r) 0 O ≡ get_or (from_last r.contour) 0 O
    unfolding contour_of
    part_first = first_stays (from_last r.contour) (region_sharp m ok seen k l)

    -- straight ones gathered, once round
    pub part_convex : StrictlyConvex (contour_of r)
    unfolding contour_of
    part_convex = of_strict (contour_of r) (straight_round (from_last r.contour) (region_sharp m ok seen k l) from_last_round)

    -- corners of turn 0 dropped, and another start: the same doubled area
    pub part_area : contour_area (contour_of r) ≡ contour_area (map (λ c. c.point) r.contour)
    unfolding contour_of
    part_area =
        straight_area (from_last r.contour) (region_sharp m ok seen k l) from_last_round
        ∙ ap contour_area (from_last_rotated r.contour) ∙ contour_rotate _ (map (λ c. c.point) r.contour)

    -- so it is the sum over exactly the triangles taken
    pub part_taken : contour_area (contour_of r) ≡ sumℤ (map (λ j. triangle_area (triangle_at m j)) r.taken)
    part_taken = part_area ∙ region_area m ok seen k l

  -- ---- of all

  -- the same of every region of the mesh
  pub all_contours : All (λ r. contour_area (contour_of r) ≡ contour_area (map (λ c. c.point) r.contour)) (regions m)
  all_contours = all_regions m (λ r. contour_area (contour_of r) ≡ contour_area (map (λ c. c.point) r.contour)) part_area

  -- each with the triangles taken
  pub all_taken : All (λ r. contour_area (contour_of r) ≡ sumℤ (map (λ j. triangle_area (triangle_at m j)) r.taken)) (regions m)
  all_taken = all_regions m (λ r. contour_area (contour_of r) ≡ sumℤ (map (λ j. triangle_area (triangle_at m j)) r.taken)) part_taken

  -- every part is strictly convex, counter-clockwise
  pub parts_convex : All StrictlyConvex (parts m)
  unfolding parts
  parts_convex = (all_image StrictlyConvex contour_of (regions m)).1 (all_regions m (λ r. StrictlyConvex (contour_of r)) part_convex)

  -- the parts' doubled areas add up to the mesh's
  pub parts_area : sumℤ (map contour_area (parts m)) ≡ mesh_area m
  unfolding parts
  parts_area = ap sumℤ (map-map contour_area contour_of (regions m) ∙ map_all _ _ (regions m) all_taken) ∙ taken_area m ok
