-- What is sure of an accepted path (`accepted_sure`). In order: a point's corner is near it; the
-- contour as a part, within the limits and in range. Assumes nothing.
use mathlib.Core.Path.{◌≡◌, refl, sym, ◌∙◌, ap, subst}
use mathlib.Core.Bool.{Bool, true, false, cond, ◌&&◌}
use mathlib.Core.List.{List, [], ◌∷◌, map, flatten, append-nil}
use Prim.Native.Nat.{ℕ, ◌^◌, ◌<◌, ◌≤◌}
use native.Mathlib.Omega.{arith}
use lib.Dec.{T}
use lib.IntN.{ℤ, pos, negsuc, nat_abs}
use lib.Signed.{le_z, lt_z}
use lib.ListN.{length, length-map}
use lib.Ieee.Fits.{and_l, and_r}
use Rattle.integers.specs.Lists.{All}
use Rattle.integers.proofs.Elements.{all_map2}
use Rattle.integers.proofs.Order.{by_test}
use Rattle.integers.proofs.Sizes.{abs_parts}
use Rattle.integers.proofs.Tests.{zneeds}
use Rattle.plane.specs.Plane.{Pt, in_range, on_grid as plane-on}
use Rattle.corners.specs.Corners.{numbers_of, off_range}
use Rattle.corners.proofs.Range.{numbers_range}
use Rattle.table.specs.Table.{max_contour, max_corners, corners_of}
use Rattle.table.proofs.Rules.{Limits, limits_sound}
use Rattle.floats.specs.Floats.{number}
use Rattle.floats.proofs.Comparisons.{number_is}
use Rattle.grid.specs.Grid.{step_count, within_range, on_grid, scaled}
use Rattle.grid.proofs.Bands.{range_number}
use Rattle.grid.proofs.Bound.{placed, coordinate_small}
use Rattle.path.specs.declared.PathItem.{PathItem}
use Rattle.path.specs.declared.Point.{Point}
use Rattle.path.specs.declared.Frame.{Frame}
use Rattle.path.specs.Path.{every, path_points, path_contour, framed, is_within, is_on_grid, path_fault, corner_of}
use Rattle.path.specs.Accepted.{Near, AcceptedSure}
use Rattle.path.proofs.Writing.{Sound, sound, sound_near, sound_framed}

-- a test passed at each element
every_all : {A : Type 0} (f : A → Bool) (l : List A) → T (every f l) → All (λ x. T (f x)) l
unfolding every
every_all f [] t = tt
every_all f (x ∷ l) t = (and_l (f x) (every f l) t, every_all f l (and_r (f x) (every f l) t))

module _ (f : Frame) (h : T (framed f)) where
  both : T (number f.x && number f.y)
  both = and_r (step_count f.steps) (number f.x && number f.y) h

  point_near : (p : Point) → T (is_within p) → T (is_on_grid f p) → Near f p
  point_near p r g =
      let s : T (step_count f.steps) = and_l (step_count f.steps) (number f.x && number f.y) h in
      let u = scaled p.x f.x f.steps in
      let v = scaled p.y f.y f.steps in
      record {
        x_near = placed f.steps (range_number p.x (and_l (within_range p.x) (within_range p.y) r)) (number_is f.x (and_l (number f.x) (number f.y) both)) s (and_l (on_grid u) (on_grid v) g);
        y_near = placed f.steps (range_number p.y (and_r (within_range p.x) (within_range p.y) r)) (number_is f.y (and_r (number f.x) (number f.y) both)) s (and_r (on_grid u) (on_grid v) g);
      }

-- ---- the contour as a part

-- |z| < 2 ^ 30
small_range : (z : ℤ) → nat_abs z < 2 ^ 30 → in_range z ≡ true
unfolding in_range
small_range z h =
    let low : le_z z (negsuc 1073741823) ≡ false = by_test (le_z z (negsuc 1073741823)) (λ e. absurd (omega (zneeds, e, h, abs_parts z))) (λ e. e) in
    let high : lt_z z (pos 1073741824) ≡ true = by_test (lt_z z (pos 1073741824)) (λ e. e) (λ e. absurd (omega (zneeds, e, h, abs_parts z))) in
    ap (λ b. cond b false (lt_z z (pos 1073741824))) low ∙ high

corner_on : (f : Frame) (p : Point) → T (is_on_grid f p) → plane-on (corner_of f p) ≡ true
unfolding plane-on
corner_on f p g =
    let u = scaled p.x f.x f.steps in
    let v = scaled p.y f.y f.steps in
    ap (λ b. cond b (in_range (corner_of f p).y) false) (small_range (corner_of f p).x (coordinate_small p.x f.x f.steps (and_l (on_grid u) (on_grid v) g)))
    ∙ small_range (corner_of f p).y (coordinate_small p.y f.y f.steps (and_r (on_grid u) (on_grid v) g))

corners_on : (f : Frame) (ps : List Point) → T (every (is_on_grid f) ps) → All (λ p. plane-on p ≡ true) (map (corner_of f) ps)
unfolding every
corners_on f [] t = tt
corners_on f (p ∷ ps) t = (corner_on f p (and_l (is_on_grid f p) (every (is_on_grid f) ps) t), corners_on f ps (and_r (is_on_grid f p) (every (is_on_grid f) ps) t))

module _ (f : Frame) (is : List PathItem) (room : ℕ) (e : path_fault f is room ≡ 0) where
  abbrev S : Sound f is room
  S = sound f is room e

  near_all : All (Near f) (path_points is)
  near_all =
      all_map2 {P = λ p. T (is_within p)} {Q = λ p. T (is_on_grid f p)} {R = Near f} (path_points is) (point_near f (sound_framed S))
      (every_all is_within (path_points is) (sound_near S)) (every_all (is_on_grid f) (path_points is) S.placeable)

  contour_short : length (path_contour f is) ≤ max_contour
  unfolding path_contour
  contour_short = subst (λ n. n ≤ max_contour) (sym (length-map (path_points is) _)) S.short

  abbrev contour : List Pt
  contour = path_contour f is

  one : flatten (contour ∷ []) ≡ contour
  unfolding flatten
  one = append-nil contour

  limits : Limits (contour ∷ [])
  limits = record { parts = omega arith; corners = subst (λ l. length l ≤ max_corners) (sym one) (omega (arith, contour_short)); contours = (contour_short, tt) }

  in_range_lem : off_range (corners_of (contour ∷ [])) ≡ false
  unfolding corners_of path_contour off_range
  in_range_lem = ap (λ l. off_range (numbers_of l)) one ∙ ap off_range (sym (append-nil (numbers_of contour))) ∙ numbers_range contour [] (corners_on f (path_points is) S.placeable) refl

pub accepted_sure : AcceptedSure
accepted_sure f is room e = record {
  near = near_all f is room e;
  short = contour_short f is room e;
  rules = limits_sound (limits f is room e);
  range = in_range_lem f is room e;
}
