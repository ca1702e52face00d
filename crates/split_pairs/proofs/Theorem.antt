-- The statements of specs/Premise: a split part is a polygon (`split_polygons`), so it meets demand
-- 3's premise (`split_meets_premise`), and any two have what that says (`split_reach`); its corners
-- are on the grid (`split_on_grid`). Assumes nothing.
use mathlib.Core.Path.{◌≡◌}
use mathlib.Core.Bool.{true}
use mathlib.Core.List.{List, [], ◌∷◌, map}
use Prim.Native.Nat.{ℕ, ◌≤◌}
use native.Mathlib.Omega.{arith}
use lib.Dec.{leb}
use lib.ListN.{length}
use lib.IntN.{pos}
use lib.Signed.{lt_z}
use Rattle.integers.specs.Lists.{All, sumℤ, neighbours}
use Rattle.integers.specs.Faults.{first_fault}
use Rattle.integers.proofs.Order.{by_test}
use Rattle.integers.proofs.Tests.{differ, <-lt_z}
use Rattle.integers.proofs.Elements.{all_map, all_image, all_flatten}
use Rattle.plane.specs.Plane.{Pt, on_grid}
use Rattle.plane.specs.Contour.{contour_area}
use Rattle.mesh.specs.Mesh.{Mesh, mesh_kinds}
use Rattle.convex.specs.Joining.{parts}
use Rattle.pair.proofs.Theorem.{demand3}
use Rattle.convex_pairs.proofs.Convexity.{Polygon, polygon_area, polygon_convex}
use Rattle.convex_pairs.proofs.Meets.{meets, parts_polygons}
use Rattle.split.specs.declared.ConvexSplitStrategy.{ConvexSplitStrategy}
use Rattle.split.specs.declared.ConvexSplitStrategy.TheVariants.{EarClipping, Fan, Centroid}
use Rattle.split.specs.Splitting.{left_of_all, centre_of, centre_serves, centred_parts, split_by, split_contour, split_parts, raised}
use Rattle.split_centre.specs.Centre.{Summable, rounded_centre}
use Rattle.split_centre.proofs.Range.{centre_on_grid}
use Rattle.split_pairs.specs.Premise.{SplitMeetsPremise, SplitReach, SplitOnGrid}
use Rattle.split_pairs.proofs.Joined.{parts_summable}
use Rattle.split_pairs.proofs.Chorded.{ear_polygons, fan_polygons}
use Rattle.split_pairs.proofs.Centred.{centroid_polygons}
use Rattle.split_pairs.proofs.Corners.{split_corners}

-- ---- one contour

-- "Fan is used if it isn't strictly inside"
pub serves_left : (g : Pt) (l : List Pt) → centre_serves g l ≡ true → left_of_all g (neighbours l) ≡ true
unfolding centre_serves
serves_left g l h = by_test (lt_z (pos 3074457345618258602) (contour_area l)) (λ e. differ (rw e at h)) (λ e. rw e at h)

by_polygons : (how : ConvexSplitStrategy) {m : ℕ} {l : List Pt} → 3 ≤ m → Polygon l → All Polygon (split_by how m l)
unfolding centred_parts
by_polygons EarClipping {m} h p = ear_polygons h p
by_polygons Fan {m} h p = fan_polygons h p
by_polygons Centroid {l = []} h p = tt
by_polygons Centroid {m} {l = c ∷ l} h p =
    by_test (centre_serves (centre_of c (c ∷ l)) (c ∷ l))
    (λ e. rw e (centroid_polygons (centre_of c (c ∷ l)) h p (serves_left (centre_of c (c ∷ l)) (c ∷ l) e))) (λ e. rw e (fan_polygons h p))

contour_polygons : (how : ConvexSplitStrategy) {m : ℕ} {l : List Pt} → 3 ≤ m → Polygon l → All Polygon (split_contour how m l)
unfolding split_contour
contour_polygons how {m} {l} h p = by_test (leb (length l) m) (λ e. rw e (p, tt)) (λ e. rw e (by_polygons how h p))

-- ---- all

-- what holds of the parts of each contour
pub all_split : {P : List Pt → Type 0} (Q : List Pt → Type 0) (how : ConvexSplitStrategy) (m : ℕ) (mesh : Mesh) → ((l : List Pt) → P l → All Q (split_contour how (raised m) l)) → All P (parts mesh) → All Q (split_parts how m mesh)
unfolding split_parts
all_split Q how m mesh f h =
    (all_flatten Q (map (split_contour how (raised m)) (parts mesh))).1 ((all_image (All Q) (split_contour how (raised m)) (parts mesh)).1 (all_map (parts mesh) f h))

pub split_polygons : (how : ConvexSplitStrategy) (m : ℕ) (mesh : Mesh) → first_fault (mesh_kinds mesh) ≡ 0 → All Polygon (split_parts how m mesh)
split_polygons how m mesh h = all_split Polygon how m mesh (λ l p. contour_polygons how (omega arith) p) (parts_polygons mesh h)

pub split_meets_premise : SplitMeetsPremise
split_meets_premise how m mesh h =
    all_map (split_parts how m mesh) (λ l p. record { premise = meets (polygon_convex p); above = <-lt_z (polygon_area p) }) (split_polygons how m mesh h)

pub split_reach : SplitReach
split_reach reflected how m mesh how' m' mesh' h k =
    all_map (split_parts how m mesh)
    (λ A a. all_map (split_parts how' m' mesh') (λ B b. demand3 reflected A B a.premise.1 b.premise.1) (split_meets_premise how' m' mesh' k))
    (split_meets_premise how m mesh h)

-- a part is not empty, for its doubled area is above 0
part_centre : {l : List Pt} → Summable l → on_grid (rounded_centre l) ≡ true
part_centre {l = []} s = unfold contour_area neighbours sumℤ in differ s.above
part_centre {l = c ∷ l} s = centre_on_grid s

pub split_on_grid : SplitOnGrid
split_on_grid how m mesh h =
    all_split (All (λ p. on_grid p ≡ true)) how m mesh (λ l s. split_corners (λ p. on_grid p ≡ true) how (raised m) l s.grid (part_centre s)) (parts_summable mesh h)
