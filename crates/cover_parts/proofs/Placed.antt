-- Where meshes meet and overlap (`meshes_placed`): by pairs of polygons, and then whatever the
-- polygons are that cover the meshes. Assumes nothing.
use mathlib.Core.Path.{◌≡◌, subst₂}
use mathlib.Core.Bool.{true}
use mathlib.Core.List.{List, map}
use mathlib.Core.Logic.Iff
use mathlib.Core.Logic.{◌↔◌}
use lib.IntN.{ℤ, pos}
use lib.Signed.{◌<ℤ◌}
use Rattle.integers.specs.Lists.{All, Any}
use Rattle.integers.proofs.Elements.{all_map, all_every, all_flatten, all_image}
use Rattle.plane.specs.Plane.{Pt}
use Rattle.pair.specs.Pair.{pair_contour}
use Rattle.pair.specs.Premise.{strictly_convex}
use Rattle.pair.proofs.Theorem.{demand3}
use Rattle.convex_pairs.proofs.Convexity.{Polygon}
use Rattle.minkowski.specs.Pairs.{pairs_of}
use Rattle.split.specs.Splitting.{split_parts}
use Rattle.split_pairs.proofs.Theorem.{split_polygons}
use Rattle.cover.specs.Inside.{Sum}
use Rattle.cover.specs.Overlap.{StrictlyInside, Meet, Overlap}
use Rattle.cover.specs.Wholes.{SameCover, Overlapping}
use Rattle.cover.proofs.Meets.{sum_meet, pair_meets}
use Rattle.cover.proofs.Wholes.{wholes_overlap, same_overlap}
use Rattle.cover_parts.specs.Parts.{triangle_contour}
use Rattle.cover_parts.specs.Placed.{MeshesPlaced}
use Rattle.cover_parts.proofs.Splits.{split_parts_cover}
use Rattle.cover_parts.proofs.Pairs.{same_back, polygon_ccw, polygon_once, pairs_iff, pairs_image, any_pairs, pairs_cover}

pair_overlap : {A B : List Pt} → Polygon A → Polygon B → {q : ℤ} (z : Pt) → pos 0 <ℤ q → StrictlyInside (pair_contour true A B) q z ↔ Overlap A B q z
pair_overlap {A} {B} a b {q} z hq =
    subst₂ (λ C D. StrictlyInside (pair_contour true A B) q z ↔ Overlap C D q z) (polygon_ccw a) (polygon_ccw b) (pair_meets A B (polygon_once a) (polygon_once b) q z hq).1

-- strictly inside a contour of a pair of polygons is where the polygons, as wholes, overlap
polygons_overlap : {X Y : List (List Pt)} → All Polygon X → All Polygon Y → (q : ℤ) (z : Pt) → pos 0 <ℤ q → Any (λ l. StrictlyInside l q z) (pairs_of true X Y) ↔ Overlapping X Y q z
polygons_overlap {X} {Y} a b q z hq =
    Iff.trans (any_pairs (λ l. StrictlyInside l q z) true X Y)
    (Iff.trans (pairs_iff X Y (λ A B p r. pair_overlap p r z hq) a b)
    (Iff.symm (wholes_overlap X Y q z hq)))

pairs_convex : (X Y : List (List Pt)) → All Polygon X → All Polygon Y → All (λ l. strictly_convex l ≡ true) (pairs_of true X Y)
unfolding pairs_of
pairs_convex X Y a b =
    (all_flatten (λ l. strictly_convex l ≡ true) (map (λ A. map (pair_contour true A) Y) X)).1
    ((all_image (All (λ l. strictly_convex l ≡ true)) (λ A. map (pair_contour true A) Y) X).1
    (all_map X (λ A p. (all_image (λ l. strictly_convex l ≡ true) (pair_contour true A) Y).1 (all_map Y (λ B r. (demand3 true A B (polygon_once p) (polygon_once r)).convex) b)) a))

pub meshes_placed : MeshesPlaced
meshes_placed how m mesh how' m' mesh' h k q z hq =
    let X : List (List Pt) = split_parts how m mesh in
    let Y : List (List Pt) = split_parts how' m' mesh' in
    let S : List (List Pt) = map triangle_contour mesh in
    let T : List (List Pt) = map triangle_contour mesh' in
    let f : SameCover X S = split_parts_cover how m mesh h in
    let g : SameCover Y T = split_parts_cover how' m' mesh' k in
    let wholes : Any (λ l. StrictlyInside l q z) (pairs_of true X Y) ↔ Overlapping S T q z =
    Iff.trans (polygons_overlap (split_polygons how m mesh h) (split_polygons how' m' mesh' k) q z hq) (same_overlap f g, same_overlap (same_back X S f) (same_back Y T g)) in
    record {
      convex = pairs_convex X Y (split_polygons how m mesh h) (split_polygons how' m' mesh' k);
      meets = Iff.trans (pairs_cover true how m mesh how' m' mesh' h k q z hq)
          (pairs_iff mesh mesh'
          (λ s t a b. sum_meet (triangle_contour s) (triangle_contour t) q z) (all_every {P = λ s. Unit {0}} mesh (λ s. tt)) (all_every {P = λ t. Unit {0}} mesh' (λ t. tt)));
      overlaps = Iff.trans wholes (Iff.trans (wholes_overlap S T q z hq) (pairs_image (λ s t. Overlap s t q z) triangle_contour triangle_contour mesh mesh'));
      wholes = wholes;
    }
