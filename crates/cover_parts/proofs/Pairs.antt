-- What the contours of all pairs of two meshes' split parts cover: the sums of points of a triangle
-- of one and a triangle of the other (`pairs_cover`). In order: sums of points that two lists
-- cover; polygons as a pair reads them; pairs of elements. Assumes nothing.
use mathlib.Core.Path.{◌≡◌, ap, subst₂}
use mathlib.Core.Bool.{Bool, true, cond}
use mathlib.Core.List.{List, map, reverse}
use mathlib.Core.Logic.Iff
use mathlib.Core.Logic.{◌↔◌}
use lib.IntN.{ℤ, pos, ◌*ℤ◌}
use lib.Signed.{◌<ℤ◌}
use Rattle.integers.specs.Lists.{All, Any}
use Rattle.integers.proofs.Order.{<-≤}
use Rattle.integers.proofs.Signs.{pos_mul}
use Rattle.integers.proofs.Tests.{≤-lt_z}
use Rattle.integers.proofs.Elements.{all_map, any_map, all_every, any_iff, any_find, any_flatten, any_image}
use Rattle.plane.specs.Plane.{Pt, ◌+ᵖ◌}
use Rattle.plane.specs.Contour.{contour_area}
use Rattle.pair.specs.Walk.{turned}
use Rattle.pair.specs.Pair.{pair_contour}
use Rattle.pair.specs.Premise.{once_round}
use Rattle.pair.specs.Berg.{anticlockwise}
use Rattle.minkowski.specs.Pairs.{pairs_of}
use Rattle.convex_pairs.proofs.Convexity.{Polygon, polygon_area, polygon_convex}
use Rattle.convex_pairs.proofs.Meets.{meets}
use Rattle.split.specs.Splitting.{split_parts}
use Rattle.split_pairs.proofs.Theorem.{split_polygons}
use Rattle.cover.specs.Inside.{◌·ᵖ◌, Inside, Sum}
use Rattle.cover.specs.Wholes.{Covered, SameCover, SomePair}
use Rattle.cover.proofs.Covers.{pair_covers}
use Rattle.cover_parts.specs.Parts.{triangle_contour, PairsCover}
use Rattle.cover_parts.proofs.Splits.{split_parts_cover}

-- z/q is a sum of a point that X covers and a point that Y covers
record SumOf (reflected : Bool) (X Y : List (List Pt)) (q : ℤ) (z : Pt) : Type 0 where
  k : ℤ
  u : Pt
  v : Pt
  above : pos 0 <ℤ k
  first : Covered X (k *ℤ q) u
  second : Covered Y (k *ℤ q) v
  sum : u +ᵖ turned reflected v ≡ k ·ᵖ z

sums : (reflected : Bool) (X Y : List (List Pt)) (q : ℤ) (z : Pt) → SomePair (λ A B. Sum reflected A B q z) X Y ↔ SumOf reflected X Y q z
sums reflected X Y q z = (
  λ h. any_find X h (λ A among-x k. any_find Y k (λ B among-y s. record {
    k = s.k;
    u = s.u;
    v = s.v;
    above = s.above;
    first = among-x (λ l. Inside l (s.k *ℤ q) s.u) s.first;
    second = among-y (λ l. Inside l (s.k *ℤ q) s.v) s.second;
    sum = s.sum;
  })),
  λ s. any_map X (λ A a. any_map Y (λ B b. record { k = s.k; u = s.u; v = s.v; above = s.above; first = a; second = b; sum = s.sum }) s.second) s.first,
)

sum_same : {reflected : Bool} {X Y X' Y' : List (List Pt)} {q : ℤ} {z : Pt} → pos 0 <ℤ q → SameCover X X' → SameCover Y Y' → SumOf reflected X Y q z → SumOf reflected X' Y' q z
sum_same {q} hq f g s = record {
  k = s.k;
  u = s.u;
  v = s.v;
  above = s.above;
  first = (f (s.k *ℤ q) s.u (pos_mul s.above hq)).0 s.first;
  second = (g (s.k *ℤ q) s.v (pos_mul s.above hq)).0 s.second;
  sum = s.sum;
}

pub same_back : (X Y : List (List Pt)) → SameCover X Y → SameCover Y X
same_back X Y f q z hq = Iff.symm (f q z hq)

-- a polygon runs counter-clockwise
pub polygon_ccw : {l : List Pt} → Polygon l → anticlockwise l ≡ l
unfolding anticlockwise
polygon_ccw {l} p = ap (λ b. cond b (reverse l) l) (≤-lt_z {x = contour_area l} {y = pos 0} (<-≤ (polygon_area p)))

pub polygon_once : {l : List Pt} → Polygon l → once_round l ≡ true
polygon_once {l} p = (meets (polygon_convex p)).1

pair_sum : (reflected : Bool) {A B : List Pt} → Polygon A → Polygon B → {q : ℤ} (z : Pt) → pos 0 <ℤ q → Inside (pair_contour reflected A B) q z ↔ Sum reflected A B q z
pair_sum reflected {A} {B} a b {q} z hq =
    subst₂ (λ C D. Inside (pair_contour reflected A B) q z ↔ Sum reflected C D q z) (polygon_ccw a) (polygon_ccw b)
    (pair_covers reflected A B (polygon_once a) (polygon_once b) q z hq)

-- ---- pairs

-- R and S of a pair of each
pub pairs_iff : {A B : Type 0} {R S : A → B → Type 0} {P : A → Type 0} {Q : B → Type 0} (X : List A) (Y : List B) → ((a : A) (b : B) → P a → Q b → R a b ↔ S a b) → All P X → All Q Y → SomePair R X Y ↔ SomePair S X Y
pairs_iff {R} {S} X Y f h k = any_iff (λ a. Any (R a) Y) (λ a. Any (S a) Y) X (all_map X (λ a p. any_iff (R a) (S a) Y (all_map Y (λ b r. f a b p r) k)) h)

pub pairs_image : {A B C D : Type 0} (R : C → D → Type 0) (f : A → C) (g : B → D) (X : List A) (Y : List B) → SomePair R (map f X) (map g Y) ↔ SomePair (λ a b. R (f a) (g b)) X Y
pairs_image R f g X Y = Iff.trans (any_image (λ c. Any (R c) (map g Y)) f X)
    (any_iff (λ a. Any (R (f a)) (map g Y)) (λ a. Any (λ b. R (f a) (g b)) Y) X (all_every X (λ a. any_image (R (f a)) g Y)))

-- the contours of all pairs, pair by pair
pub any_pairs : (P : List Pt → Type 0) (reflected : Bool) (X Y : List (List Pt)) → Any P (pairs_of reflected X Y) ↔ SomePair (λ A B. P (pair_contour reflected A B)) X Y
unfolding pairs_of
any_pairs P reflected X Y = Iff.trans (any_flatten P (map (λ A. map (pair_contour reflected A) Y) X)) (Iff.trans (any_image (Any P) (λ A. map (pair_contour reflected A) Y) X)
    (any_iff (λ A. Any P (map (pair_contour reflected A) Y)) (λ A. Any (λ B. P (pair_contour reflected A B)) Y) X (all_every X (λ A. any_image P (pair_contour reflected A) Y))))

-- ---- the theorem

pub pairs_cover : PairsCover
pairs_cover reflected how m mesh how' m' mesh' h k q z hq =
    let X : List (List Pt) = split_parts how m mesh in
    let Y : List (List Pt) = split_parts how' m' mesh' in
    let S : List (List Pt) = map triangle_contour mesh in
    let T : List (List Pt) = map triangle_contour mesh' in
    let f : SameCover X S = split_parts_cover how m mesh h in
    let g : SameCover Y T = split_parts_cover how' m' mesh' k in
    Iff.trans (any_pairs (λ l. Inside l q z) reflected X Y)
    (Iff.trans (pairs_iff X Y (λ A B a b. pair_sum reflected a b z hq) (split_polygons how m mesh h) (split_polygons how' m' mesh' k))
    (Iff.trans (sums reflected X Y q z)
    (Iff.trans (sum_same hq f g, sum_same hq (same_back X S f) (same_back Y T g))
    (Iff.trans (Iff.symm (sums reflected S T q z)) (pairs_image (λ A B. Sum reflected A B q z) triangle_contour triangle_contour mesh mesh')))))
