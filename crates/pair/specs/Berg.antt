-- De Berg et al.'s sum (document 01): "the corner list that their merge of edges by angle from the
-- lowest, then leftmost, corners gives. It is stated for contours without repeated or in-line
-- corners, clockwise ones turned about first". Assumes nothing.
use Rattle.std.specs.Prelude.{◌≡◌, cond, List, [], ◌∷◌, reverse, pos}
use Rattle.std.specs.Int.Signed.{lt_z}
use Rattle.integers.specs.Lists.{rotate}
use Rattle.std.specs.declared.cmp.Ordering.TheVariants.{Less, Equal, Greater}
use Rattle.plane.specs.Plane.{Pt, ◌+ᵖ◌, angle_cmp}
use Rattle.plane.specs.Contour.{edges, contour_area}
use Rattle.pair.specs.Walk.{least_at, corner_at}

-- clockwise ones turned about
unfoldable pub anticlockwise : List Pt → List Pt
anticlockwise l = cond (lt_z (contour_area l) (pos 0)) (reverse l) l

-- from the lowest, then leftmost, corner
unfoldable pub from_lowest : List Pt → List Pt
from_lowest l = rotate (least_at l) l

-- one turn of the merge, written so that it recurses on one list: the edge e, the edges after it,
-- which `rest` merges, and the list m. `MergeCases` below says it case by case
unfoldable pub merge_one : Pt → (List Pt → List Pt) → List Pt → List Pt
merge_one e rest [] = e ∷ rest []
merge_one e rest (f ∷ m) =
    elim (angle_cmp e f) [
      | Less ↦ e ∷ rest (f ∷ m)
      | Equal ↦ (e +ᵖ f) ∷ rest m
      | Greater ↦ f ∷ merge_one e rest m
    ]

-- two lists of edges merged by angle
unfoldable pub merge_by_angle : List Pt → List Pt → List Pt
merge_by_angle [] m = m
merge_by_angle (e ∷ l) m = merge_one e (merge_by_angle l) m

-- the same case by case, as de Berg et al. have it; that the definition has them is proved
-- (`merge_cases` of proofs/DeBerg.antt)
pub record MergeCases : Type 0 where
  -- one list has run out: what is left of the other
  pub first_out : (m : List Pt) → merge_by_angle [] m ≡ m
  pub second_out : (l : List Pt) → merge_by_angle l [] ≡ l
  -- the first edge's angle is less: it comes next, alone
  pub less : (e f : Pt) (l m : List Pt) → angle_cmp e f ≡ Less → merge_by_angle (e ∷ l) (f ∷ m) ≡ e ∷ merge_by_angle l (f ∷ m)
  -- the second's is less
  pub greater : (e f : Pt) (l m : List Pt) → angle_cmp e f ≡ Greater → merge_by_angle (e ∷ l) (f ∷ m) ≡ f ∷ merge_by_angle (e ∷ l) m
  -- the angles are equal: both at once, as one edge
  pub equal : (e f : Pt) (l m : List Pt) → angle_cmp e f ≡ Equal → merge_by_angle (e ∷ l) (f ∷ m) ≡ (e +ᵖ f) ∷ merge_by_angle l m

-- the corner where each edge starts, from p
unfoldable pub corners_from : Pt → List Pt → List Pt
corners_from p [] = []
corners_from p (e ∷ l) = p ∷ corners_from (p +ᵖ e) l

unfoldable pub berg_of : List Pt → List Pt → List Pt
berg_of A B = corners_from (corner_at A 0 +ᵖ corner_at B 0) (merge_by_angle (edges A) (edges B))

unfoldable pub de_berg : List Pt → List Pt → List Pt
de_berg A B = berg_of (from_lowest (anticlockwise A)) (from_lowest (anticlockwise B))
