-- Every corner of a split part is a corner of the contour split, or its centre: what holds of these
-- holds of it (`split_corners`). Assumes nothing.
use mathlib.Core.List.{List, [], ◌∷◌, ◌++◌}
use Prim.Native.Nat.{ℕ, zero, suc, ◌+◌, ◌-◌}
use lib.Dec.{eqb, leb}
use lib.ListN.{length, take, drop}
use Rattle.integers.specs.Lists.{All}
use Rattle.integers.proofs.Order.{by_test}
use Rattle.integers.proofs.Elements.{all_append}
use Rattle.plane.specs.Plane.{Pt}
use Rattle.convex_pairs.proofs.Triples.{all_take, all_drop}
use Rattle.split.specs.declared.ConvexSplitStrategy.{ConvexSplitStrategy}
use Rattle.split.specs.declared.ConvexSplitStrategy.TheVariants.{EarClipping, Fan, Centroid}
use Rattle.split.specs.Splitting.{triangle_shares, shares, ceil_div, clipped, fanned, fan_parts, centre_of, centre_serves, edges_taken, group_parts, sectors, centred_parts, split_by, split_contour}
use Rattle.split_centre.specs.Centre.{rounded_centre}

module _ (P : Pt → Type 0) where
  clipped_corners : (ss : List ℕ) (l : List Pt) → All P l → All (All P) (clipped ss l)
  unfolding clipped
  clipped_corners [] l h = tt
  clipped_corners (s ∷ ss) l h =
      (all_take P (s + 2) l h, clipped_corners ss (drop (s + 1) l ++ take 1 l) ((all_append P (drop (s + 1) l) (take 1 l)).1 (all_drop P (s + 1) l h, all_take P 1 l h)))

  fanned_corners : (ss : List ℕ) {c : Pt} (l : List Pt) → P c → All P l → All (All P) (fanned ss c l)
  unfolding fanned
  fanned_corners [] l k h = tt
  fanned_corners (s ∷ ss) l k h = ((k, all_take P (s + 1) l h), fanned_corners ss (drop s l) k (all_drop P s l h))

  fan_corners : (m : ℕ) (l : List Pt) → All P l → All (All P) (fan_parts m l)
  unfolding fan_parts
  fan_corners m [] h = tt
  fan_corners m (c ∷ l) h = fanned_corners (triangle_shares (suc (length l)) m) l h.0 h.1

  group_corners : (n : ℕ) {g : Pt} (s : ℕ) (l : List Pt) → P g → All P l → All (All P) (group_parts n g s l)
  unfolding group_parts
  group_corners zero s l k h = tt
  group_corners (suc n) {g} s l k h =
      let e : ℕ = edges_taken g s l in
      by_test (eqb s 0) (λ d. rw d tt) (λ d. rw d ((k, all_take P (e + 1) l h), group_corners n (s - e) (drop e l) k (all_drop P e l h)))

  pub sector_corners : (ss : List ℕ) {g : Pt} (l : List Pt) → P g → All P l → All (All P) (sectors ss g l)
  unfolding sectors
  sector_corners [] l k h = tt
  sector_corners (s ∷ ss) {g} l k h =
      (all_append (All P) (group_parts s g s l) (sectors ss g (drop s l))).1 (group_corners s s l k h, sector_corners ss (drop s l) k (all_drop P s l h))

  centred_corners : (m : ℕ) (l : List Pt) → All P l → P (rounded_centre l) → All (All P) (centred_parts m l)
  unfolding centred_parts
  centred_corners m [] h k = tt
  centred_corners m (c ∷ l) h k =
      by_test (centre_serves (centre_of c (c ∷ l)) (c ∷ l))
      (λ e. rw e (sector_corners (shares (suc (length l)) (ceil_div (suc (length l)) (m - 2))) (c ∷ l ++ (c ∷ [])) k (h.0, (all_append P l (c ∷ [])).1 (h.1, (h.0, tt)))))
      (λ e. rw e (fan_corners m (c ∷ l) h))

  by_corners : (how : ConvexSplitStrategy) (m : ℕ) (l : List Pt) → All P l → P (rounded_centre l) → All (All P) (split_by how m l)
  by_corners EarClipping m l h k = clipped_corners (triangle_shares (length l) m) l h
  by_corners Fan m l h k = fan_corners m l h
  by_corners Centroid m l h k = centred_corners m l h k

  pub split_corners : (how : ConvexSplitStrategy) (m : ℕ) (l : List Pt) → All P l → P (rounded_centre l) → All (All P) (split_contour how m l)
  unfolding split_contour
  split_corners how m l h k = by_test (leb (length l) m) (λ e. rw e (h, tt)) (λ e. rw e (by_corners how m l h k))
