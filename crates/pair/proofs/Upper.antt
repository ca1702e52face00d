-- Seen from its first corner, the other corners of a convex list of edges lie in the upper half
-- (`up_corner`) and none right of the edge out of it (`left_weakly`, `left_strictly`): a sum of
-- edges before, or minus a sum of edges after. So the corners are distinct (`distinct_corners`).
-- Assumes nothing.
use mathlib.Core.Path.{◌≡◌, refl, sym, ◌∙◌, ap, subst}
use mathlib.Core.Bool.{Bool, true, false}
use mathlib.Core.List.{List, [], ◌∷◌, map, map-map}
use native.Mathlib.Omega.{arith}
use lib.IntN.{ℤ, pos, ◌+ℤ◌}
use lib.Signed.{◌≤ℤ◌, ◌<ℤ◌, ≤ℤ_refl}
use Rattle.integers.specs.Lists.{All, Distinct}
use Rattle.integers.proofs.Ring.{con, pt}
use Rattle.integers.proofs.Order.{zarith, add_parts, by_test}
use Rattle.integers.proofs.Arith.{◌:<◌, ◌⇒◌, arithℤ}
use Rattle.integers.proofs.Elements.{all_map, all_map2, all_image}
use Rattle.integers.proofs.Tests.{differ}
use Rattle.plane.specs.Plane.{Pt, O, ◌+ᵖ◌, negᵖ, cross, lower}
use Rattle.plane.proofs.Terms.{◌+E◌, cross_e}
use Rattle.plane.proofs.Vectors.{cross_add_r, cross_self}
use Rattle.plane.specs.Halves.{Up, above, level, Nz}
use Rattle.plane.proofs.Directions.{LeAt, Le, Lt, lt_le, lt_trans, lt_irrefl, lt_in_half, lower_up, nz_of_up}
use Rattle.pair.specs.Demand.{sumᵖ}
use Rattle.pair.specs.Berg.{corners_from}
use Rattle.plane.proofs.Sides.{+ᵖ_cancel, neg_of_sum, cross_neg_swap_l, nz_up, nz_down, up_add, down_add}
use Rattle.pair.proofs.Convex.{Sorted, Convex}
use Rattle.pair.proofs.Totals.{sum_cons, sum_some, sum_left, sum_right, cut}
use Rattle.pair.proofs.Splits.{Split, split_start, split_next, split_before, split_all, split_sum, cut_split, corners_cuts}
use Rattle.pair.proofs.Join.{sorted_le}

-- what comes before one of the upper half is in it, what comes after one of the lower half is in
-- that
half_before : {a b : Pt} → Le a b → lower b ≡ false → lower a ≡ false
half_before {a} {b} h e = at h.le e
  where
    at : {p q : Bool} → LeAt p q (cross a b) → q ≡ false → p ≡ false
    at {p = false} h e = refl
    at {p = true} {q = false} h e = absurd h
    at {p = true} {q = true} h e = e

-- and conversely below
half_after : {a b : Pt} → Le a b → lower a ≡ true → lower b ≡ true
half_after {a} {b} h e = at h.le e
  where
    at : {p q : Bool} → LeAt p q (cross a b) → p ≡ true → q ≡ true
    at {q = true} h e = refl
    at {p = true} {q = false} h e = absurd h
    at {p = false} {q = false} h e = e

-- in one half, before or beside is a cross at least 0
le_in_half : {a b : Pt} → Le a b → lower a ≡ lower b → pos 0 ≤ℤ cross a b
le_in_half {a} {b} h e = at h.le e
  where
    at : {p q : Bool} → LeAt p q (cross a b) → p ≡ q → pos 0 ≤ℤ cross a b
    at {p = false} {q = false} h e = h
    at {p = true} {q = true} h e = h
    at {p = false} {q = true} h e = differ e
    at {p = true} {q = false} h e = absurd h

-- ---- the corner after the edges a ∷ A, before the edges b ∷ B

-- strictly ordered parts are weakly ordered
pub split_le : {M A B : List Pt} → Split Lt M A B → Split Le M A B
split_le {M} {A} {B} s = record { perm = s.perm; link = all_map A (λ a k. all_map B (λ b h. lt_le h) k) s.link; sorted = sorted_le B s.sorted }

module _ {M : List Pt} (c : Convex M) where
  -- what is before is minus what is after
  before_after : {R : Pt → Pt → Type 0} {A B : List Pt} → Split R M A B → sumᵖ A ≡ negᵖ (sumᵖ B)
  before_after {A = A} {B = B} s = neg_of_sum (sumᵖ A) (sumᵖ B) (split_sum s ∙ c.closed)

  -- a sum of upper edges, or minus one of lower edges
  pub up_corner : {a b : Pt} {A B : List Pt} → Split Le M (a ∷ A) (b ∷ B) → Up (sumᵖ (a ∷ A))
  up_corner {a} {b} {A} {B} s =
      let n = split_all Nz s c.nonzero in
      by_test (lower b)
      (λ e. subst Up (sym (before_after s)) (sum_some down_add B (nz_down n.1.0 e, all_map2 B (λ g m k. nz_down m (half_after k e)) n.1.1 s.sorted.0)))
      (λ e. sum_some (λ x y h k. up_add h k) A (all_map2 (a ∷ A) (λ g m k. nz_up m (half_before k e)) n.0 (split_before s)))

  -- each edge before b is left of it, or each after b right of it
  pub left_weakly : {b : Pt} {A B : List Pt} → Split Le M A (b ∷ B) → pos 0 ≤ℤ cross (sumᵖ A) b
  left_weakly {b} {A} {B} s =
      by_test (lower b)
      (λ e. subst (λ v. pos 0 ≤ℤ cross v b) (sym (before_after s)) (subst (λ k. pos 0 ≤ℤ k) (sym (cross_neg_swap_l (sumᵖ (b ∷ B)) b))
      (sum_right b (b ∷ B) (subst (λ k. pos 0 ≤ℤ k) (sym (cross_self b)) (≤ℤ_refl (pos 0)), all_map B (λ g k. le_in_half k (e ∙ sym (half_after k e))) s.sorted.0))))
      (λ e. sum_left b A (all_map A (λ g k. le_in_half k (half_before k e ∙ sym e)) (split_before s)))

  -- and strictly where there are edges before b and after it
  pub left_strictly : {a b d : Pt} {A B : List Pt} → Split Lt M (a ∷ A) (b ∷ d ∷ B) → pos 0 <ℤ cross (sumᵖ (a ∷ A)) b
  left_strictly {a} {b} {d} {A} {B} s =
      by_test (lower b)
      (λ e. subst (λ v. pos 0 <ℤ cross v b) (sym (before_after s))
      (subst (λ k. pos 0 <ℤ k) (sym (cross_neg_swap_l (sumᵖ (b ∷ d ∷ B)) b ∙ ap (cross b) (sum_cons b (d ∷ B)) ∙ cross_add_r b b (sumᵖ (d ∷ B))))
      (past (cross_self b)
      (sum_some (λ x y. add_right b x y) B (all_map (d ∷ B) (λ g k. (lt_in_half (e ∙ sym (half_after (lt_le k) e))).0 k) s.sorted.0)))))
      (λ e. sum_some (λ x y. add_left b x y) A (all_map (a ∷ A) (λ g k. (lt_in_half (half_before (lt_le k) e ∙ sym e)).0 k) (split_before s)))
    where
      past : {k : ℤ} {m : ℤ} → k ≡ pos 0 → pos 0 <ℤ m → pos 0 <ℤ (k +ℤ m)
      past {k} {m} e h = omega (zarith, add_parts k m)

      add_right : (v x y : Pt) → pos 0 <ℤ cross v x → pos 0 <ℤ cross v y → pos 0 <ℤ cross v (x +ᵖ y)
      add_right = arithℤ (pt ∷ pt ∷ pt ∷ []) (λ v x y. con (pos 0) :< cross_e v x ⇒ con (pos 0) :< cross_e v y ⇒ con (pos 0) :< cross_e v (x +E y)) (omega arith)

      add_left : (v x y : Pt) → pos 0 <ℤ cross x v → pos 0 <ℤ cross y v → pos 0 <ℤ cross (x +ᵖ y) v
      add_left = arithℤ (pt ∷ pt ∷ pt ∷ []) (λ v x y. con (pos 0) :< cross_e x v ⇒ con (pos 0) :< cross_e y v ⇒ con (pos 0) :< cross_e (x +E y) v) (omega arith)

  -- ---- distinct corners

  -- the cuts from the second on are in the upper half, strictly ascending
  rising : {a : Pt} {A : List Pt} {b : Pt} (B : List Pt) → Split Lt M (a ∷ A) (b ∷ B) → All Up (map (λ g. cut g M) (b ∷ B)) × Sorted Lt (map (λ g. cut g M) (b ∷ B))
  rising [] s = ((subst Up (sym (cut_split s)) (up_corner (split_le s)), tt), (tt, tt))
  rising {a} {A} {b} (d ∷ B) s =
      let r = rising B (split_next s) in
      let u : Up (cut b M) = subst Up (sym (cut_split s)) (up_corner (split_le s)) in
      let on : cut d M ≡ b +ᵖ cut b M = cut_split (split_next s) ∙ sum_cons b (a ∷ A) ∙ ap (λ v. b +ᵖ v) (sym (cut_split s)) in
      let left : pos 0 <ℤ cross (cut b M) b = subst (λ v. pos 0 <ℤ cross v b) (sym (cut_split s)) (left_strictly s) in
      let h : Lt (cut b M) (cut d M) = (lt_in_half (lower_up u ∙ sym (lower_up r.0.0))).1 (subst (λ v. pos 0 <ℤ cross (cut b M) v) (sym on) (grow (cut b M) b left)) in
      ((u, r.0), ((h, all_map2 (map (λ g. cut g M) B) (λ v n k. lt_trans (nz_of_up u) (nz_of_up r.0.0) (nz_of_up n) h k) r.0.1 r.1.0), r.1))
    where
      grow : (u b : Pt) → pos 0 <ℤ cross u b → pos 0 <ℤ cross u (b +ᵖ u)
      grow = arithℤ (pt ∷ pt ∷ []) (λ u b. con (pos 0) :< cross_e u b ⇒ con (pos 0) :< cross_e u (b +E u)) (omega arith)

-- the upper half is without 0
up_not_zero : {v : Pt} → Up v → O ≡ v → ⊥
up_not_zero (above h) e = omega (zarith, ap (λ p. p.y) e)
up_not_zero (level d h) e = omega (zarith, ap (λ p. p.x) e)

-- no direction is before itself
distinct_sorted : (l : List Pt) → Sorted Lt l → Distinct l
distinct_sorted [] s = tt
distinct_sorted (a ∷ l) s = (all_map l (λ b h e. lt_irrefl (subst (Lt a) (sym e) h)) s.0, distinct_sorted l s.1)

-- a function that keeps points apart
distinct_image : {f : Pt → Pt} → ((a b : Pt) → f a ≡ f b → a ≡ b) → (l : List Pt) → Distinct l → Distinct (map f l)
distinct_image {f} i [] d = tt
distinct_image {f} i (a ∷ l) d = ((all_image (λ y. ¬ (f a ≡ y)) f l).1 (all_map l (λ b n e. n (i a b e)) d.0), distinct_image i l d.1)

-- the first cut is 0, the others rise
distinct_cuts : {M : List Pt} → Convex M → Sorted Lt M → Distinct (map (λ g. cut g M) M)
distinct_cuts {M = []} c s = tt
distinct_cuts {M = e ∷ []} c s = (tt, tt)
distinct_cuts {M = e ∷ f ∷ l} c s =
    let r = rising c l (split_next (split_start s)) in
    let z : O ≡ cut e (e ∷ f ∷ l) = sym (cut_split (split_start s) ∙ (unfold sumᵖ in refl)) in
    let cuts : List Pt = map (λ g. cut g (e ∷ f ∷ l)) (f ∷ l) in
    (subst (λ o. All (λ v. ¬ (o ≡ v)) cuts) z (all_map cuts (λ v u. up_not_zero u) r.0), distinct_sorted cuts r.1)

-- no two corners are equal
pub distinct_corners : (P : Pt) {M : List Pt} → Convex M → Sorted Lt M → Distinct (corners_from P M)
distinct_corners P {M} c s =
    subst Distinct (map-map (λ v. P +ᵖ v) (λ g. cut g M) M ∙ sym (corners_cuts P M s)) (distinct_image (+ᵖ_cancel P) (map (λ g. cut g M) M) (distinct_cuts c s))
