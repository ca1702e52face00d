-- Every list of points with the reaches of a strictly convex contour contains its corners
-- (`contains`). A corner c, with e' in and e out, is farthest along the outward normals of both; a
-- point of the list that is as far along their sum is as far along both, so it is c. Assumes
-- nothing.
use mathlib.Core.Path.{◌≡◌, sym, ◌∙◌, ap, subst, subst₂}
use mathlib.Core.List.{List, [], ◌∷◌}
use mathlib.Core.Logic.{inl, inr}
use native.Mathlib.Omega.{arith}
use lib.IntN.{ℤ, pos, neg_ℤ, ◌-ℤ◌, ◌*ℤ◌}
use lib.Signed.{◌≤ℤ◌, ◌<ℤ◌}
use Rattle.integers.specs.Lists.{All, Any, neighbours}
use Rattle.integers.proofs.Ring.{con, ◌:-◌, ◌:*◌, :neg, ◌:≡◌, pt, int, ring}
use Rattle.integers.proofs.Arith.{◌:≤◌, ◌:=◌, ◌⇒◌, arithℤ}
use Rattle.integers.proofs.Signs.{zero_cancel}
use Rattle.integers.proofs.Elements.{all_map, all_map2, any_map, all_image, all_perm}
use Rattle.integers.proofs.Rotation.{perm_rotate}
use Rattle.integers.proofs.Neighbours.{seconds_neighbours, all_neighbours}
use Rattle.plane.specs.Plane.{Pt, ◌+ᵖ◌, ◌-ᵖ◌, cross, dot}
use Rattle.plane.proofs.Terms.{◌+E◌, ◌-E◌, cross_e, dot_e}
use Rattle.plane.proofs.Vectors.{pt_eq}
use Rattle.plane.specs.Halves.{Nz}
use Rattle.plane.proofs.Directions.{Lt}
use Rattle.pair.specs.Premise.{reach}
use Rattle.pair.specs.Berg.{corners_from}
use Rattle.plane.proofs.Sides.{sub_zero}
use Rattle.pair.proofs.Convex.{In, Sorted, Convex}
use Rattle.pair.proofs.Totals.{cut}
use Rattle.pair.proofs.Splits.{corners_cuts, cut_next}
use Rattle.pair.proofs.Reaches.{reach_bound, reach_attained, reach_is, corner_bound, cut_corner}
use Rattle.pair.proofs.Gaps.{turns_left}

-- ---- a point is where two lines cross: (e × f) v = e (v × f) - f (v × e)

-- v along e and along f, which are not along each other, so v = 0
on_both : (e f v : Pt) → pos 0 <ℤ cross e f → cross v e ≡ pos 0 → cross v f ≡ pos 0 → v ≡ record { x = pos 0; y = pos 0 }
on_both e f v turn h k =
    pt_eq (zero_cancel turn (of_x e f v ∙ (λ i. e.x *ℤ k i -ℤ f.x *ℤ h i) ∙ none e.x f.x))
    (zero_cancel turn (of_y e f v ∙ (λ i. e.y *ℤ k i -ℤ f.y *ℤ h i) ∙ none e.y f.y))
  where
    of_x : (e f v : Pt) → cross e f *ℤ v.x ≡ e.x *ℤ cross v f -ℤ f.x *ℤ cross v e
    of_x = ring (pt ∷ pt ∷ pt ∷ []) (λ e f v. cross_e e f :* v.x :≡ e.x :* cross_e v f :- f.x :* cross_e v e) tt

    of_y : (e f v : Pt) → cross e f *ℤ v.y ≡ e.y *ℤ cross v f -ℤ f.y *ℤ cross v e
    of_y = ring (pt ∷ pt ∷ pt ∷ []) (λ e f v. cross_e e f :* v.y :≡ e.y :* cross_e v f :- f.y :* cross_e v e) tt

    none : (k l : ℤ) → k *ℤ pos 0 -ℤ l *ℤ pos 0 ≡ pos 0
    none = ring (int ∷ int ∷ []) (λ k l. k :* con (pos 0) :- l :* con (pos 0) :≡ con (pos 0)) tt

-- not beyond c along either normal, and level with it along their sum
pinned : (q c e f : Pt) → pos 0 <ℤ cross e f → cross q e ≤ℤ cross c e → cross q f ≤ℤ cross c f → cross q (e +ᵖ f) ≡ cross c (e +ᵖ f) → q ≡ c
pinned q c e f turn h k s = sub_zero (on_both e f (q -ᵖ c) turn (on_e q c e f h k s) (on_f q c e f h k s))
  where
    on_e : (q c e f : Pt) → cross q e ≤ℤ cross c e → cross q f ≤ℤ cross c f → cross q (e +ᵖ f) ≡ cross c (e +ᵖ f) → cross (q -ᵖ c) e ≡ pos 0
    on_e = arithℤ (pt ∷ pt ∷ pt ∷ pt ∷ []) (λ q c e f. cross_e q e :≤ cross_e c e ⇒ cross_e q f :≤ cross_e c f ⇒ cross_e q (e +E f) := cross_e c (e +E f) ⇒ cross_e (q -E c) e := con (pos 0)) (omega arith)

    on_f : (q c e f : Pt) → cross q e ≤ℤ cross c e → cross q f ≤ℤ cross c f → cross q (e +ᵖ f) ≡ cross c (e +ᵖ f) → cross (q -ᵖ c) f ≡ pos 0
    on_f = arithℤ (pt ∷ pt ∷ pt ∷ pt ∷ []) (λ q c e f. cross_e q e :≤ cross_e c e ⇒ cross_e q f :≤ cross_e c f ⇒ cross_e q (e +E f) := cross_e c (e +E f) ⇒ cross_e (q -E c) f := con (pos 0)) (omega arith)

-- ---- one corner

-- the outward normal of an edge
abbrev normal : Pt → Pt
normal e = record { x = e.y; y = neg_ℤ e.x }

-- n · q = q × e, for e's normal n
normal_is : (e q : Pt) → dot (normal e) q ≡ cross q e
normal_is = ring (pt ∷ pt ∷ []) (λ e q. dot_e (record { x = e.y; y = :neg e.x }) q :≡ cross_e q e) tt

-- c, of K, is farthest along e's normal
abbrev Farthest : List Pt → Pt → Pt → Type 0
Farthest K c e = All (λ q. cross q e ≤ℤ cross c e) K

module _ {L : List Pt} (K : List Pt) (full : L ≡ [] → ⊥) (same : (d : Pt) → reach d L ≡ reach d K) (c : Pt) (there : In K c) where
  -- L reaches as far as c along e's normal
  reach_along : (e : Pt) → Farthest K c e → reach (normal e) L ≡ cross c e
  reach_along e h =
      same (normal e)
      ∙ reach_is (normal e) K (dot (normal e) c) (all_map K (λ q k. subst₂ ◌≤ℤ◌ (sym (normal_is e q)) (sym (normal_is e c)) k) h) (any_map K (λ q k. ap (dot (normal e)) k) there)
      ∙ normal_is e c

  -- then no point of L lies beyond it
  along : (e : Pt) → Farthest K c e → Farthest L c e
  along e h = all_map L (λ q k. subst₂ ◌≤ℤ◌ (normal_is e q) (reach_along e h) k) (reach_bound (normal e) L)

  -- farthest along both e's and f's normal, with e × f above 0, so c is one of L
  corner_in_lem : (e f : Pt) → pos 0 <ℤ cross e f → Farthest K c e → Farthest K c f → In L c
  corner_in_lem e f turn h k =
      pick L (along e h) (along f k)
      (any_map L (λ q s. sym (normal_is (e +ᵖ f) q) ∙ s ∙ reach_along (e +ᵖ f) (all_map2 K (λ q a b. add q c e f a b) h k)) (reach_attained (normal (e +ᵖ f)) L full))
    where
      add : (q c e f : Pt) → cross q e ≤ℤ cross c e → cross q f ≤ℤ cross c f → cross q (e +ᵖ f) ≤ℤ cross c (e +ᵖ f)
      add = arithℤ (pt ∷ pt ∷ pt ∷ pt ∷ []) (λ q c e f. cross_e q e :≤ cross_e c e ⇒ cross_e q f :≤ cross_e c f ⇒ cross_e q (e +E f) :≤ cross_e c (e +E f)) (omega arith)

      pick : (l : List Pt) → Farthest l c e → Farthest l c f → Any (λ q. cross q (e +ᵖ f) ≡ cross c (e +ᵖ f)) l → In l c
      pick [] a b s = s
      pick (q ∷ l) a b (inl s) = inl (pinned q c e f turn a.0 b.0 s)
      pick (q ∷ l) a b (inr s) = inr (pick l a.1 b.1 s)

-- ---- all corners

module _ {L : List Pt} (full : L ≡ [] → ⊥) (P : Pt) {M : List Pt} (c : Convex M) (s : Sorted Lt M) (same : (d : Pt) → reach d L ≡ reach d (corners_from P M)) where
  -- between neighbours e and f
  between : {e f : Pt} → Nz e → Nz f → pos 0 <ℤ cross e f → cut f M ≡ e +ᵖ cut e M → In L (P +ᵖ cut f M)
  between {e} {f} ne nf turn on =
      corner_in_lem (corners_from P M) full same (P +ᵖ cut f M) (cut_corner nf P c) e f turn
      (all_map (corners_from P M) (λ q k. subst (λ v. cross q e ≤ℤ v) (own P (cut e M) e ∙ ap (λ v. cross (P +ᵖ v) e) (sym on)) k) (corner_bound ne P c))
      (corner_bound nf P c)
    where
      -- what an edge adds does not count along its own normal
      own : (p a e : Pt) → cross (p +ᵖ a) e ≡ cross (p +ᵖ (e +ᵖ a)) e
      own = ring (pt ∷ pt ∷ pt ∷ []) (λ p a e. cross_e (p +E a) e :≡ cross_e (p +E (e +E a)) e) tt

  -- L contains the corner where f goes out
  corner_of : Pt → Type 0
  corner_of f = In L (P +ᵖ cut f M)

  -- each corner has an edge in and an edge out: go by the neighbours
  pub contains : All (In L) (corners_from P M)
  unfolding corner_of
  contains =
      subst (All (In L)) (sym (corners_cuts P M s)) ((all_image (In L) (λ f. P +ᵖ cut f M) M).1
      (all_perm corner_of (perm_rotate 1 M) (subst (All corner_of) (seconds_neighbours M) ((all_image corner_of (λ t. t.1) (neighbours M)).1
      (all_map2 (neighbours M) (λ t n h. between n.0 n.1 h.0 h.1) (all_neighbours Nz M c.nonzero) turns)))))
    where
      turns : All (λ t. (pos 0 <ℤ cross t.0 t.1) × (cut t.1 M ≡ t.0 +ᵖ cut t.0 M)) (neighbours M)
      turns = all_map2 (neighbours M) (λ t a b. (a, b)) (turns_left c s) (cut_next M s c.closed)
