-- The reach (support function) of a list of points, and of the contour of a convex list of edges:
-- in direction d it is attained at the cut of rot d (`reach_corners`), so reaches add
-- (`reach_join`). Assumes nothing.
use mathlib.Core.Path.{◌≡◌, refl, sym, ◌∙◌, ap, ap₂, subst, subst₂}
use mathlib.Core.List.{List, [], ◌∷◌, map, Permᴰ}
use mathlib.Core.Logic.{◌⊎◌, inl, inr, ⊎_elim}
use Prim.Native.Nat.{ℕ}
use native.Mathlib.Omega.{arith}
use lib.IntN.{ℤ, pos, neg_ℤ, ◌+ℤ◌}
use lib.Signed.{◌≤ℤ◌, ◌<ℤ◌, ≤ℤ_refl}
use Rattle.integers.specs.Lists.{All, Any}
use Rattle.integers.proofs.Ring.{con, ◌:+◌, :neg, ◌:≡◌, pt, int, ring}
use Rattle.integers.proofs.Order.{zarith, add_parts, ≤_or_>, <-≤}
use Rattle.integers.proofs.Arith.{◌:≤◌, ◌:<◌, ◌:=◌, ◌⇒◌, :⊥, arithℤ}
use Rattle.integers.proofs.Elements.{all_map, all_map2, any_map, all_any, all_image, any_image, all_perm, any_perm}
use Rattle.integers.proofs.Greatest.{greatest_bound, greatest_attained, greatest_is}
use Rattle.plane.specs.Plane.{Pt, O, ◌+ᵖ◌, cross, dot, rot}
use Rattle.plane.proofs.Terms.{OE, ◌+E◌, cross_e, dot_e}
use Rattle.plane.proofs.Vectors.{pt_eq, +ᵖ_assoc, +ᵖ-zero, cross_add_l, cross_rot}
use Rattle.plane.specs.Halves.{level, Nz}
use Rattle.plane.proofs.Directions.{Le, Lt, le_trans, le_lt_trans, lt_le, le_refl, nz_of_up, nz_cases}
use Rattle.pair.specs.Premise.{reach}
use Rattle.pair.specs.Berg.{corners_from}
use Rattle.pair.specs.Demand.{sumᵖ}
use Rattle.plane.proofs.Sides.{+ᵖ_next, Line, Ahead, ahead, behind, ahead_cases, le_lt, cross_zero_l, between_left, past_left, before_left, between_right, before_right, past_right}
use Rattle.pair.proofs.Convex.{In, Sorted, Convex}
use Rattle.pair.proofs.Totals.{sum_cons, total, cut, cut_take, cut_none, cut_whole, sum_left, sum_right, cut_left, cut_most}
use Rattle.pair.proofs.Splits.{Split, split_start, split_next, split_before, split_all, split_total, split_sum}
use Rattle.pair.specs.EdgeLists.{join}
use Rattle.pair.proofs.Join.{cut_join, join_convex}

-- ---- the reach of a list

-- no point lies beyond it
pub reach_bound : (d : Pt) (l : List Pt) → All (λ q. dot d q ≤ℤ reach d l) l
unfolding reach
reach_bound d [] = tt
reach_bound d (p ∷ l) = (all_image (λ z. z ≤ℤ reach d (p ∷ l)) (dot d) (p ∷ l)).0 (greatest_bound (dot d p) (map (dot d) l))

-- and one lies at it
pub reach_attained : (d : Pt) (l : List Pt) → (l ≡ [] → ⊥) → Any (λ q. dot d q ≡ reach d l) l
unfolding reach
reach_attained d [] h = h refl
reach_attained d (p ∷ l) h = (any_image (λ z. z ≡ reach d (p ∷ l)) (dot d) (p ∷ l)).0 (greatest_attained (dot d p) (map (dot d) l))

-- which says what it is
pub reach_is : (d : Pt) (l : List Pt) (m : ℤ) → All (λ q. dot d q ≤ℤ m) l → Any (λ q. dot d q ≡ m) l → reach d l ≡ m
unfolding reach
reach_is d [] m h k = absurd k
reach_is d (p ∷ l) m h k =
    greatest_is (map (dot d) l) ((all_image (λ z. z ≤ℤ m) (dot d) (p ∷ l)).1 h) ((any_image (λ z. z ≡ m) (dot d) (p ∷ l)).1 k)

-- lists with the same points have the same reach
pub reach_same : (d : Pt) {K : List Pt} (L : List Pt) → (K ≡ [] → ⊥) → All (In L) K → All (In K) L → reach d L ≡ reach d K
reach_same d {K} L f h k =
    reach_is d L (reach d K)
    (all_map L (λ c a. all_any K (reach_bound d K) a (λ q b e. subst (λ v. dot d v ≤ℤ reach d K) e b)) k)
    (all_any K h (reach_attained d K f) (λ c a b. any_map L (λ q e. ap (dot d) e ∙ b) a))

-- so do lists in another order
pub reach_perm : (d : Pt) {K L : List Pt} → (K ≡ [] → ⊥) → Permᴰ K L → reach d L ≡ reach d K
reach_perm d {K} {L} f p =
    reach_is d L (reach d K) (all_perm (λ q. dot d q ≤ℤ reach d K) p (reach_bound d K)) (any_perm (λ q. dot d q ≡ reach d K) p (reach_attained d K f))

-- in the zero direction it is 0
reach_zero : (l : List Pt) → reach O l ≡ pos 0
reach_zero [] = unfold reach in refl
reach_zero (p ∷ l) = reach_is O (p ∷ l) (pos 0) (zeros (p ∷ l)) (inl (dot_zero p))
  where
    dot_zero : (p : Pt) → dot O p ≡ pos 0
    dot_zero = ring (pt ∷ []) (λ p. dot_e OE p :≡ con (pos 0)) tt

    zeros : (l : List Pt) → All (λ q. dot O q ≤ℤ pos 0) l
    zeros [] = tt
    zeros (q ∷ l) = (subst (λ z. z ≤ℤ pos 0) (sym (dot_zero q)) (≤ℤ_refl (pos 0)), zeros l)

-- ---- a convex list has an edge, and its contour a corner

-- no edges lie on every line
pub convex_nonempty : {E : List Pt} → Convex E → E ≡ [] → ⊥
convex_nonempty c e = c.wide (record { x = pos 1; y = pos 0 }) (nz_of_up (level refl (omega zarith))) (subst (All (Line (record { x = pos 1; y = pos 0 }))) (sym e) tt)

-- a corner for each edge
pub corners_nonempty : (P : Pt) {E : List Pt} → Convex E → corners_from P E ≡ [] → ⊥
unfolding corners_from
corners_nonempty P {E = []} c h = convex_nonempty c refl
corners_nonempty P {E = e ∷ l} c h = let z : ◌≡◌ {A = ℕ} 0 1 = cc in omega arith

-- ---- no corner passes the cut: A, the edges before the corner, in any order; b ∷ B, those after
-- it

module _ {r : Pt} (nr : Nz r) {E : List Pt} (c : Convex E) {A : List Pt} {b : Pt} {B : List Pt} (s : Split Le E A (b ∷ B)) where
  n_a : All Nz A
  n_a = (split_all Nz s c.nonzero).0

  n_b : All Nz (b ∷ B)
  n_b = (split_all Nz s c.nonzero).1

  after_b : All (Le b) (b ∷ B)
  after_b = (le_refl b, s.sorted.0)

  -- the cut of E is that of both parts
  whole : cross (cut r E) r ≡ cross (cut r A) r +ℤ cross (cut r (b ∷ B)) r
  whole = ap (λ v. cross v r) (sym (split_total _ s)) ∙ cross_add_l (cut r A) (cut r (b ∷ B)) r

  -- both parts add up to 0
  closed : cross (sumᵖ A) r +ℤ cross (sumᵖ (b ∷ B)) r ≡ pos 0
  closed = sym (cross_add_l (sumᵖ A) (sumᵖ (b ∷ B)) r) ∙ ap (λ v. cross v r) (split_sum s ∙ c.closed) ∙ cross_zero_l r

  -- where b is before r, so are those before b; where not, no more are after it
  all_before : Lt b r → cross (cut r A) r ≡ cross (sumᵖ A) r
  all_before h = ap (λ v. cross v r) (cut_whole r A (all_map2 A (λ a n k. le_lt_trans n n_b.0 nr k h) n_a (split_before s)))

  -- no more edges are before r
  none_after : Le r b → cross (cut r (b ∷ B)) r ≡ pos 0
  none_after h = ap (λ v. cross v r) (cut_none r (b ∷ B) (all_map2 (b ∷ B) (λ e n k. le_trans nr n_b.0 n h k) n_b after_b)) ∙ cross_zero_l r

  -- by whether b is before r, and the sign of b × r
  pub no_corner_passes : cross (sumᵖ A) r ≤ℤ cross (cut r E) r
  no_corner_passes = by (ahead_cases b r) (≤_or_> (cross b r) (pos 0))
    where
      turned : (b r : Pt) → cross b r ≤ℤ pos 0 → pos 0 ≤ℤ cross r b
      turned = arithℤ (pt ∷ pt ∷ []) (λ b r. cross_e b r :≤ con (pos 0) ⇒ con (pos 0) :≤ cross_e r b) (omega arith)

      right : (a r : Pt) → pos 0 ≤ℤ cross r a → cross a r ≤ℤ pos 0
      right = arithℤ (pt ∷ pt ∷ []) (λ a r. con (pos 0) :≤ cross_e r a ⇒ cross_e a r :≤ con (pos 0)) (omega arith)

      not_level : (b r : Pt) → pos 0 <ℤ cross b r → cross r b ≡ pos 0 → ⊥
      not_level = arithℤ (pt ∷ pt ∷ []) (λ b r. con (pos 0) :< cross_e b r ⇒ cross_e r b := con (pos 0) ⇒ :⊥) (omega arith)

      -- in numbers: c of E is cA + cB, and sA + sB = 0
      left_after : {sA cA : ℤ} {cB : ℤ} {c : ℤ} → c ≡ cA +ℤ cB → cA ≡ sA → pos 0 ≤ℤ cB → sA ≤ℤ c
      left_after {cA} {cB} e f h = omega (zarith, add_parts cA cB)

      right_before : {sA : ℤ} {sB : ℤ} {cA : ℤ} {cB : ℤ} {c : ℤ} → c ≡ cA +ℤ cB → (sA +ℤ sB) ≡ pos 0 → cA ≡ sA → sA ≤ℤ pos 0 → sB ≤ℤ cB → sA ≤ℤ c
      right_before {sA} {sB} {cA} {cB} e z f h k = omega (zarith, add_parts cA cB, add_parts sA sB)

      right_left_out : {sA cA : ℤ} {cB c : ℤ} → c ≡ cA +ℤ cB → cB ≡ pos 0 → sA ≤ℤ cA → sA ≤ℤ c
      right_left_out {cA} {cB} e f h = omega (zarith, add_parts cA cB)

      left_past : (sA : ℤ) {sB cA : ℤ} {cB c : ℤ} → c ≡ cA +ℤ cB → (sA +ℤ sB) ≡ pos 0 → cB ≡ pos 0 → pos 0 ≤ℤ sB → pos 0 ≤ℤ cA → sA ≤ℤ c
      left_past sA {sB} {cA} {cB} e z f h k = omega (zarith, add_parts cA cB, add_parts sA sB)

      by : Ahead b r → (cross b r ≤ℤ pos 0) ⊎ (pos 0 <ℤ cross b r) → cross (sumᵖ A) r ≤ℤ cross (cut r E) r
      by (ahead t h) (inr k) =
          left_after whole (all_before h)
          (cut_left r (b ∷ B) (all_map2 (b ∷ B) (λ e n l m. between_left n_b.0 n nr l m (<-≤ k)) n_b after_b))
      by (ahead t h) (inl k) =
          right_before whole closed (all_before h)
          (right (sumᵖ A) r (sum_right r A (all_map2 A (λ a n l. before_right n n_b.0 nr l h (turned b r k)) n_a (split_before s))))
          (cut_most r (b ∷ B) (all_map (b ∷ B) (λ e n m. past_right h m (turned b r k)) n_b))
      by (behind t h) (inl k) =
          right_left_out whole (none_after h)
          (cut_most r A (all_map2 A (λ a n l m. between_right nr n n_b.0 m l (turned b r k)) n_a (split_before s)))
      by (behind t h) (inr k) =
          left_past (cross (sumᵖ A) r) whole closed (none_after h)
          (sum_left r (b ∷ B) (all_map2 (b ∷ B) (λ e n l. past_left nr n_b.0 n (le_lt h (not_level b r k)) l (<-≤ k)) n_b after_b))
          (cut_left r A (all_map A (λ a n m. before_left (le_lt h (not_level b r k)) (lt_le m) (<-≤ k)) n_a))

-- ---- the reach of a contour

module _ {r : Pt} (nr : Nz r) (P : Pt) {E : List Pt} (c : Convex E) where
  -- of the corners from q = P + ΣA on
  bound_from : {A B : List Pt} {q : Pt} → Split Le E A B → q ≡ P +ᵖ sumᵖ A → All (λ p. cross p r ≤ℤ cross (P +ᵖ cut r E) r) (corners_from q B)
  unfolding corners_from
  bound_from {B = []} s e = tt
  bound_from {A = A} {B = b ∷ B} {q = q} s e = (
    subst (λ v. cross v r ≤ℤ cross (P +ᵖ cut r E) r) (sym e) (shift P (sumᵖ A) (cut r E) r (no_corner_passes nr c s)),
    bound_from {A = b ∷ A} {B = B} {q = q +ᵖ b} (split_next s) (ap (λ v. v +ᵖ b) e ∙ +ᵖ_next P (sumᵖ A) b ∙ ap (λ v. P +ᵖ v) (sym (sum_cons b A))),
  )
    where
      shift : (p a b r : Pt) → cross a r ≤ℤ cross b r → cross (p +ᵖ a) r ≤ℤ cross (p +ᵖ b) r
      shift = arithℤ (pt ∷ pt ∷ pt ∷ pt ∷ []) (λ p a b r. cross_e a r :≤ cross_e b r ⇒ cross_e (p +E a) r :≤ cross_e (p +E b) r) (omega arith)

  -- no corner lies farther left of r than the one at the cut
  pub corner_bound : All (λ p. cross p r ≤ℤ cross (P +ᵖ cut r E) r) (corners_from P E)
  unfolding sumᵖ
  corner_bound = bound_from (split_start c.ascends) (sym (+ᵖ-zero P))

-- the cut is a corner, or all edges come before r
cut_at : {r : Pt} (q : Pt) (l : List Pt) → Nz r → All Nz l → Sorted Le l → In (corners_from q l) (q +ᵖ cut r l) ⊎ (cut r l ≡ sumᵖ l)
unfolding corners_from sumᵖ
cut_at q [] nr n s = inr (unfold total in refl)
cut_at {r} q (e ∷ l) nr n s = elim (ahead_cases e r) [
  | ahead t k ↦
      ⊎_elim (λ a. inl (inr (subst (In (corners_from (q +ᵖ e) l)) (+ᵖ_assoc q e (cut r l) ∙ ap (λ v. q +ᵖ v) (sym (cut_take r e l t))) a)))
      (λ a. inr (cut_take r e l t ∙ ap (λ v. e +ᵖ v) a)) (cut_at (q +ᵖ e) l nr n.1 s.1)
  | behind t k ↦ inl (inl (sym (ap (λ v. q +ᵖ v) (cut_none r (e ∷ l) (k, all_map2 l (λ a na h. le_trans nr n.0 na k h) n.1 s.0)) ∙ +ᵖ-zero q)))
]

-- the cut of a convex list is a corner
pub cut_corner : {r : Pt} → Nz r → (P : Pt) {E : List Pt} → Convex E → In (corners_from P E) (P +ᵖ cut r E)
unfolding corners_from
cut_corner nr P {E = []} c = absurd (convex_nonempty c refl)
cut_corner nr P {E = e ∷ l} c = ⊎_elim (λ a. a) (λ a. inl (sym (ap (λ v. P +ᵖ v) (a ∙ c.closed) ∙ +ᵖ-zero P))) (cut_at P (e ∷ l) nr c.nonzero c.ascends)

-- d · q = q × rot d
pub reach_corners : (d P : Pt) {E : List Pt} → Nz (rot d) → Convex E → reach d (corners_from P E) ≡ dot d (P +ᵖ cut (rot d) E)
reach_corners d P {E} n c =
    reach_is d (corners_from P E) (dot d (P +ᵖ cut (rot d) E))
    (all_map (corners_from P E) (λ q k. subst₂ ◌≤ℤ◌ (cross_rot q d) (cross_rot (P +ᵖ cut (rot d) E) d) k) (corner_bound n P c))
    (any_map (corners_from P E) (λ q k. ap (dot d) k) (cut_corner n P c))

-- a quarter turn of d is 0, so d is
rot_zero : (d : Pt) → rot d ≡ O → d ≡ O
rot_zero d e = pt_eq (ap (λ p. p.y) e) (negated d.y (ap (λ p. p.x) e))
  where
    negated : (k : ℤ) → neg_ℤ k ≡ pos 0 → k ≡ pos 0
    negated = arithℤ (int ∷ []) (λ k. :neg k := con (pos 0) ⇒ k := con (pos 0)) (omega arith)

-- the reaches add
pub reach_join : (d P Q : Pt) {E F : List Pt} → Convex E → Convex F → reach d (corners_from (P +ᵖ Q) (join E F)) ≡ reach d (corners_from P E) +ℤ reach d (corners_from Q F)
reach_join d P Q {E} {F} e f = ⊎_elim none some (nz_cases (rot d))
  where
    none : rot d ≡ O → reach d (corners_from (P +ᵖ Q) (join E F)) ≡ reach d (corners_from P E) +ℤ reach d (corners_from Q F)
    none z = subst (λ d. reach d (corners_from (P +ᵖ Q) (join E F)) ≡ reach d (corners_from P E) +ℤ reach d (corners_from Q F)) (sym (rot_zero d z))
        (reach_zero (corners_from (P +ᵖ Q) (join E F)) ∙ sym (ap₂ ◌+ℤ◌ (reach_zero (corners_from P E)) (reach_zero (corners_from Q F))))

    spread : (d p q a b : Pt) → dot d ((p +ᵖ q) +ᵖ (a +ᵖ b)) ≡ dot d (p +ᵖ a) +ℤ dot d (q +ᵖ b)
    spread = ring (pt ∷ pt ∷ pt ∷ pt ∷ pt ∷ []) (λ d p q a b. dot_e d ((p +E q) +E (a +E b)) :≡ dot_e d (p +E a) :+ dot_e d (q +E b)) tt

    some : Nz (rot d) → reach d (corners_from (P +ᵖ Q) (join E F)) ≡ reach d (corners_from P E) +ℤ reach d (corners_from Q F)
    some n =
        reach_corners d (P +ᵖ Q) n (join_convex e f) ∙ ap (λ v. dot d ((P +ᵖ Q) +ᵖ v)) (cut_join e f n)
        ∙ spread d P Q (cut (rot d) E) (cut (rot d) F) ∙ sym (ap₂ ◌+ℤ◌ (reach_corners d P n e) (reach_corners d Q n f))
