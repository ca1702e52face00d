-- Points strictly inside a contour. In order: edges of some length as forms (`strict_forms`,
-- `forms_strict`); strictly inside, scaled and added; a point strictly inside each contour that
-- goes once round, repeated and straight corners allowed: all corners added (`mid`). Assumes
-- nothing.
use mathlib.Core.Path.{◌≡◌, sym, ◌∙◌, ap, subst}
use mathlib.Core.Bool.{cond}
use mathlib.Core.List.{List, [], ◌∷◌}
use mathlib.Core.Logic.{◌⊎◌, inl, inr, ⊎_elim, ◌↔◌}
use Prim.Native.Nat.{ℕ, suc}
use native.Mathlib.Omega.{arith}
use lib.ListN.{length}
use lib.IntN.{ℤ, pos, neg_ℤ, ◌+ℤ◌, ◌*ℤ◌}
use lib.Signed.{◌≤ℤ◌, ◌<ℤ◌, ≤ℤ_refl}
use Rattle.integers.specs.Lists.{All, neighbours}
use Rattle.integers.proofs.Ring.{con, ◌:+◌, ◌:*◌, ◌:≡◌, pt, int, ring}
use Rattle.integers.proofs.Order.{zarith, add_parts, by_test, <-≤, negative, null, positive, sign}
use Rattle.integers.proofs.Arith.{◌:=◌, ◌⇒◌, arithℤ}
use Rattle.integers.proofs.Signs.{nn_is, pos_is, pos_add, pos_mul}
use Rattle.integers.proofs.Elements.{all_map, all_map2}
use Rattle.integers.proofs.Neighbours.{all_neighbours}
use Rattle.plane.specs.Plane.{Pt, O, ◌+ᵖ◌, ◌-ᵖ◌, cross, area_two, is_zero}
use Rattle.plane.proofs.Terms.{OE, ◌+E◌, ◌-E◌, cross_e}
use Rattle.plane.proofs.Vectors.{is_zero_true, is_zero_false}
use Rattle.plane.proofs.Directions.{nz_cases, nz_not_zero}
use Rattle.plane.proofs.Sides.{sub_self, sub_zero, cross_zero_l}
use Rattle.pair.specs.Demand.{sumᵖ}
use Rattle.cover.specs.Inside.{◌·ᵖ◌, side, Inside}
use Rattle.cover.specs.Overlap.{StrictlyInside}
use Rattle.cover.proofs.Edges.{side_form, area_form, side_scale, side_add}
use Rattle.cover.proofs.Fan.{Wide}
use Rattle.cover.proofs.Sides.{Turning, filled, round_left, round_wide}
use Rattle.cover.proofs.Forms.{Form, val}

-- ---- edges as forms

abbrev pub form_of : Pt × Pt → Form
form_of e = record { d = e.1 -ᵖ e.0; a = neg_ℤ (cross (e.1 -ᵖ e.0) e.0) }

pub form_side : (e : Pt × Pt) (q : ℤ) (z : Pt) → val (form_of e) q z ≡ side e q z
form_side e q z = sym (side_form e.0 e.1 q z)

-- those of the edges that have a length
unfoldable pub forms_of : List (Pt × Pt) → List Form
forms_of [] = []
forms_of (e ∷ m) = cond (is_zero (e.1 -ᵖ e.0)) (forms_of m) (form_of e ∷ forms_of m)

abbrev pub forms : List Pt → List Form
forms l = forms_of (neighbours l)

pub no_length : {a b : Pt} → a ≡ b → b -ᵖ a ≡ O
no_length {a} {b} e = subst (λ c. c -ᵖ a ≡ O) e (sub_self a)

forms_all : (P : Form → Type 0) (m : List (Pt × Pt)) → All P (forms_of m) ↔ All (λ e. (e.0 ≡ e.1) ⊎ P (form_of e)) m
unfolding forms_of
forms_all P [] = (λ h. tt, λ h. tt)
forms_all P (e ∷ m) = by_test (is_zero (e.1 -ᵖ e.0))
    (λ t. rw t (λ h. (inl (sym (sub_zero (is_zero_true (e.1 -ᵖ e.0) t))), (forms_all P m).0 h), λ h. (forms_all P m).1 h.1))
    (λ t. rw t (
      λ h. (inr h.0, (forms_all P m).0 h.1),
      λ h. (⊎_elim (λ z. absurd (is_zero_false t (no_length z))) (λ k. k) h.0, (forms_all P m).1 h.1),
    ))

pub forms_nonzero : (l : List Pt) → All (λ f. f.d ≡ O → ⊥) (forms l)
unfolding forms_of
forms_nonzero l = of (neighbours l)
  where
    of : (m : List (Pt × Pt)) → All (λ f. f.d ≡ O → ⊥) (forms_of m)
    of [] = tt
    of (e ∷ m) = by_test (is_zero (e.1 -ᵖ e.0)) (λ t. rw t (of m)) (λ t. rw t (is_zero_false t, of m))

pub strict_forms : (l : List Pt) (q : ℤ) (z : Pt) → StrictlyInside l q z → All (λ f. pos 0 <ℤ val f q z) (forms l)
strict_forms l q z h = (forms_all (λ f. pos 0 <ℤ val f q z) (neighbours l)).1 (all_map (neighbours l) (λ e k. ⊎_elim inl (λ s. inr (pos_is (form_side e q z) s)) k) h)

pub forms_strict : (l : List Pt) (q : ℤ) (z : Pt) → All (λ f. pos 0 <ℤ val f q z) (forms l) → StrictlyInside l q z
forms_strict l q z h = all_map (neighbours l) (λ e k. ⊎_elim inl (λ s. inr (pos_is (sym (form_side e q z)) s)) k) ((forms_all (λ f. pos 0 <ℤ val f q z) (neighbours l)).0 h)

-- on or left of each edge, and on none that has a length
pub off_strict : (l : List Pt) (q : ℤ) (z : Pt) → All (λ f. (pos 0 <ℤ val f q z) ⊎ (val f q z <ℤ pos 0)) (forms l) → Inside l q z → StrictlyInside l q z
off_strict l q z h i =
    all_map2 (neighbours l) (λ e k j. ⊎_elim inl (λ g. inr (⊎_elim (λ s. pos_is (sym (form_side e q z)) s) (λ s. absurd (clash (subst (λ x. x <ℤ pos 0) (form_side e q z) s) j)) g)) k)
    ((forms_all (λ f. (pos 0 <ℤ val f q z) ⊎ (val f q z <ℤ pos 0)) (neighbours l)).0 h) i
  where
    clash : {x : ℤ} → x <ℤ pos 0 → pos 0 ≤ℤ x → ⊥
    clash h k = omega zarith

-- ---- strictly inside

pub strict_inside : (l : List Pt) (q : ℤ) (z : Pt) → StrictlyInside l q z → Inside l q z
strict_inside l q z h = all_map (neighbours l) (λ e k. ⊎_elim (λ s. nn_is (ap (λ v. cross v (z -ᵖ q ·ᵖ e.0)) (no_length s) ∙ cross_zero_l (z -ᵖ q ·ᵖ e.0)) (≤ℤ_refl (pos 0))) <-≤ k) h

pub strict_scale : (l : List Pt) {k : ℤ} (q : ℤ) (z : Pt) → pos 0 <ℤ k → StrictlyInside l q z → StrictlyInside l (k *ℤ q) (k ·ᵖ z)
strict_scale l {k} q z h s = all_map (neighbours l) (λ e t. ⊎_elim inl (λ r. inr (pos_is (side_scale k e.0 e.1 q z) (pos_mul h r))) t) s

pub strict_add : (l : List Pt) (q : ℤ) (z : Pt) (r : ℤ) (w : Pt) → StrictlyInside l q z → Inside l r w → StrictlyInside l (q +ℤ r) (z +ᵖ w)
strict_add l q z r w s i = all_map2 (neighbours l) (λ e t u. ⊎_elim inl (λ p. inr (pos_is (side_add e.0 e.1 q z r w) (pos_add p u))) t) s i

-- ---- a point strictly inside: all corners added

-- some value is above 0, or all are 0
some_or_none : (r : Pt) (a : ℤ) (l : List Pt) → All (λ c. pos 0 ≤ℤ (cross r c +ℤ a)) l → (pos 0 <ℤ (cross r (sumᵖ l) +ℤ a *ℤ pos (length l))) ⊎ (All (λ c. (cross r c +ℤ a) ≡ pos 0) l × ((cross r (sumᵖ l) +ℤ a *ℤ pos (length l)) ≡ pos 0))
unfolding sumᵖ
some_or_none r a [] h = inr (tt, start r a)
  where
    start : (r : Pt) (a : ℤ) → cross r O +ℤ a *ℤ pos 0 ≡ pos 0
    start = ring (pt ∷ int ∷ []) (λ r a. cross_e r OE :+ a :* con (pos 0) :≡ con (pos 0)) tt
some_or_none r a (c ∷ l) h = elim (sign (cross r c +ℤ a)) [
  | negative k ↦ absurd (omega (zarith, h.0))
  | null k ↦ ⊎_elim (λ s. inl (pos_is (step r a c (sumᵖ l) (length l)) (more k s)))
      (λ s. inr ((k, s.0), step r a c (sumᵖ l) (length l) ∙ (λ i. k i +ℤ s.1 i))) (some_or_none r a l h.1)
  | positive k ↦ inl (pos_is (step r a c (sumᵖ l) (length l)) (pos_add k (⊎_elim (λ s. <-≤ s) (λ s. nn_is s.1 (≤ℤ_refl (pos 0))) (some_or_none r a l h.1))))
]
  where
    next : (n : ℕ) → pos (suc n) ≡ pos 1 +ℤ pos n
    next n = omega (zarith, add_parts (pos 1) (pos n))

    apart : (r : Pt) (a : ℤ) (c s : Pt) (n : ℤ) → cross r (c +ᵖ s) +ℤ a *ℤ (pos 1 +ℤ n) ≡ (cross r c +ℤ a) +ℤ (cross r s +ℤ a *ℤ n)
    apart = ring (pt ∷ int ∷ pt ∷ pt ∷ int ∷ []) (λ r a c s n. cross_e r (c +E s) :+ a :* (con (pos 1) :+ n) :≡ (cross_e r c :+ a) :+ (cross_e r s :+ a :* n)) tt

    step : (r : Pt) (a : ℤ) (c s : Pt) (n : ℕ) → cross r (c +ᵖ s) +ℤ a *ℤ pos (suc n) ≡ (cross r c +ℤ a) +ℤ (cross r s +ℤ a *ℤ pos n)
    step r a c s n = ap (λ k. cross r (c +ᵖ s) +ℤ a *ℤ k) (next n) ∙ apart r a c s (pos n)

    more : {x y : ℤ} → x ≡ pos 0 → pos 0 <ℤ y → pos 0 <ℤ (x +ℤ y)
    more {x} {y} e h = omega (zarith, add_parts x y)

pub record Mid (l : List Pt) : Type 0 where
  pub q : ℤ
  pub z : Pt
  pub above : pos 0 <ℤ q
  pub strict : StrictlyInside l q z

-- left of the edge e, on or left of which all corners are
mid_edge : (l : List Pt) → Wide l → (e : Pt × Pt) → All (λ c. pos 0 ≤ℤ area_two e.0 e.1 c) l → (e.1 -ᵖ e.0 ≡ O → ⊥) → pos 0 <ℤ side e (pos (length l)) (sumᵖ l)
mid_edge l w e k n =
    pos_is (sym (form_side e (pos (length l)) (sumᵖ l)))
    (⊎_elim (λ s. s)
    (λ s. absurd (n (w (e.1 -ᵖ e.0) (all_map (neighbours l) (λ f t. flat (e.1 -ᵖ e.0) (neg_ℤ (cross (e.1 -ᵖ e.0) e.0)) f.0 f.1 t.0 t.1) (all_neighbours (λ c. (cross (e.1 -ᵖ e.0) c +ℤ neg_ℤ (cross (e.1 -ᵖ e.0) e.0)) ≡ pos 0) l s.0)))))
    (some_or_none (e.1 -ᵖ e.0) (neg_ℤ (cross (e.1 -ᵖ e.0) e.0)) l (all_map l (λ c t. nn_is (sym (area_form e.0 e.1 c)) t) k)))
  where
    flat : (r : Pt) (a : ℤ) (x y : Pt) → (cross r x +ℤ a) ≡ pos 0 → (cross r y +ℤ a) ≡ pos 0 → cross (y -ᵖ x) r ≡ pos 0
    flat = arithℤ (pt ∷ int ∷ pt ∷ pt ∷ []) (λ r a x y. cross_e r x :+ a := con (pos 0) ⇒ cross_e r y :+ a := con (pos 0) ⇒ cross_e (y -E x) r := con (pos 0)) (omega arith)

pub mid : {l : List Pt} → Turning l → Mid l
mid {l} r = record {
  q = pos (length l);
  z = sumᵖ l;
  above = omega (zarith, filled l r);
  strict = all_map (neighbours l) (λ e k. ⊎_elim (λ s. inl (sym (sub_zero s))) (λ n. inr (mid_edge l (round_wide l r) e k (nz_not_zero n))) (nz_cases (e.1 -ᵖ e.0))) (round_left l r);
}
