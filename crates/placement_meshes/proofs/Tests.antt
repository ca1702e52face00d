-- The tests of a whole-number place are `Inside` and `StrictlyInside` of z/1, of any contour that
-- turns left once round: its edges, and that no such place is past all corners to one side
-- (`among_hull`) or has no edge left of which it is. Assumes nothing.
use mathlib.Core.Path.{◌≡◌, refl, sym, ◌∙◌, ap, subst, subst₂}
use mathlib.Core.Bool.{Bool, true, false}
use mathlib.Core.List.{List, [], ◌∷◌}
use mathlib.Core.Logic.{◌⊎◌, inl, inr, ⊎_elim, ◌↔◌}
use lib.IntN.{ℤ, pos, neg_ℤ, ◌+ℤ◌, ◌*ℤ◌, ◌-ℤ◌}
use lib.Signed.{◌≤ℤ◌, ◌<ℤ◌, le_z, lt_z}
use Rattle.integers.specs.Lists.{All, neighbours}
use Rattle.integers.proofs.Ring.{con, ◌:+◌, ◌:*◌, ◌:-◌, :neg, ◌:≡◌, int, pt, ring}
use Rattle.integers.proofs.Order.{zarith, by_test, add_parts, neg_parts, neg_mono_<}
use Rattle.integers.proofs.Elements.{all_map}
use Rattle.integers.proofs.Signs.{nn_is, pos_is}
use Rattle.integers.proofs.Tests.{differ, both_true, le_z-≤, le_z-<, lt_z-<, lt_z-≤, ≤-le_z, ≤-lt_z}
use Rattle.plane.specs.Plane.{Pt, O, ◌-ᵖ◌, cross, area_two, eq_pt}
use Rattle.plane.proofs.Terms.{◌-E◌, cross_e, area_two_e}
use Rattle.plane.proofs.Edges.{eq_pt_true, eq_pt_false}
use Rattle.plane.proofs.Sides.{cross_zero_l}
use Rattle.cover.specs.Inside.{◌·ᵖ◌, side, Inside}
use Rattle.cover.specs.Overlap.{StrictlyInside}
use Rattle.cover.proofs.Edges.{◌·E◌}
use Rattle.cover.proofs.Fan.{Hull}
use Rattle.cover.proofs.Sides.{Turning, round_wide}
use Rattle.cover.proofs.Covers.{inside_hull, hull_form}
use Rattle.cover.proofs.Strict.{no_length}
use Rattle.placement.specs.Placement.{every, some, on_or_left, left_or_none, left_of, among, inside_at, strictly_inside_at}

-- ---- edge by edge

side_one : (a b z : Pt) → side (a, b) (pos 1) z ≡ area_two a b z
side_one = ring (pt ∷ pt ∷ pt ∷ []) (λ a b z. cross_e (b -E a) (z -E con (pos 1) ·E a) :≡ area_two_e a b z) tt

below_zero : {x : ℤ} → pos 0 ≤ℤ x → x <ℤ pos 0 → ⊥
below_zero h k = omega zarith

not_above : {x : ℤ} → pos 0 <ℤ x → x ≤ℤ pos 0 → ⊥
not_above h k = omega zarith

on_or_left_lem : (z : Pt) (m : List (Pt × Pt)) → (every (on_or_left z) m ≡ true) ↔ All (λ e. pos 0 ≤ℤ side e (pos 1) z) m
unfolding every
on_or_left_lem z [] = (λ h. tt, λ h. refl)
on_or_left_lem z (e ∷ m) =
    let a : ℤ = area_two e.0 e.1 z in
    by_test (le_z (pos 0) a)
    (λ t. rw t (λ h. (nn_is (side_one e.0 e.1 z) (le_z-≤ (pos 0) a t), (on_or_left_lem z m).0 h), λ h. (on_or_left_lem z m).1 h.1))
    (λ t. rw t (λ h. differ h, λ h. absurd (below_zero (nn_is (sym (side_one e.0 e.1 z)) h.0) (le_z-< (pos 0) a t))))

left_or_none_lem : (z : Pt) (m : List (Pt × Pt)) → (every (left_or_none z) m ≡ true) ↔ All (λ e. (e.0 ≡ e.1) ⊎ (pos 0 <ℤ side e (pos 1) z)) m
unfolding every
left_or_none_lem z [] = (λ h. tt, λ h. refl)
left_or_none_lem z (e ∷ m) =
    let a : ℤ = area_two e.0 e.1 z in
    by_test (lt_z (pos 0) a) (λ t. rw t (λ h. (inr (pos_is (side_one e.0 e.1 z) (lt_z-< (pos 0) a t)), (left_or_none_lem z m).0 h), λ h. (left_or_none_lem z m).1 h.1))
    (λ t. by_test (eq_pt e.0 e.1) (λ s. rw (t, s) (λ h. (inl (eq_pt_true e.0 e.1 s), (left_or_none_lem z m).0 h), λ h. (left_or_none_lem z m).1 h.1))
    (λ s. rw (t, s) (
      λ h. differ h,
      λ h. absurd (⊎_elim (eq_pt_false s) (λ k. not_above (pos_is (sym (side_one e.0 e.1 z)) k) (lt_z-≤ (pos 0) a t)) h.0),
    )))

-- ---- a place inside is among the corners

-- where no corner passes a test, a form has more at each than at z
none_passes : {t : Pt → Bool} {g : Pt → ℤ} (z : Pt) → ((c : Pt) → t c ≡ false → g z <ℤ g c) → (l : List Pt) → some t l ≡ false → All (λ c. g z <ℤ g c) l
unfolding some
none_passes {t} {g} z f [] h = tt
none_passes {t} {g} z f (c ∷ l) h = by_test (t c) (λ p. differ (sym (rw p at h))) (λ p. (f c p, none_passes z f l (rw p at h)))

above_by_1 : {x y : ℤ} → x <ℤ y → pos 0 ≤ℤ (y +ℤ neg_ℤ (x +ℤ pos 1))
above_by_1 {x} {y} k = omega (zarith, add_parts y (neg_ℤ (x +ℤ pos 1)), neg_parts (x +ℤ pos 1), add_parts x (pos 1))

less_by_1 : (x : ℤ) → x +ℤ neg_ℤ (x +ℤ pos 1) *ℤ pos 1 ≡ neg_ℤ (pos 1)
less_by_1 = ring (int ∷ []) (λ x. x :+ :neg (x :+ con (pos 1)) :* con (pos 1) :≡ :neg (con (pos 1))) tt

-- so, the form being linear, it has more at z than at z
module _ {t : Pt → Bool} (d : Pt) {z : Pt} (f : (c : Pt) → t c ≡ false → cross d z <ℤ cross d c) where
  some_passes : {l : List Pt} → Hull l (pos 1) z → some t l ≡ true
  some_passes {l} h =
      by_test (some t l) (λ p. p)
      (λ p. absurd (below_zero (hull_form d (neg_ℤ (cross d z +ℤ pos 1)) (all_map l (λ c k. above_by_1 k) (none_passes z f l p)) h) (subst (λ x. x <ℤ pos 0) (sym (less_by_1 (cross d z))) (omega zarith))))

-- the four directions
abbrev dir : ℤ → ℤ → Pt
dir x y = record { x = x; y = y }

right_of : (c : Pt) → cross (dir (pos 0) (neg_ℤ (pos 1))) c ≡ c.x
right_of = ring (pt ∷ []) (λ c. cross_e (record { x = con (pos 0); y = :neg (con (pos 1)) }) c :≡ c.x) tt

left_of_lem : (c : Pt) → cross (dir (pos 0) (pos 1)) c ≡ neg_ℤ c.x
left_of_lem = ring (pt ∷ []) (λ c. cross_e (record { x = con (pos 0); y = con (pos 1) }) c :≡ :neg c.x) tt

above : (c : Pt) → cross (dir (pos 1) (pos 0)) c ≡ c.y
above = ring (pt ∷ []) (λ c. cross_e (record { x = con (pos 1); y = con (pos 0) }) c :≡ c.y) tt

below : (c : Pt) → cross (dir (neg_ℤ (pos 1)) (pos 0)) c ≡ neg_ℤ c.y
below = ring (pt ∷ []) (λ c. cross_e (record { x = :neg (con (pos 1)); y = con (pos 0) }) c :≡ :neg c.y) tt

-- a place inside is not past all corners to any side
among_hull : {z : Pt} {l : List Pt} → Hull l (pos 1) z → among l z ≡ true
unfolding among
among_hull {z} h =
    rw (
      some_passes (dir (pos 0) (neg_ℤ (pos 1))) (λ c p. subst₂ ◌<ℤ◌ (sym (right_of z)) (sym (right_of c)) (le_z-< _ _ p)) h,
      some_passes (dir (pos 0) (pos 1)) (λ c p. subst₂ ◌<ℤ◌ (sym (left_of_lem z)) (sym (left_of_lem c)) (neg_mono_< {a = c.x} {b = z.x} (le_z-< _ _ p))) h,
      some_passes (dir (pos 1) (pos 0)) (λ c p. subst₂ ◌<ℤ◌ (sym (above z)) (sym (above c)) (le_z-< _ _ p)) h,
      some_passes (dir (neg_ℤ (pos 1)) (pos 0)) (λ c p. subst₂ ◌<ℤ◌ (sym (below z)) (sym (below c)) (neg_mono_< {a = c.y} {b = z.y} (le_z-< _ _ p))) h,
    )

-- ---- a contour that turns left once round

-- edges that z is left of if they have a length, and is not left of
no_lengths : (z : Pt) (m : List (Pt × Pt)) → All (λ e. (e.0 ≡ e.1) ⊎ (pos 0 <ℤ side e (pos 1) z)) m → some (left_of z) m ≡ false → All (λ e. cross (e.1 -ᵖ e.0) (dir (pos 1) (pos 0)) ≡ pos 0) m
unfolding some
no_lengths z [] h p = tt
no_lengths z (e ∷ m) h p =
    by_test (left_of z e) (λ t. differ (sym (rw t at p)))
    (λ t. (
      ⊎_elim (λ k. ap (λ v. cross v (dir (pos 1) (pos 0))) (no_length k) ∙ cross_zero_l (dir (pos 1) (pos 0)))
          (λ k. absurd (not_above (pos_is (sym (side_one e.0 e.1 z)) k) (lt_z-≤ (pos 0) _ t))) h.0,
      no_lengths z m h.1 (rw t at p),
    ))

module _ (l : List Pt) (r : Turning l) (z : Pt) where
  pub inside_is : (inside_at z l ≡ true) ↔ Inside l (pos 1) z
  unfolding inside_at
  inside_is = (
    λ h. (on_or_left_lem z (neighbours l)).0 (both_true _ _ h).0,
    λ h. rw ((on_or_left_lem z (neighbours l)).1 h) (among_hull (inside_hull r (omega zarith) h)),
  )

  -- where z is left of no edge, those that it is left of if they have a length have none, and no
  -- contour once round has such edges alone
  some_left : StrictlyInside l (pos 1) z → some (left_of z) (neighbours l) ≡ true
  some_left h = by_test (some (left_of z) (neighbours l)) (λ p. p) (λ p. absurd (narrow (no_lengths z (neighbours l) h p)))
    where
      narrow : All (λ e. cross (e.1 -ᵖ e.0) (dir (pos 1) (pos 0)) ≡ pos 0) (neighbours l) → ⊥
      narrow k = omega (zarith, ap (λ v. v.x) (round_wide l r (dir (pos 1) (pos 0)) k))

  pub strictly_is : (strictly_inside_at z l ≡ true) ↔ StrictlyInside l (pos 1) z
  unfolding strictly_inside_at
  strictly_is = (
    λ h. (left_or_none_lem z (neighbours l)).0 (both_true _ _ h).0,
    λ h. rw ((left_or_none_lem z (neighbours l)).1 h) (some_left h),
  )
