-- A walk begun, by its faults: 7, 2, 8, 20 each where those before it do not hold, and its place
-- where none does; what the code's winding tells of these (`start_below`, `leaves_by`, `total_by`,
-- `place_is`). Assumes nothing.
use Rattle.std.specs.Prelude.{Some, None}
use mathlib.Core.Path.{◌≡◌, refl, sym, ◌∙◌, ap}
use mathlib.Core.Bool.{Bool, true, false}
use mathlib.Core.List.{List, [], ◌∷◌}
use Prim.Native.Nat.{ℕ, ◌<◌}
use native.Mathlib.Omega.{arith}
use borrow.Author.Tests.{eq-eqb, ne_eqb}
use lib.ListN.{length}
use lib.IntN.{ℤ, pos, ◌+ℤ◌}
use Rattle.integers.specs.Lists.{sumℤ}
use Rattle.integers.proofs.Ring.{con, ◌:+◌, ◌:≡◌, int, ring}
use Rattle.integers.proofs.Faults.{first_this, first_next, first_empty}
use Rattle.plane.specs.Plane.{Pt, eq_pt}
use Rattle.corners.specs.Corners.{points_of, off_range}
use Rattle.corners.proofs.Corners.{length_points}
use Rattle.pair.specs.Walk.{corner_at, start_at, end_at, winding_terms, winding, total_leaves, winding_leaves, place_by, begin}
use Rattle.pair.proofs.Start.{start_inside}
use Rattle.walk.specs.declared.Begun.TheVariants.{At, Refused}
use Rattle.walk.specs.Calls.{length_broken, begin_fault, begun_of}
use Rattle.walk.proofs.Answers.{accepts, refuses}
use Rattle.walk_winding.specs.Winding.{winding_of}
use Rattle.walk_winding.proofs.Windings.{length_terms, wound_total, wound_left}

-- no corner, no total
none_leaves : (t : ℤ) (ts : List ℤ) → length ts ≡ 0 → total_leaves t ts ≡ false
unfolding total_leaves
none_leaves t [] h = refl
none_leaves t (k ∷ ts) h = absurd (omega arith)

module _ (l : List ℤ) (reflected : Bool) where
  refused_by : {f : ℕ} → begin_fault l reflected ≡ f → (f ≡ 0 → ⊥) → Refused f ≡ begun_of l reflected
  unfolding begun_of
  refused_by e n = ap Refused (sym e) ∙ refuses (At (begin reflected (points_of l))) (Refused (begin_fault l reflected)) (λ z. n (sym e ∙ z))

  pub begin_7 : length_broken l ≡ true → Refused 7 ≡ begun_of l reflected
  unfolding begin_fault
  begin_7 a = refused_by (first_this 7 _ a) (λ z. absurd (omega arith))

  module _ (a : length_broken l ≡ false) where
    pub begin_2 : off_range l ≡ true → Refused 2 ≡ begun_of l reflected
    unfolding begin_fault
    begin_2 b = refused_by (first_next 7 _ a ∙ first_this 2 _ b) (λ z. absurd (omega arith))

    module _ (b : off_range l ≡ false) where
      pub begin_8 : winding_leaves reflected (points_of l) ≡ true → Refused 8 ≡ begun_of l reflected
      unfolding begin_fault
      begin_8 k = refused_by (first_next 7 _ a ∙ first_next 2 _ b ∙ first_this 8 _ k) (λ z. absurd (omega arith))

      pub begin_20 : length l ≡ 0 → Refused 20 ≡ begun_of l reflected
      unfolding begin_fault winding_leaves
      begin_20 h =
          let none : winding_leaves reflected (points_of l) ≡ false = none_leaves (pos 0) (winding_terms (start_at reflected (points_of l)) (points_of l)) (omega (arith, length_terms (start_at reflected (points_of l)) (points_of l), length_points l)) in
          refused_by (first_next 7 _ a ∙ first_next 2 _ b ∙ first_next 8 _ none ∙ first_this 20 _ (eq-eqb (length l) 0 h)) (λ z. absurd (omega arith))

      pub begin_at : winding_leaves reflected (points_of l) ≡ false → (length l ≡ 0 → ⊥) → At (begin reflected (points_of l)) ≡ begun_of l reflected
      unfolding begin_fault begun_of
      begin_at k h =
          accepts (At (begin reflected (points_of l))) (Refused (begin_fault l reflected))
          (first_next 7 _ a ∙ first_next 2 _ b ∙ first_next 8 _ k ∙ first_next 20 _ (ne_eqb (length l) 0 h) ∙ first_empty)

-- ---- by what the code holds: the start s and the winding seen from it

pub start_below : (reflected : Bool) (l : List Pt) {s : ℕ} → s ≡ start_at reflected l → 0 < length l → s < length l
start_below reflected l e h = omega (arith, start_inside reflected l h)

module _ (reflected : Bool) (l : List Pt) {s : ℕ} (e : s ≡ start_at reflected l) where
  pub leaves_by : winding_of (pos 0) (winding_terms s l) ≡ None → winding_leaves reflected l ≡ true
  unfolding winding_leaves
  leaves_by h = wound_left (winding_terms (start_at reflected l) l) (pos 0) (ap (λ k. winding_of (pos 0) (winding_terms k l)) (sym e) ∙ h)

  pub total_by : {t : ℤ} → winding_of (pos 0) (winding_terms s l) ≡ Some t → (winding_leaves reflected l ≡ false) × (t ≡ winding reflected l)
  unfolding winding_leaves winding
  total_by {t} h =
      let q = wound_total (winding_terms (start_at reflected l) l) (pos 0) (ap (λ k. winding_of (pos 0) (winding_terms k l)) (sym e) ∙ h) in
      (q.0, q.1 ∙ zero_plus (sumℤ (winding_terms (start_at reflected l) l)))
    where
      zero_plus : (t : ℤ) → pos 0 +ℤ t ≡ t
      zero_plus = ring (int ∷ []) (λ t. con (pos 0) :+ t :≡ t) tt

  pub place_is : {t : ℤ} → t ≡ winding reflected l → place_by reflected (length l) s (end_at reflected l) t (eq_pt (corner_at l s) (corner_at l (end_at reflected l))) ≡ begin reflected l
  unfolding begin
  place_is f = λ i. place_by reflected (length l) (e i) (end_at reflected l) (f i) (eq_pt (corner_at l (e i)) (corner_at l (end_at reflected l)))
