-- The calls' answers, by the fault that the code has found: refused, or the values. Assumes
-- nothing.
use mathlib.Core.Path.{◌≡◌, sym, ◌∙◌, ap}
use mathlib.Core.Bool.{false}
use mathlib.Core.List.{List}
use Prim.Native.Nat.{ℕ}
use native.Mathlib.Omega.{arith}
use lib.ListN.{length}
use lib.IntN.{ℤ}
use Rattle.integers.proofs.Faults.{first_none}
use Rattle.plane.specs.declared.IntPoint.{IntPoint}
use Rattle.plane.specs.declared.IntVector.{IntVector}
use Rattle.plane.specs.Machine.{point, vector}
use Rattle.corners.specs.Corners.{points_of}
use Rattle.pair.specs.declared.Place.{Place}
use Rattle.pair.specs.Walk.{point_of, edge_of, advance}
use Rattle.walk.specs.declared.Pointed.TheVariants as pointed
use Rattle.walk.specs.declared.Edged.TheVariants as edged
use Rattle.walk.specs.declared.Advanced.TheVariants as advanced
use Rattle.walk.specs.declared.Stepped.TheVariants as stepped
use Rattle.walk.specs.Calls.{misplaced, off_at, int_point, int_vector, point_fault, pointed_of, step_fault, edged_of, advanced_of, stepped_of}
use Rattle.walk.proofs.Answers.{accepts, refuses}

-- ---- the point

module _ (l : List ℤ) (w : Place) {f : ℕ} (e : f ≡ point_fault l w) where
  pub point_refused : (f ≡ 0 → ⊥) → pointed.Refused f ≡ pointed_of l w
  unfolding pointed_of
  point_refused n = ap pointed.Refused e ∙ refuses (pointed.Point (int_point (point_of (points_of l) w))) (pointed.Refused (point_fault l w)) (λ z. n (e ∙ z))

  pub point_given : f ≡ 0 → {p : IntPoint} → point p ≡ point_of (points_of l) w → pointed.Point p ≡ pointed_of l w
  unfolding pointed_of
  point_given z g = ap (λ q. pointed.Point (int_point q)) g ∙ accepts (pointed.Point (int_point (point_of (points_of l) w))) (pointed.Refused (point_fault l w)) (sym e ∙ z)

  pub point_sound : f ≡ 0 → (misplaced (length (points_of l)) w ≡ false) × (off_at (points_of l) w.index ≡ false)
  unfolding point_fault
  point_sound z =
      let a = first_none _ _ (omega arith) (sym e ∙ z) in
      let b = first_none _ _ (omega arith) a.1 in
      (b.0, (first_none _ _ (omega arith) b.1).0)

-- ---- the step, its edge and its advance

module _ (l : List ℤ) (w : Place) {f : ℕ} (e : f ≡ step_fault l w) where
  pub edge_refused : (f ≡ 0 → ⊥) → edged.Refused f ≡ edged_of l w
  unfolding edged_of
  edge_refused n = ap edged.Refused e ∙ refuses (edged.Edge (int_vector (edge_of (points_of l) w))) (edged.Refused (step_fault l w)) (λ z. n (e ∙ z))

  pub edge_given : f ≡ 0 → {v : IntVector} → vector v ≡ edge_of (points_of l) w → edged.Edge v ≡ edged_of l w
  unfolding edged_of
  edge_given z g = ap (λ q. edged.Edge (int_vector q)) g ∙ accepts (edged.Edge (int_vector (edge_of (points_of l) w))) (edged.Refused (step_fault l w)) (sym e ∙ z)

  pub advance_refused : (f ≡ 0 → ⊥) → advanced.Refused f w ≡ advanced_of l w
  unfolding advanced_of
  advance_refused n = ap (λ k. advanced.Refused k w) e ∙ refuses (advanced.At (advance (length (points_of l)) w)) (advanced.Refused (step_fault l w) w) (λ z. n (e ∙ z))

  pub advance_given : f ≡ 0 → {t : Place} → t ≡ advance (length (points_of l)) w → advanced.At t ≡ advanced_of l w
  unfolding advanced_of
  advance_given z g = ap advanced.At g ∙ accepts (advanced.At (advance (length (points_of l)) w)) (advanced.Refused (step_fault l w) w) (sym e ∙ z)

  pub step_refused : (f ≡ 0 → ⊥) → stepped.Refused f w ≡ stepped_of l w
  unfolding stepped_of
  step_refused n = ap (λ k. stepped.Refused k w) e ∙ refuses (stepped.Edge (int_vector (edge_of (points_of l) w)) (advance (length (points_of l)) w)) (stepped.Refused (step_fault l w) w) (λ z. n (e ∙ z))

  pub step_given : f ≡ 0 → {v : IntVector} {t : Place} → vector v ≡ edge_of (points_of l) w → t ≡ advance (length (points_of l)) w → stepped.Edge v t ≡ stepped_of l w
  unfolding stepped_of
  step_given z g h = (λ i. stepped.Edge (int_vector (g i)) (h i)) ∙ accepts (stepped.Edge (int_vector (edge_of (points_of l) w)) (advance (length (points_of l)) w)) (stepped.Refused (step_fault l w) w) (sym e ∙ z)
