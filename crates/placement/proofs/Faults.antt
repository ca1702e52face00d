-- The fault of a call by the tests that code makes, in order, and what none tells. Assumes nothing.
use mathlib.Core.Path.{◌≡◌, sym, ◌∙◌}
use mathlib.Core.Bool.{true, false}
use mathlib.Core.List.{List, [], ◌∷◌}
use Prim.Native.Nat.{ℕ}
use native.Mathlib.Omega.{arith}
use lib.IntN.{ℤ}
use Rattle.integers.specs.Faults.{fault_rules, fault_range}
use Rattle.integers.proofs.Faults.{first_this, first_next, first_empty, first_none}
use Rattle.integers.proofs.Order.{by_test}
use Rattle.integers.proofs.Tests.{differ, both_true}
use Rattle.plane.specs.Plane.{Pt, in_range, on_grid}
use Rattle.corners.specs.Corners.{off_range}
use Rattle.table.specs.Table.{result_broken}
use Rattle.placement.specs.Placement.{place_fault, Placeable}

-- the place's numbers before the corners'
off_place : (z : Pt) (c : List ℤ) → on_grid z ≡ false → off_range (z.x ∷ z.y ∷ c) ≡ true
unfolding off_range on_grid
off_place z c h = by_test (in_range z.x) (λ e. by_test (in_range z.y) (λ f. differ (sym h ∙ rw (e, f))) (λ f. rw (e, f))) (λ e. rw e)

on_place : (z : Pt) (c : List ℤ) → on_grid z ≡ true → off_range (z.x ∷ z.y ∷ c) ≡ off_range c
unfolding off_range on_grid
on_place z c h = let b = both_true (in_range z.x) _ h in rw (b.0, b.1)

module _ (s : List ℕ) (c : List ℤ) (z : Pt) where
  pub told_7 : result_broken s c ≡ true → fault_rules ≡ place_fault s c z
  unfolding place_fault
  told_7 e = sym (first_this fault_rules _ e)

  module _ (e : result_broken s c ≡ false) where
    pub told_2_place : on_grid z ≡ false → fault_range ≡ place_fault s c z
    unfolding place_fault
    told_2_place h = sym (first_next fault_rules _ e ∙ first_this fault_range [] (off_place z c h))

    pub told_2 : on_grid z ≡ true → off_range c ≡ true → fault_range ≡ place_fault s c z
    unfolding place_fault
    told_2 h k = sym (first_next fault_rules _ e ∙ first_this fault_range [] (on_place z c h ∙ k))

    pub told_none : on_grid z ≡ true → off_range c ≡ false → 0 ≡ place_fault s c z
    unfolding place_fault
    told_none h k = sym (first_next fault_rules _ e ∙ first_next fault_range [] (on_place z c h ∙ k) ∙ first_empty)

  -- what no fault tells
  pub accepted : place_fault s c z ≡ 0 → Placeable s c × (on_grid z ≡ true)
  unfolding place_fault
  accepted h =
      let f = first_none _ _ (omega arith) h in
      let g = first_none _ [] (omega arith) f.1 in
      by_test (on_grid z)
      (λ on. (record { whole = f.0; ranged = sym (on_place z c on) ∙ g.0 }, on))
      (λ off. differ (sym g.0 ∙ off_place z c off))
