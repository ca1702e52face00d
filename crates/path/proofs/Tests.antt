-- Tests in turn, as code makes them. In order: both of two tests (`both_hold`, `first_fails`); what
-- is told of a path by its four tests. Assumes nothing.
use mathlib.Core.Path.{◌≡◌, sym, ◌∙◌, ap, ap₂}
use mathlib.Core.Bool.{Bool, true, false, not, ◌&&◌}
use mathlib.Core.List.{[], ◌∷◌}
use Prim.Native.Nat.{ℕ, ◌-◌, ◌/◌, ◌<◌, ◌≤◌}
use borrow.Author.Tests.{lt-ltb, le-ltb}
use lib.Dec.{eqb, ltb}
use Rattle.integers.specs.Faults.{first_fault, fault_path, fault_rules, fault_range, fault_corner_room}
use Rattle.path.specs.declared.PathCounts.{PathCounts}
use Rattle.table.specs.Table.{max_contour}
use Rattle.path.specs.declared.Frame.{Frame}
use Rattle.path.specs.declared.Judged.{Judged}
use Rattle.path.specs.Path.{counts_of, framed}
use Rattle.path.specs.Judging.{is_closed, judged_counts}

-- r is a, which holds, and s is b
pub both_hold : {a b r s : Bool} → r ≡ a → r ≡ true → s ≡ b → s ≡ a && b
both_hold {a} {b} p t q = q ∙ ap (λ x. x && b) (sym t ∙ p)

-- r is a, which fails
pub first_fails : {a r : Bool} (b : Bool) → r ≡ a → r ≡ false → false ≡ a && b
first_fails b p t = ap (λ x. x && b) (sym t ∙ p)

-- r is a, which holds, so b decides
pub first_holds : {a b r : Bool} → r ≡ a → r ≡ true → false ≡ b → false ≡ a && b
first_holds {a} {b} p t q = q ∙ ap (λ x. x && b) (sym t ∙ p)

-- ---- what is told of a path by its four tests

abbrev pub told_by : Bool → Bool → Bool → Bool → ℕ → PathCounts
told_by path long off narrow n = counts_of (first_fault ((fault_path, not path) ∷ (fault_rules, long) ∷ (fault_range, off) ∷ (fault_corner_room, narrow) ∷ [])) n

module _ (f : Frame) (s : Judged) (n room : ℕ) where
  abbrev pathed : Bool
  pathed = framed f && (is_closed s.stage && not (eqb n 0))

  abbrev long : Bool
  long = ltb max_contour (n - 1)

  abbrev narrow : Bool
  narrow = ltb (room / 2) (n - 1)

  pub told_path : false ≡ pathed → record { fault = fault_path; corners = 0 } ≡ judged_counts f s n room
  unfolding judged_counts first_fault
  told_path p = ap (λ b. told_by b long s.off narrow (n - 1)) p

  module _ (p : true ≡ pathed) where
    pub told_long : max_contour < n - 1 → record { fault = fault_rules; corners = 0 } ≡ judged_counts f s n room
    unfolding judged_counts first_fault
    told_long q = ap₂ (λ a b. told_by a b s.off narrow (n - 1)) p (sym (lt-ltb max_contour (n - 1) q))

    module _ (q : n - 1 ≤ max_contour) where
      pub told_off : s.off ≡ true → record { fault = fault_range; corners = 0 } ≡ judged_counts f s n room
      unfolding judged_counts first_fault
      told_off r = ap₂ (λ a b. told_by a b true narrow (n - 1)) p (sym (le-ltb max_contour (n - 1) q)) ∙ ap (λ b. told_by pathed long b narrow (n - 1)) (sym r)

      -- k corners have room
      pub told_narrow : {k : ℕ} → k ≡ room / 2 → s.off ≡ false → k < n - 1 → record { fault = fault_corner_room; corners = 0 } ≡ judged_counts f s n room
      unfolding judged_counts first_fault
      told_narrow {k} e r t = ap₂ (λ a b. told_by a b false true (n - 1)) p (sym (le-ltb max_contour (n - 1) q)) ∙ ap₂ (λ a b. told_by pathed long a b (n - 1)) (sym r) (sym (lt-ltb k (n - 1) t) ∙ ap (λ m. ltb m (n - 1)) e)

      pub told_none : {k : ℕ} → k ≡ room / 2 → s.off ≡ false → n - 1 ≤ k → record { fault = 0; corners = n - 1 } ≡ judged_counts f s n room
      unfolding judged_counts first_fault
      told_none {k} e r t = ap₂ (λ a b. told_by a b false false (n - 1)) p (sym (le-ltb max_contour (n - 1) q)) ∙ ap₂ (λ a b. told_by pathed long a b (n - 1)) (sym r) (sym (le-ltb k (n - 1) t) ∙ ap (λ m. ltb m (n - 1)) e)
