-- The faults of a walk's point and of its step, each where those before it do not hold. Assumes
-- nothing.
use mathlib.Core.Path.{◌≡◌, sym, ◌∙◌}
use mathlib.Core.Bool.{Bool, true, false}
use mathlib.Core.List.{List}
use borrow.Author.Tests.{eq-eqb, ne_eqb}
use lib.ListN.{length}
use lib.IntN.{ℤ}
use Rattle.integers.proofs.Faults.{first_this, first_next, first_empty}
use Rattle.corners.specs.Corners.{points_of}
use Rattle.pair.specs.declared.Place.{Place}
use Rattle.pair.specs.Walk.{next_index}
use Rattle.walk.specs.Calls.{length_broken, misplaced, off_at, either, point_fault, step_fault}

-- which of two tests holds
left : {s : Bool} (t : Bool) → s ≡ true → either s t ≡ true
left t h = rw h

right : {s t : Bool} → s ≡ false → {u : Bool} → t ≡ u → either s t ≡ u
right h e = rw h e

module _ (l : List ℤ) (w : Place) where
  pub point_7 : length_broken l ≡ true → 7 ≡ point_fault l w
  unfolding point_fault
  point_7 a = sym (first_this 7 _ a)

  pub step_7 : length_broken l ≡ true → 7 ≡ step_fault l w
  unfolding step_fault
  step_7 a = sym (first_this 7 _ a)

  module _ (a : length_broken l ≡ false) where
    pub point_23 : misplaced (length (points_of l)) w ≡ true → 23 ≡ point_fault l w
    unfolding point_fault
    point_23 b = sym (first_next 7 _ a ∙ first_this 23 _ b)

    module _ (b : misplaced (length (points_of l)) w ≡ false) where
      pub point_2 : off_at (points_of l) w.index ≡ true → 2 ≡ point_fault l w
      unfolding point_fault
      point_2 c = sym (first_next 7 _ a ∙ first_next 23 _ b ∙ first_this 2 _ c)

      pub point_0 : off_at (points_of l) w.index ≡ false → 0 ≡ point_fault l w
      unfolding point_fault
      point_0 c = sym (first_next 7 _ a ∙ first_next 23 _ b ∙ first_next 2 _ c ∙ first_empty)

    pub step_done : w.remaining ≡ 0 → 23 ≡ step_fault l w
    unfolding step_fault
    step_done d = sym (first_next 7 _ a ∙ first_this 23 _ (left _ (eq-eqb w.remaining 0 d)))

    module _ (d : w.remaining ≡ 0 → ⊥) where
      pub step_23 : misplaced (length (points_of l)) w ≡ true → 23 ≡ step_fault l w
      unfolding step_fault
      step_23 b = sym (first_next 7 _ a ∙ first_this 23 _ (right (ne_eqb w.remaining 0 d) b))

      module _ (b : misplaced (length (points_of l)) w ≡ false) where
        pub step_here : off_at (points_of l) w.index ≡ true → 2 ≡ step_fault l w
        unfolding step_fault
        step_here c = sym (first_next 7 _ a ∙ first_next 23 _ (right (ne_eqb w.remaining 0 d) b) ∙ first_this 2 _ (left _ c))

        module _ (c : off_at (points_of l) w.index ≡ false) where
          pub step_there : off_at (points_of l) (next_index (length (points_of l)) w) ≡ true → 2 ≡ step_fault l w
          unfolding step_fault
          step_there e = sym (first_next 7 _ a ∙ first_next 23 _ (right (ne_eqb w.remaining 0 d) b) ∙ first_this 2 _ (right c e))

          pub step_0 : off_at (points_of l) (next_index (length (points_of l)) w) ≡ false → 0 ≡ step_fault l w
          unfolding step_fault
          step_0 e = sym (first_next 7 _ a ∙ first_next 23 _ (right (ne_eqb w.remaining 0 d) b) ∙ first_next 2 _ (right c e) ∙ first_empty)
