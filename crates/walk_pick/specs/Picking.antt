-- Which walk of a pair steps, as the code holds it, read as pair's specs/Pair.antt has it. Assumes
-- nothing.
use Rattle.std.specs.Prelude.{◌≡◌, false, List, length, ℤ}
use Rattle.plane.specs.Machine.{vector, Short}
use Rattle.corners.specs.Corners.{points_of, off_range}
use Rattle.pair.specs.declared.ConvexSum.{ConvexSum}
use Rattle.pair.specs.Pair.{Pick, none, first, second}
use Rattle.walk.specs.Calls.{length_broken, misplaced}
use Rattle.walk_pick.specs.declared.Step.{Step}
use Rattle.walk_pick.specs.declared.Step.TheVariants as step

-- what a pair's step asks of its input, judged once: 7, 23, 2 over both walks
pub record Judged (l r : List ℤ) (s : ConvexSum) : Type 0 where
  pub left_short : length_broken l ≡ false
  pub right_short : length_broken r ≡ false
  pub left_placed_lem : misplaced (length (points_of l)) s.a ≡ false
  pub right_placed_lem : misplaced (length (points_of r)) s.b ≡ false
  pub left_range : off_range l ≡ false
  pub right_range : off_range r ≡ false

-- the walk that steps, and its edge
abbrev pub pick_of : Step → Pick
pick_of step.Neither = none
pick_of (step.First v) = first (vector v)
pick_of (step.Second v) = second (vector v)

-- that edge is short
abbrev pub StepShort : Step → Type 0
StepShort step.Neither = Unit {0}
StepShort (step.First v) = Short v
StepShort (step.Second v) = Short v
