-- `corners::off_range` meets its contract. The loop's invariant: the answer for the whole list is
-- that for what is left of it, or that one before was out of range. Assumes nothing.
use mathlib.Core.Path.{◌≡◌}
use mathlib.Core.Bool.{true, cond}
use lib.ListN.{drop}
use Rattle.corners.specs.Corners.{off_range}
use Rattle.corners.proofs.off_range.Given as goal

abbrev pub invariant-loop-z : goal.invariant-loop-z
invariant-loop-z l = off_range l.numbers ≡ cond l.off true (off_range (drop l.z-index l.numbers))
