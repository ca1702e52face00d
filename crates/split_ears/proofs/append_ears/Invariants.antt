-- `split_ears::append_ears` meets its contract: the invariant is `Clipping` of Ears. Assumes
-- nothing.
use mathlib.Core.Path.{◌≡◌}
use Prim.Native.Nat.{◌-◌}
use lib.ListN.{length}
use Rattle.points.specs.Points.{corners_in}
use Rattle.split.specs.Splitting.{ear_parts}
use Rattle.split_ears.proofs.Ears.{Clipping}
use Rattle.split_ears.proofs.append_ears.Given as goal

abbrev pub invariant-loop-i : goal.invariant-loop-i
invariant-loop-i l = (length l.ring ≡ length l.initial.ring) × Clipping l.contour (ear_parts l.limit (corners_in l.contour)) (length l.contour - 2) l.part_count l.i l.start l.ring l.initial.starts l.initial.points l.initial.tally l.starts l.points l.tally
