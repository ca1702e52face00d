-- `split_sectors::append_group` meets its contract: the parts before corner at are appended.
-- Assumes nothing.
use Prim.Native.Nat.{◌-◌, ◌≤◌}
use Rattle.plane.specs.Machine.{point}
use Rattle.split_chords.proofs.Appending.{Partway}
use Rattle.split_sectors.proofs.Turns.{group_from}
use Rattle.split_sectors.proofs.append_group.Given as goal

abbrev pub invariant-loop-at : goal.invariant-loop-at
invariant-loop-at l = (l.at ≤ l.target) × Partway (group_from l.contour (point l.centre) l.target l.start) (group_from l.contour (point l.centre) l.target l.at) l.initial.starts l.initial.points l.initial.tally l.starts l.points l.tally

abbrev pub decreases-loop-at : goal.decreases-loop-at
decreases-loop-at l = l.target - l.at
