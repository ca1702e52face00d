-- `split_chords::append_fan_parts` meets its contract: the invariant is `Fanning` of Fans. Assumes
-- nothing.
use Prim.Native.Nat.{◌-◌}
use lib.ListN.{length}
use Rattle.points.specs.Points.{corners_in}
use Rattle.split.specs.Splitting.{fan_parts}
use Rattle.split_chords.proofs.Fans.{Fanning}
use Rattle.split_chords.proofs.append_fan_parts.Given as goal

abbrev pub invariant-loop-i : goal.invariant-loop-i
invariant-loop-i l = Fanning l.contour (fan_parts l.limit (corners_in l.contour)) (length l.contour - 2) l.part_count l.i l.start l.initial.starts l.initial.points l.initial.tally l.starts l.points l.tally
