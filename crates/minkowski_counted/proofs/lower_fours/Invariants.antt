-- `minkowski_counted::lower_fours` meets its contract. The loop's invariant: the bound at the
-- place. Assumes nothing.
use Prim.Native.Nat.{◌*◌, ◌-◌}
use Rattle.minkowski_counted.specs.Counts.{Bounds}
use Rattle.minkowski_counted.proofs.lower_fours.Given as goal

abbrev pub invariant-loop-s : goal.invariant-loop-s
invariant-loop-s l = Bounds l.firsts l.points l.left l.right l.s

abbrev pub decreases-loop-s : goal.decreases-loop-s
decreases-loop-s l = l.left * l.right - l.s.n
