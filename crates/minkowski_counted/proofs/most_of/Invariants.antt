-- `minkowski_counted::most_of` meets its contract. The loop's invariant: the edges of the pairs
-- before the place are added up. Assumes nothing.
use Prim.Native.Nat.{◌*◌, ◌-◌}
use Rattle.minkowski_counted.proofs.Counting.{Summed}
use Rattle.minkowski_counted.proofs.most_of.Given as goal

abbrev pub invariant-loop-s : goal.invariant-loop-s
invariant-loop-s l = Summed l.firsts l.points l.left l.right l.s

abbrev pub decreases-loop-s : goal.decreases-loop-s
decreases-loop-s l = l.left * l.right - l.s.n
