-- `minkowski_chains::append_used` meets its contract. The loop's invariant: as much more is put as
-- the place has gone on. Assumes nothing.
use Prim.Native.Nat.{◌*◌, ◌-◌}
use Rattle.pair_walks.specs.Walks.{contours_in}
use Rattle.minkowski_chains.proofs.Contours.{Since}
use Rattle.minkowski_chains.proofs.append_used.Given as goal

abbrev pub invariant-loop-s : goal.invariant-loop-s
invariant-loop-s l = Since l.left l.right (contours_in l.firsts l.points l.left l.right) l.initial.s l.initial.starts l.initial.out l.s l.starts l.out

abbrev pub decreases-loop-s : goal.decreases-loop-s
decreases-loop-s l = l.left * l.right - l.s.n
