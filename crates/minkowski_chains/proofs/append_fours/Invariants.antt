-- `minkowski_chains::append_fours` meets its contract. The loop's invariant: the contours before
-- the place are put. Assumes nothing.
use mathlib.Core.Path.{◌≡◌}
use Prim.Native.Nat.{◌*◌, ◌-◌}
use lib.ListN.{length}
use Rattle.pair_walks.specs.Walks.{contours_in}
use Rattle.minkowski_chains.specs.Contours.{PutTo}
use Rattle.minkowski_chains.proofs.append_fours.Given as goal

abbrev pub invariant-loop-s : goal.invariant-loop-s
invariant-loop-s l = PutTo l.left l.right (contours_in l.firsts l.points l.left l.right) l.initial.starts l.initial.out l.s l.starts l.out × (length l.wb ≡ length l.initial.wb) × (length l.wc ≡ length l.initial.wc) × (length l.wd ≡ length l.initial.wd)

abbrev pub decreases-loop-s : goal.decreases-loop-s
decreases-loop-s l = l.left * l.right - l.s.n
