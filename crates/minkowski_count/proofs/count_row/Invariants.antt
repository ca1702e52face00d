-- `minkowski_count::count_row` meets its contract: after q turns the corners with the first q right
-- walks are counted. Assumes nothing.
use mathlib.Core.Path.{◌≡◌}
use Prim.Native.Nat.{◌+◌}
use lib.ListN.{length, take}
use Rattle.pair_walks.specs.Walks.{walk_in, rights_in}
use Rattle.minkowski_count.proofs.Counts.{row_count}
use Rattle.minkowski_count.proofs.count_row.Given as goal

abbrev pub invariant-loop-q : goal.invariant-loop-q
invariant-loop-q l = (length l.work ≡ length l.initial.work) × (l.total ≡ row_count (walk_in l.firsts l.points (l.left + l.right) l.p) (take l.q (rights_in l.firsts l.points l.left l.right)))
