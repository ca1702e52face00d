-- `minkowski_rows::append_row` meets its contract: after q turns the contours with the first q
-- right walks are put. Assumes nothing.
use Prim.Native.Nat.{◌+◌}
use lib.ListN.{take}
use Rattle.pair_walks.specs.Walks.{walk_in, rights_in, merged_row}
use Rattle.minkowski_rows.specs.Rows.{PairsPut}
use Rattle.minkowski_rows.proofs.append_row.Given as goal

abbrev pub invariant-loop-q : goal.invariant-loop-q
invariant-loop-q l = PairsPut (merged_row (walk_in l.firsts l.points (l.left + l.right) l.p) (take l.q (rights_in l.firsts l.points l.left l.right))) l.initial.starts l.n l.initial.out l.at l.starts (l.n + l.q) l.out l.k
