-- `minkowski_rows::append_all` meets its contract: after p turns the contours of the first p left
-- walks are put. Assumes nothing.
use lib.ListN.{take}
use Rattle.pair_walks.specs.Walks.{lefts_in, rights_in, merged_all}
use Rattle.minkowski_rows.specs.Rows.{PairsPut}
use Rattle.minkowski_rows.proofs.append_all.Given as goal

abbrev pub invariant-loop-p : goal.invariant-loop-p
invariant-loop-p l = PairsPut (merged_all (take l.p (lefts_in l.firsts l.points l.left l.right)) (rights_in l.firsts l.points l.left l.right)) l.initial.starts 0 l.initial.out 0 l.starts l.n l.out l.k
