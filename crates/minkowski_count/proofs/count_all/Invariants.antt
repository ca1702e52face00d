-- `minkowski_count::count_all` meets its contract: after p turns the corners of the first p left
-- walks are counted. Assumes nothing.
use mathlib.Core.Path.{◌≡◌}
use lib.ListN.{length, take}
use Rattle.pair_walks.specs.Walks.{lefts_in, rights_in}
use Rattle.minkowski_count.proofs.Counts.{all_count}
use Rattle.minkowski_count.proofs.count_all.Given as goal

abbrev pub invariant-loop-p : goal.invariant-loop-p
invariant-loop-p l = (l.total ≡ all_count (take l.p (lefts_in l.firsts l.points l.left l.right)) (rights_in l.firsts l.points l.left l.right)) × (length l.work ≡ 4104)
