-- `minkowski_order::merge_pair` meets its contract: of the buffers cut to the points in use.
-- Assumes nothing.
use native.Mathlib.Omega.{arith}
use borrow.Author.Rules.{rules}
use mathlib.Core.Path.{sym, subst}
use lib.ListN.{take, length-take}
use Rattle.pair_merge.specs.Putting.{RoomAfter}
use Rattle.pair_walks.specs.Walks.{pair_in}
use Rattle.minkowski_order.specs.Order.{Used}
use Rattle.minkowski_order.proofs.Held.{pair_room}
use Rattle.minkowski_order.proofs.Cut.{firsts_last, points_size, numbers_size, pair_same, put_same, cut_used}
use Rattle.minkowski_order.proofs.merge_pair.Goals as goal

pub overflow_add-left : goal.overflow_add-left
overflow_add-left c = let g = c.args in
    omega (arith, firsts_last g.firsts.now g.points.now g.numbers.now g.left g.right c.requires.0)

pub first-n-requires : goal.first-n-requires
first-n-requires c = let g = c.args in
    firsts_last g.firsts.now g.points.now g.numbers.now g.left g.right c.requires.0

pub merge_used-requires : goal.merge_used-requires
merge_used-requires c = let g = c.args in
    let e = sym c.first-n.ensures.0 in
    (subst (λ n. Used g.firsts.now (take n g.points.now) (take n g.numbers.now) g.left g.right) e (cut_used g.firsts.now g.points.now g.numbers.now g.left g.right c.requires.0), c.requires.1, c.requires.2, subst (λ n. RoomAfter (pair_in g.firsts.now (take n g.points.now) g.left g.right g.p g.q) g.work.now 0) e (subst (λ l. RoomAfter l g.work.now 0) (sym (pair_same g.firsts.now g.points.now g.numbers.now g.left g.right c.requires.0 g.p g.q)) (pair_room c.requires.0 c.requires.1 c.requires.2 g.work.now c.requires.3)))
