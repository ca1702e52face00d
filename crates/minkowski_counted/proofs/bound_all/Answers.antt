-- `minkowski_counted::bound_all` meets its contract: of the buffers cut to the points in use.
-- Assumes nothing.
use mathlib.Core.Path.{sym, subst}
use lib.ListN.{take}
use Rattle.minkowski_order.specs.Order.{Used}
use Rattle.minkowski_order.proofs.Cut.{firsts_last, cut_used}
use Rattle.minkowski_counted.proofs.bound_all.Goals as goal

pub first-n-requires : goal.first-n-requires
first-n-requires c = let g = c.args in
    firsts_last g.firsts.now g.points.now g.numbers.now g.left g.right c.requires.0

pub bound_used-requires : goal.bound_used-requires
bound_used-requires c = let g = c.args in
    (subst (λ n. Used g.firsts.now (take n g.points.now) (take n g.numbers.now) g.left g.right) (sym c.first-n.ensures.0) (cut_used g.firsts.now g.points.now g.numbers.now g.left g.right c.requires.0), c.requires.1)
