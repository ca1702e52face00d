-- `minkowski_chains::append_keyed` meets its contract: of the buffers cut to the points in use.
-- Assumes nothing.
use native.Mathlib.Omega.{arith}
use mathlib.Core.Path.{sym, subst}
use lib.ListN.{take}
use Rattle.minkowski_order.specs.Order.{Used}
use Rattle.minkowski_order.proofs.Cut.{firsts_last, cut_used}
use Rattle.minkowski_chains.proofs.append_keyed.Goals as goal
use Rattle.minkowski_chains.proofs.append_keyed.Goals.{After-first-n}

pub overflow_add-left : goal.overflow_add-left
overflow_add-left c = let g = c.args in
    record { fits = omega (arith, firsts_last g.firsts.now g.points.now g.numbers.now g.left g.right c.requires.keyed) }

pub first-n-requires : goal.first-n-requires
first-n-requires c = let g = c.args in
    firsts_last g.firsts.now g.points.now g.numbers.now g.left g.right c.requires.keyed

-- the buffers are cut to the points in use
used : (c : After-first-n) → Used c.args.firsts.now (take c.first-n.result c.args.points.now) (take c.first-n.result c.args.numbers.now) c.args.left c.args.right
used c = let g = c.args in
    subst (λ n. Used g.firsts.now (take n g.points.now) (take n g.numbers.now) g.left g.right) (sym c.first-n.ensures.0) (cut_used g.firsts.now g.points.now g.numbers.now g.left g.right c.requires.keyed)

pub append_in-requires-clause-used : goal.append_in-requires-clause-used
append_in-requires-clause-used c = used (goal.at.append_in-requires-clause-used c).After-first-n

pub append_in-requires-else-n-le-SMALL-clause-used : goal.append_in-requires-else-n-le-SMALL-clause-used
append_in-requires-else-n-le-SMALL-clause-used c = used (goal.at.append_in-requires-else-n-le-SMALL-clause-used c).After-first-n
