-- `walk_extremes::start_at` meets its contract: each branch is the definition's. Assumes nothing.
use Rattle.pair.specs.Walk.{start_at}
use Rattle.walk_extremes.proofs.start_at.Goals as goal

pub returns-then-reflected : goal.returns-then-reflected
unfolding start_at
returns-then-reflected c = rw c.if-reflected.true c.extreme_at.ensures

pub returns-else-reflected : goal.returns-else-reflected
unfolding start_at
returns-else-reflected c = rw c.if-reflected.false c.extreme_at-else-reflected.ensures
