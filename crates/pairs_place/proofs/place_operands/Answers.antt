-- `pairs_place::place_operands` meets its contract: a refusal, or what is told of the walks.
-- Assumes nothing.
use Rattle.pairs_place.proofs.Operands.{told_refused, walkable, told_at}
use Rattle.pairs_place.proofs.place_operands.Goals as goal

pub returns-then-begun-ne0 : goal.returns-then-begun-ne0
returns-then-begun-ne0 c = told_refused _ c.begin_operands-begun.ensures _ c.if-begun-ne0.true

pub placed_begun-requires : goal.placed_begun-requires
placed_begun-requires c = (walkable _ c.begin_operands-begun.ensures c.if-begun-ne0.false, c.requires)

pub returns : goal.returns
returns c = told_at _ c.begin_operands-begun.ensures c.if-begun-ne0.false _ c.placed_begun.ensures
