-- `minkowski_order::merge_used` meets its contract: as a pair that is held. Assumes nothing.
use borrow.Author.Rules.{rules}
use Rattle.minkowski_order.proofs.Held.{pair_between, pair_fits, pair_put}
use Rattle.minkowski_order.proofs.merge_used.Goals as goal

pub pair_at-x-requires : goal.pair_at-x-requires
pair_at-x-requires c = let g = c.args in
    pair_between c.requires.0.keyed c.requires.1 c.requires.2

pub merge_one-requires : goal.merge_one-requires
merge_one-requires c = let g = c.args in
    (c.requires.0.buffers, pair_fits c.requires.0.keyed c.requires.1 c.requires.2 c.pair_at-x.ensures c.requires.3)

pub returns : goal.returns
returns c = let g = c.args in
    pair_put c.requires.0.keyed c.requires.1 c.requires.2 c.pair_at-x.ensures c.merge_one.ensures
