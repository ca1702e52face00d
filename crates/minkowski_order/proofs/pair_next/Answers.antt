-- `minkowski_order::pair_next` meets its contract: by its place. Assumes nothing.
use Rattle.minkowski_order.proofs.Order.{next_of}
use Rattle.minkowski_order.proofs.Held.{pair_between}
use Rattle.minkowski_order.proofs.Pairs.{is_pair}
use Rattle.minkowski_order.proofs.pair_next.Goals as goal

pub pair_at-requires : goal.pair_at-requires
pair_at-requires c = let g = c.args in
    let o = next_of c.requires.1 in
    pair_between c.requires.0.keyed o.0 o.1

pub returns : goal.returns
returns c = let g = c.args in
    let o = next_of c.requires.1 in
    is_pair c.requires.0.keyed o.0 o.1 o.2 c.pair_at.ensures
