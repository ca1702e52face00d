-- `pair_chains::count_one` meets its contract: its lane from its start to its end. Assumes nothing.
use Rattle.pair_chains.proofs.Lanes.{counting_rest, count_small, counting_start}
use Rattle.pair_chains.proofs.count_one.Goals as goal

pub count_on-requires : goal.count_on-requires
count_on-requires c = let n = c.args.numbers.now in
    let x = c.args.x in
    counting_rest c.requires.few (count_small c.requires) (counting_start c.requires c.start.ensures)
