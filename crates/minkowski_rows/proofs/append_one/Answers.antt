-- `minkowski_rows::append_one` meets its contract: the contour is put, and the start after it.
-- Assumes nothing.
use Rattle.minkowski_rows.proofs.Pairs.{pairs_one, one_room, one_small}
use Rattle.minkowski_rows.proofs.append_one.Goals as goal

pub merge_walks-k-requires : goal.merge_walks-k-requires
merge_walks-k-requires c = (c.requires.0, c.requires.1, c.requires.2, one_room c.requires.3)

pub put_start-requires : goal.put_start-requires
put_start-requires c = (c.requires.3.for_starts, one_small c.requires.3 c.merge_walks-k.ensures)

pub returns : goal.returns
returns c = let g = c.args in
    pairs_one g.starts.now g.n c.requires.3.for_starts c.merge_walks-k.ensures c.put_start.ensures
