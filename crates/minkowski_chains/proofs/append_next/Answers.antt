-- `minkowski_chains::append_next` meets its contract: its contour is put, and the start after it.
-- Assumes nothing.
use Rattle.minkowski_rows.proofs.Pairs.{pairs_one}
use Rattle.minkowski_chains.proofs.Contours.{put_on, first_room, first_small, first_starts}
use Rattle.minkowski_order.proofs.Pairs.{as_fits, as_put}
use Rattle.minkowski_chains.proofs.append_next.Goals as goal

pub merge_one-k-requires : goal.merge_one-k-requires
merge_one-k-requires c = let g = c.args in
    (c.requires.0.buffers, as_fits c.pair_next-x.ensures (first_room c.requires.2))

pub put_start-requires : goal.put_start-requires
put_start-requires c = let g = c.args in
    (first_starts c.requires.2, first_small c.requires.2 (as_put c.pair_next-x.ensures c.merge_one-k.ensures))

pub returns : goal.returns
returns c = let g = c.args in
    put_on c.after.ensures (pairs_one g.starts.now g.s.n (first_starts c.requires.2) (as_put c.pair_next-x.ensures c.merge_one-k.ensures) c.put_start.ensures)
