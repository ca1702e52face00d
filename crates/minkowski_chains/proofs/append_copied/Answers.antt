-- `minkowski_chains::append_copied` meets its contract: corners copied, and the start after them.
-- Assumes nothing.
use native.Mathlib.Omega.{arith}
use Rattle.minkowski_rows.proofs.Pairs.{pairs_one}
use Rattle.minkowski_chains.proofs.Contours.{first_room, first_small, first_starts, corners_count}
use Rattle.minkowski_chains.proofs.append_copied.Goals as goal

pub copy_work-requires : goal.copy_work-requires
copy_work-requires c = let g = c.args in
    (c.requires.0, omega (arith, first_room c.requires.1, corners_count g.count g.work.now c.requires.0))

pub put_start-requires : goal.put_start-requires
put_start-requires c = (first_starts c.requires.1, first_small c.requires.1 c.copy_work.ensures)

pub returns : goal.returns
returns c = let g = c.args in
    pairs_one g.starts.now g.n (first_starts c.requires.1) c.copy_work.ensures c.put_start.ensures
