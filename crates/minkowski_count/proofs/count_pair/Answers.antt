-- `minkowski_count::count_pair` meets its contract: any merge fits the work buffer. Assumes
-- nothing.
use Prim.Native.Nat.{◌+◌}
use native.Mathlib.Omega.{arith}
use Rattle.pair_walks.specs.Walks.{walk_in}
use Rattle.pair_walks.proofs.Walks.{walk_short}
use Rattle.pair_walks.proofs.Operands.{walks_enough}
use Rattle.minkowski_count.proofs.Counts.{fits_work}
use Rattle.minkowski_count.proofs.count_pair.Goals as goal

pub overflow_add-left : goal.overflow_add-left
overflow_add-left c = omega (arith, walks_enough c.requires.0, c.requires.2)

pub overflow_add-left-2 : goal.overflow_add-left-2
overflow_add-left-2 c = omega (arith, walks_enough c.requires.0, c.requires.2)

pub merge_walks-requires : goal.merge_walks-requires
merge_walks-requires c = let g = c.args in
    let n = g.left + g.right in
    let w = c.requires.0 in (
      w,
      omega (arith, c.requires.1),
      omega (arith, c.requires.2),
      fits_work (walk_in g.firsts.now g.points.now n g.p) (walk_in g.firsts.now g.points.now n (g.left + g.q)) g.work.now
          (walk_short w (omega (arith, c.requires.1))) (walk_short w (omega (arith, c.requires.2))) c.requires.3,
    )
