-- `minkowski_count::count_all` meets its contract: after p turns the corners of the first p left
-- walks are counted. Assumes nothing.
use mathlib.Core.Path.{refl}
use mathlib.Core.List.{flatten}
use Prim.Native.Nat.{◌<◌}
use native.Mathlib.Omega.{arith}
use Rattle.pair_walks.specs.Walks.{lefts_in, rights_in}
use Rattle.pair_walks.proofs.Operands.{left_walk, lefts_count}
use Rattle.minkowski_count.proofs.Counts.{all_fits, all_turn}
use Rattle.minkowski_count.proofs.count_all.Goals as goal

pub loop-p-init : goal.loop-p-init
unfolding flatten
loop-p-init c = (refl, refl)

pub count_row-total-requires : goal.count_row-total-requires
count_row-total-requires c = let g = c.args in
    let l = c.loop-p in
    let t : l.p < g.left = omega arith in
    let h = lefts_count g.firsts.now g.points.now g.left g.right c.requires.0 in record {
      walks = (c.requires.0, t, omega (arith, l.invariant.1));
      few = omega (arith, all_fits (lefts_in g.firsts.now g.points.now g.left g.right) (rights_in g.firsts.now g.points.now g.left g.right) (omega (arith, t, h)) (left_walk g.firsts.now g.points.now g.left g.right t), c.requires.1);
    }

pub overflow_add-total : goal.overflow_add-total
overflow_add-total c = let g = c.args in
    let l = c.loop-p in
    let t : l.p < g.left = omega arith in
    let h = lefts_count g.firsts.now g.points.now g.left g.right c.requires.0 in
    omega (arith, c.count_row-total.ensures, l.invariant.0, all_fits (lefts_in g.firsts.now g.points.now g.left g.right) (rights_in g.firsts.now g.points.now g.left g.right) (omega (arith, t, h)) (left_walk g.firsts.now g.points.now g.left g.right t), c.requires.1)

pub loop-p-preserved : goal.loop-p-preserved
loop-p-preserved c = let g = c.args in
    let l = c.loop-p in
    let t : l.p < g.left = omega arith in
    let h = lefts_count g.firsts.now g.points.now g.left g.right c.requires.0 in (
      omega (arith, c.count_row-total.ensures, l.invariant.0, all_turn (lefts_in g.firsts.now g.points.now g.left g.right) (rights_in g.firsts.now g.points.now g.left g.right) (omega (arith, t, h)) (left_walk g.firsts.now g.points.now g.left g.right t)),
      c.work-in-loop-p-1.given,
    )
