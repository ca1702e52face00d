-- `minkowski_count::count_row` meets its contract: after q turns the corners with the first q right
-- walks are counted. Assumes nothing.
use mathlib.Core.Path.{refl, ◌∙◌}
use mathlib.Core.List.{flatten}
use Prim.Native.Nat.{◌<◌, ◌+◌}
use native.Mathlib.Omega.{arith}
use Rattle.pair_walks.specs.Walks.{walk_in, rights_in}
use Rattle.pair_walks.proofs.Operands.{right_walk, rights_count}
use Rattle.minkowski_count.proofs.Counts.{row_fits, row_turn}
use Rattle.minkowski_count.proofs.count_row.Goals as goal

pub loop-q-init : goal.loop-q-init
unfolding flatten
loop-q-init c = (refl, refl)

pub overflow_add-total : goal.overflow_add-total
overflow_add-total c = let g = c.args in
    let l = c.loop-q in
    let h = rights_count g.firsts.now g.points.now g.left g.right c.requires.walks.0 in
    omega (arith, c.count_pair-total.ensures.count, l.invariant.1, row_fits (walk_in g.firsts.now g.points.now (g.left + g.right) g.p) (rights_in g.firsts.now g.points.now g.left g.right) (omega (arith, h)) (right_walk g.firsts.now g.points.now g.left g.right l.q), c.requires.few)

pub loop-q-preserved : goal.loop-q-preserved
loop-q-preserved c = let g = c.args in
    let l = c.loop-q in
    let t : l.q < g.right = omega arith in
    let h = rights_count g.firsts.now g.points.now g.left g.right c.requires.walks.0 in (
      c.work-1.given ∙ l.invariant.0,
      omega (arith, c.count_pair-total.ensures.count, l.invariant.1, row_turn (walk_in g.firsts.now g.points.now (g.left + g.right) g.p) (rights_in g.firsts.now g.points.now g.left g.right) (omega (arith, t, h)) (right_walk g.firsts.now g.points.now g.left g.right l.q)),
    )
