-- `minkowski_rows::append_row` meets its contract: after q turns the contours with the first q
-- right walks are put. Assumes nothing.
use mathlib.Core.Path.{subst}
use mathlib.Core.List.{[]}
use Prim.Native.Nat.{◌<◌, ◌+◌}
use native.Mathlib.Omega.{arith}
use Rattle.pair_walks.specs.Walks.{walk_in, rights_in}
use Rattle.pair_walks.proofs.Operands.{walks_enough, right_walk, rights_count}
use Rattle.minkowski_rows.specs.Rows.{PairsPut}
use Rattle.minkowski_rows.proofs.Pairs.{pairs_none, row_room, row_more}
use Rattle.minkowski_rows.proofs.append_row.Goals as goal

pub overflow_add-count : goal.overflow_add-count
overflow_add-count c = omega (arith, walks_enough c.requires.0)

pub loop-q-init : goal.loop-q-init
loop-q-init c = let g = c.args in
    subst (λ m. PairsPut [] g.starts.now g.n g.out.now g.at g.starts.now m g.out.now g.at) (omega arith) (pairs_none g.starts.now g.n g.out.now g.at)

pub overflow_add-left : goal.overflow_add-left
overflow_add-left c = omega (arith, walks_enough c.requires.0)

pub append_one-k-requires : goal.append_one-k-requires
append_one-k-requires c = let g = c.args in
    let l = c.loop-q in
    let t : l.q < g.right = omega arith in
    let h = rights_count g.firsts.now g.points.now g.left g.right c.requires.0 in (
      c.requires.0,
      omega (arith, c.requires.1),
      omega (arith, t),
      row_room (walk_in g.firsts.now g.points.now (g.left + g.right) g.p) (rights_in g.firsts.now g.points.now g.left g.right) (omega (arith, t, h)) (right_walk g.firsts.now g.points.now g.left g.right l.q) c.requires.2 l.invariant,
    )

pub loop-q-preserved : goal.loop-q-preserved
loop-q-preserved c = let g = c.args in
    let l = c.loop-q in
    let t : l.q < g.right = omega arith in
    let h = rights_count g.firsts.now g.points.now g.left g.right c.requires.0 in
    row_more (walk_in g.firsts.now g.points.now (g.left + g.right) g.p) (rights_in g.firsts.now g.points.now g.left g.right) (omega (arith, t, h)) (right_walk g.firsts.now g.points.now g.left g.right l.q) l.invariant c.append_one-k.ensures (omega arith)
