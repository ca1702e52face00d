-- `minkowski_rows::append_all` meets its contract: after p turns the contours of the first p left
-- walks are put. Assumes nothing.
use mathlib.Core.Path.{ap}
use mathlib.Core.List.{flatten}
use Prim.Native.Nat.{◌<◌, ◌+◌}
use native.Mathlib.Omega.{arith}
use lib.ListN.{length, length-set, length-map}
use Rattle.pair_points.specs.Points.{merged_of}
use Rattle.pair_walks.specs.Walks.{walk_in, lefts_in, rights_in}
use Rattle.pair_walks.proofs.Operands.{left_walk, lefts_count, rights_count}
use Rattle.minkowski_rows.proofs.Pairs.{pairs_none, all_room, all_more, all_done, room_resized}
use Rattle.minkowski_rows.proofs.append_all.Goals as goal

pub loop-p-init : goal.loop-p-init
unfolding flatten
loop-p-init c = pairs_none _ 0 c.args.out.now 0

pub append_row-k-requires : goal.append_row-k-requires
append_row-k-requires c = let g = c.args in
    let l = c.loop-p in
    let t : l.p < g.left = omega arith in
    let h = lefts_count g.firsts.now g.points.now g.left g.right c.requires.0 in (
      c.requires.0,
      t,
      all_room (lefts_in g.firsts.now g.points.now g.left g.right) (rights_in g.firsts.now g.points.now g.left g.right) (omega (arith, t, h)) (left_walk g.firsts.now g.points.now g.left g.right t)
          (room_resized c.put_start.ensures c.requires.1) l.invariant,
    )

pub overflow_add-n : goal.overflow_add-n
overflow_add-n c = let g = c.args in
    let l = c.loop-p in
    let t : l.p < g.left = omega arith in
    let e = c.put_start.ensures in
    let h = lefts_count g.firsts.now g.points.now g.left g.right c.requires.0 in
    let room =
    all_room (lefts_in g.firsts.now g.points.now g.left g.right) (rights_in g.firsts.now g.points.now g.left g.right) (omega (arith, t, h)) (left_walk g.firsts.now g.points.now g.left g.right t)
    (room_resized e c.requires.1) l.invariant in
    omega (
      arith,
      room.for_starts,
      l.invariant.starts_size,
      ap length e,
      length-set g.starts.now 0 0,
      length-map (rights_in g.firsts.now g.points.now g.left g.right) (merged_of (walk_in g.firsts.now g.points.now (g.left + g.right) l.p)),
      rights_count g.firsts.now g.points.now g.left g.right c.requires.0,
    )

pub loop-p-preserved : goal.loop-p-preserved
loop-p-preserved c = let g = c.args in
    let l = c.loop-p in
    let t : l.p < g.left = omega arith in
    let h = lefts_count g.firsts.now g.points.now g.left g.right c.requires.0 in
    all_more (lefts_in g.firsts.now g.points.now g.left g.right) (rights_in g.firsts.now g.points.now g.left g.right) (omega (arith, t, h)) (left_walk g.firsts.now g.points.now g.left g.right t) l.invariant c.append_row-k.ensures

pub returns : goal.returns
returns c = let g = c.args in
    let l = c.loop-p in
    all_done (lefts_in g.firsts.now g.points.now g.left g.right) (rights_in g.firsts.now g.points.now g.left g.right) l.p g.starts.now (omega (arith, lefts_count g.firsts.now g.points.now g.left g.right c.requires.0)) (omega (arith, c.requires.1.for_starts)) c.put_start.ensures l.invariant
