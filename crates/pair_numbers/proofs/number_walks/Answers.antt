-- `pair_numbers::number_walks` meets its contract. The loop's invariant: the walks passed have
-- their numbers. Assumes nothing.
use mathlib.Core.Path.{◌∙◌}
use Prim.Native.Nat.{◌+◌, ◌-◌, ◌<◌}
use native.Mathlib.Omega.{arith}
use lib.ListN.{get_or, drop, length-take, length-drop}
use Rattle.pair_walks.proofs.Walks.{firsts_enough, walk_placed, walk_ready}
use Rattle.pair_numbers.proofs.Filling.{numbered_more}
use Rattle.pair_numbers.proofs.number_walks.Goals as goal

pub bounds-firsts-n : goal.bounds-firsts-n
bounds-firsts-n c = let l = c.loop-n in
    let t : l.n < c.args.left + c.args.right = omega arith in
    let p = walk_placed c.requires.walks t in
    omega (arith, firsts_enough c.requires.walks t)

pub bounds-firsts-n-in-loop-n : goal.bounds-firsts-n-in-loop-n
bounds-firsts-n-in-loop-n c = let l = c.loop-n in
    let t : l.n < c.args.left + c.args.right = omega arith in
    let p = walk_placed c.requires.walks t in
    omega (arith, firsts_enough c.requires.walks t)

pub slice_bounds-put_numbers-count : goal.slice_bounds-put_numbers-count
slice_bounds-put_numbers-count c = let l = c.loop-n in
    let t : l.n < c.args.left + c.args.right = omega arith in
    let p = walk_placed c.requires.walks t in
    p.rises

pub slice_bounds-put_numbers-start : goal.slice_bounds-put_numbers-start
slice_bounds-put_numbers-start c = let l = c.loop-n in
    let t : l.n < c.args.left + c.args.right = omega arith in
    let p = walk_placed c.requires.walks t in
    omega (arith, p.rises, p.within)

pub slice_bounds-put_numbers-end : goal.slice_bounds-put_numbers-end
slice_bounds-put_numbers-end c = let l = c.loop-n in
    let t : l.n < c.args.left + c.args.right = omega arith in
    let p = walk_placed c.requires.walks t in
    omega (arith, p.rises, p.within)

pub slice_bounds-put_numbers-count-in-loop-n : goal.slice_bounds-put_numbers-count-in-loop-n
slice_bounds-put_numbers-count-in-loop-n c = let l = c.loop-n in
    let t : l.n < c.args.left + c.args.right = omega arith in
    let p = walk_placed c.requires.walks t in
    p.rises

pub put_numbers-requires : goal.put_numbers-requires
put_numbers-requires c = let l = c.loop-n in
    let t : l.n < c.args.left + c.args.right = omega arith in
    let p = walk_placed c.requires.walks t in
    let a = c.args in
    let from = get_or a.firsts.now l.n 0 in
    let many = get_or a.firsts.now (l.n + 1) 0 - from in (
      walk_ready c.requires.walks t,
      omega (arith, c.requires.few, length-take many (drop from a.points.now), length-drop from a.points.now),
      omega (arith, p.rises, p.within, c.requires.room, l.invariant.0, length-take many (drop from a.points.now), length-drop from a.points.now, length-take many (drop from l.numbers), length-drop from l.numbers),
    )

pub loop-n-preserved : goal.loop-n-preserved
loop-n-preserved c = let l = c.loop-n in
    let t : l.n < c.args.left + c.args.right = omega arith in
    let a = c.args in
    (c.numbers-1.given.1 ∙ l.invariant.0, numbered_more a.left c.requires.walks t l.numbers _ (omega (arith, c.requires.room, l.invariant.0)) l.invariant.1 c.put_numbers.ensures)

pub slice_bounds-put_numbers-start-in-loop-n : goal.slice_bounds-put_numbers-start-in-loop-n
slice_bounds-put_numbers-start-in-loop-n c = let l = c.loop-n in
    let t : l.n < c.args.left + c.args.right = omega arith in
    let p = walk_placed c.requires.walks t in
    omega (arith, p.rises, p.within, c.requires.room, l.invariant.0)

pub slice_bounds-put_numbers-end-in-loop-n : goal.slice_bounds-put_numbers-end-in-loop-n
slice_bounds-put_numbers-end-in-loop-n c = let l = c.loop-n in
    let t : l.n < c.args.left + c.args.right = omega arith in
    let p = walk_placed c.requires.walks t in
    omega (arith, p.rises, p.within, c.requires.room, l.invariant.0)
