-- `minkowski_counted::bound_used` meets its contract. The loop's invariant: the bound at the place.
-- Assumes nothing.
use Prim.Native.Nat.{◌+◌, ◌*◌, ◌≤◌}
use native.Mathlib.Omega.{arith}
use Rattle.minkowski_counted.proofs.Counting.{bounds_edges, bounds_next, bounds_within, bounds_exact}
use Rattle.minkowski_counted.proofs.bound_used.Goals as goal

pub returns-else-s-room : goal.returns-else-s-room
returns-else-s-room c = let g = c.args in
    let l = c.loop-s in
    bounds_within g.firsts.now g.points.now g.numbers.now g.left g.right c.requires.0.keyed l.s l.invariant (omega (arith, c.if-s-room.false))

pub lower_one-s-requires : goal.lower_one-s-requires
lower_one-s-requires c = let g = c.args in
    let l = c.loop-s in
    let h : l.s.n + 1 ≤ g.left * g.right = omega (arith, c.loop-s-test.true) in
    (c.requires.0, record { order = l.invariant.order; some = h; few = omega (arith, c.requires.1) }, bounds_edges g.firsts.now g.points.now g.numbers.now g.left g.right c.requires.0.keyed l.s l.invariant (omega (arith, h)))

pub loop-s-preserved : goal.loop-s-preserved
loop-s-preserved c = let g = c.args in
    let l = c.loop-s in
    let h : l.s.n + 1 ≤ g.left * g.right = omega (arith, c.loop-s-test.true) in
    bounds_next g.firsts.now g.points.now g.numbers.now g.left g.right c.requires.0.keyed l.s l.invariant h c.lower_one-s.ensures

pub returns-after-loop-s : goal.returns-after-loop-s
returns-after-loop-s c = let g = c.args in
    let l = c.loop-s in
    bounds_exact g.firsts.now g.points.now g.numbers.now g.left g.right c.requires.0.keyed l.s l.invariant g.room (omega (arith, c.loop-s-test.false))
