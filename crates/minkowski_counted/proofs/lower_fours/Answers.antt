-- `minkowski_counted::lower_fours` meets its contract. The loop's invariant: the bound at the
-- place. Assumes nothing.
use Prim.Native.Nat.{◌+◌, ◌*◌, ◌≤◌}
use native.Mathlib.Omega.{arith}
use Rattle.minkowski_counted.proofs.Counting.{bounds_start, bounds_four_edges, bounds_four}
use Rattle.minkowski_counted.proofs.lower_fours.Goals as goal

pub loop-s-init : goal.loop-s-init
loop-s-init c = let g = c.args in
    bounds_start g.firsts.now g.points.now g.numbers.now g.left g.right c.requires.0.keyed c.most_of.ensures

pub lower_four-s-requires : goal.lower_four-s-requires
lower_four-s-requires c = let g = c.args in
    let l = c.loop-s in
    let h : l.s.n + 4 ≤ g.left * g.right = omega (arith, c.loop-s-test.true) in
    (c.requires.0, record { order = l.invariant.order; some = h; few = omega (arith, c.requires.1) }, bounds_four_edges g.firsts.now g.points.now g.numbers.now g.left g.right c.requires.0.keyed l.s l.invariant h)

pub loop-s-preserved : goal.loop-s-preserved
loop-s-preserved c = let g = c.args in
    let l = c.loop-s in
    let h : l.s.n + 4 ≤ g.left * g.right = omega (arith, c.loop-s-test.true) in
    bounds_four g.firsts.now g.points.now g.numbers.now g.left g.right c.requires.0.keyed l.s l.invariant h c.lower_four-s.ensures
