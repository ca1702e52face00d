-- `minkowski_counted::most_of` meets its contract. The loop's invariant: the edges of the pairs
-- before the place are added up. Assumes nothing.
use mathlib.Core.Path.{refl, ◌∙◌}
use Prim.Native.Nat.{◌+◌, ◌*◌, ◌≤◌}
use native.Mathlib.Omega.{arith}
use Rattle.minkowski_counted.proofs.Counting.{summed_start, summed_next, summed_end}
use Rattle.minkowski_counted.proofs.most_of.Goals as goal

pub loop-s-init : goal.loop-s-init
loop-s-init c = let g = c.args in
    summed_start g.firsts.now g.points.now g.numbers.now g.left g.right c.requires.0.keyed

pub loop-s-preserved : goal.loop-s-preserved
loop-s-preserved c = let g = c.args in
    let l = c.loop-s in
    let h : l.s.n + 1 ≤ g.left * g.right = omega (arith, c.loop-s-test.true) in
    summed_next g.firsts.now g.points.now g.numbers.now g.left g.right c.requires.0.keyed l.invariant h (c.edges-e.ensures ∙ c.pair_next-x.ensures.edges) (omega (arith, c.edges-e.ensures, c.pair_next-x.ensures.edges, c.pair_next-x.ensures.short)) refl c.after-s.ensures

pub returns : goal.returns
returns c = let g = c.args in
    let l = c.loop-s in
    summed_end g.firsts.now g.points.now g.numbers.now g.left g.right c.requires.0.keyed l.invariant (omega (arith, c.loop-s-test.false))
