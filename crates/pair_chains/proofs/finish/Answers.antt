-- `pair_chains::finish` meets its contract. The loop's invariant: where the lane stands. Assumes
-- nothing.
use mathlib.Core.Path.{sym, ◌∙◌}
use Prim.Native.Nat.{◌+◌}
use borrow.Author.Tests.{ltb-true, ltb-false}
use Rattle.pair_chains.proofs.Chains.{runs_next, stands_room, stands_next, stands_end}
use Rattle.pair_chains.proofs.finish.Goals as goal

pub step-a-requires : goal.step-a-requires
step-a-requires c = let l = c.loop-out in
    let h = ltb-true (l.a.i + l.a.j) c.args.end (sym c.going.ensures ∙ c.loop-out-test.true) in
    let n = runs_next c.args.numbers.now c.args.end l.invariant.runs h in
    (c.requires.0, n.left, n.right, stands_room c.args.points.now c.args.numbers.now c.args.end l.invariant h c.requires.2)

pub loop-out-preserved : goal.loop-out-preserved
loop-out-preserved c = let l = c.loop-out in
    let h = ltb-true (l.a.i + l.a.j) c.args.end (sym c.going.ensures ∙ c.loop-out-test.true) in
    stands_next c.args.points.now c.args.numbers.now c.args.end l.invariant h c.step-a.ensures.places c.step-a.ensures.corner

pub returns : goal.returns
returns c = let l = c.loop-out in
    stands_end c.args.points.now c.args.numbers.now c.args.end l.invariant (ltb-false (l.a.i + l.a.j) c.args.end (sym c.going.ensures ∙ c.loop-out-test.false))
