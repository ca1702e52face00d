-- `pair_chains::count_on` meets its contract. The loop's invariant: what is counted and what is
-- still to be counted is the whole. Assumes nothing.
use mathlib.Core.Path.{sym, ◌∙◌}
use Prim.Native.Nat.{◌+◌}
use lib.ListN.{length}
use Rattle.pair_chains.specs.Chains.{chain}
use Rattle.pair_chains.proofs.Lanes.{counting_turn, counting_next, counting_end}
use Rattle.pair_chains.proofs.count_on.Goals as goal

pub step_on-a-requires : goal.step_on-a-requires
step_on-a-requires c = let l = c.loop-a in
    let n = c.args.numbers.now in
    let w = c.args.s.k + length (chain n c.args.end c.args.s.i c.args.s.j) in
    counting_turn c.requires.0 c.requires.2 l.invariant (sym c.going.ensures ∙ c.loop-a-test.true)

pub loop-a-preserved : goal.loop-a-preserved
loop-a-preserved c = let l = c.loop-a in
    let n = c.args.numbers.now in
    let w = c.args.s.k + length (chain n c.args.end c.args.s.i c.args.s.j) in
    counting_next c.requires.0 c.requires.2 l.invariant (sym c.going.ensures ∙ c.loop-a-test.true) c.step_on-a.ensures

pub returns : goal.returns
returns c = let l = c.loop-a in
    let n = c.args.numbers.now in
    let w = c.args.s.k + length (chain n c.args.end c.args.s.i c.args.s.j) in
    counting_end c.requires.0 c.requires.2 l.invariant (sym c.going.ensures ∙ c.loop-a-test.false)
