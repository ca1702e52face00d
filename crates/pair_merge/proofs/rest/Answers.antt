-- `pair_merge::rest` meets its contract. The loop's invariant: what is still to come is the rest
-- from point p on. Assumes nothing.
use native.Mathlib.Omega.{arith}
use Rattle.pair_merge.proofs.Merging.{rest_room, rest_turn, rest_end}
use Rattle.pair_merge.proofs.rest.Goals as goal

pub put_sum-requires : goal.put_sum-requires
put_sum-requires c = let l = c.loop-p in
    (omega arith, c.requires.1, c.requires.2, c.requires.3, rest_room c.args.a.now c.args.b.now l.p c.args.j (omega arith) l.invariant c.requires.4)

pub loop-p-preserved : goal.loop-p-preserved
loop-p-preserved c = let l = c.loop-p in
    rest_turn c.args.a.now c.args.b.now l.p c.args.j (omega arith) l.invariant c.put_sum.ensures

pub returns : goal.returns
returns c = let l = c.loop-p in
    rest_end c.args.a.now c.args.b.now l.p c.args.j (omega arith) l.invariant
