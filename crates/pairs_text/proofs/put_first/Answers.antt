-- `pairs_text::put_first` meets its contract: the refusal, or the head line with its corners
-- counted. Assumes nothing.
use Prim.Native.Nat.{◌*◌}
use native.Mathlib.Omega.{arith}
use Rattle.text.proofs.Puts.{put_as}
use Rattle.pairs_text.proofs.Fitting.{first_refused, first_head}
use Rattle.pairs_text.proofs.Sizes.{refusal_any, head_any}
use Rattle.pairs_text.proofs.put_first.Goals as goal

pub put_refusal-requires : goal.put_refusal-requires
put_refusal-requires c = omega (arith, refusal_any c.args.begun.fault, c.requires.1)

pub returns-then-fault-ne0 : goal.returns-then-fault-ne0
returns-then-fault-ne0 c = let g = c.args in
    put_as (first_refused g.begun g.firsts.now g.points.now c.if-fault-ne0.true) c.put_refusal.ensures

pub put_head-requires : goal.put_head-requires
put_head-requires c = let x = c.args.begun in
    omega (arith, head_any (x.left * x.right) c.count_keyed-corners.result x.bounds, c.requires.1)

pub returns : goal.returns
returns c = let g = c.args in
    put_as (first_head g.begun g.firsts.now g.points.now c.if-fault-ne0.false c.count_keyed-corners.ensures) c.put_head.ensures
