-- `commands::tell_refused` is safe: a refusal has at most 29 bytes. Assumes nothing.
use native.Mathlib.Omega.{arith}
use borrow.Author.Rules.{rules}
use Rattle.text.proofs.Sizes.{decimal_size}
use Rattle.text.proofs.Refusals.{refusal_length}
use Rattle.text.proofs.Puts.{put_within}
use Rattle.commands.proofs.tell_refused.Goals as goal

pub put_refusal-n-requires : goal.put_refusal-n-requires
put_refusal-n-requires c = let n = c.args.fault in
    omega (arith, refusal_length n, decimal_size n)

pub slice_bounds-said-end : goal.slice_bounds-said-end
slice_bounds-said-end c = let n = c.args.fault in
    (put_within c.put_refusal-n.ensures (omega (arith, refusal_length n, decimal_size n))).0

pub slice_bounds-write_all-end : goal.slice_bounds-write_all-end
slice_bounds-write_all-end c = let n = c.args.fault in
    (put_within c.put_refusal-n.ensures (omega (arith, refusal_length n, decimal_size n))).1
