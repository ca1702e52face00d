-- `refusal_print::print_refusal` is safe: any refusal fits. Assumes nothing.
use native.Mathlib.Omega.{arith}
use Rattle.text.proofs.Sizes.{decimal_size}
use Rattle.text.proofs.Puts.{put_within}
use Rattle.text.proofs.Refusals.{refusal_length}
use borrow.Author.Rules.{rules}
use Rattle.refusal_print.proofs.print_refusal.Goals as goal

pub put_refusal-length-requires : goal.put_refusal-length-requires
put_refusal-length-requires g c = let f = c.args.fault in omega (arith, refusal_length f, decimal_size f)

pub slice_bounds-line-end : goal.slice_bounds-line-end
slice_bounds-line-end g c = let f = c.args.fault in (put_within c.put_refusal-length.ensures (omega (arith, refusal_length f, decimal_size f))).0

pub slice_bounds-write_output-end : goal.slice_bounds-write_output-end
slice_bounds-write_output-end g c = let f = c.args.fault in (put_within c.put_refusal-length.ensures (omega (arith, refusal_length f, decimal_size f))).1
