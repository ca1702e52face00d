-- `text::put_refusal` meets its contract: three pieces, one after another. Assumes nothing.
use native.Mathlib.Omega.{arith}
use Rattle.text.proofs.Refusals.{refusal_length, refusal_pieces}
use Rattle.text.proofs.put_refusal.Goals as goal

pub put_bytes-word-requires : goal.put_bytes-word-requires
put_bytes-word-requires c = omega (arith, refusal_length c.args.fault)

pub put_decimal-number-requires : goal.put_decimal-number-requires
put_decimal-number-requires c = omega (arith, refusal_length c.args.fault, c.put_bytes-word.ensures.after)

pub put_bytes-requires : goal.put_bytes-requires
put_bytes-requires c = omega (arith, refusal_length c.args.fault, c.put_bytes-word.ensures.after, c.put_decimal-number.ensures.after)

pub returns : goal.returns
returns c = refusal_pieces c.args.fault c.requires c.put_bytes-word.ensures c.put_decimal-number.ensures c.put_bytes.ensures
