-- `text::put_word_signed` meets its contract. Assumes nothing.
use mathlib.Core.Path.{ap}
use mathlib.Core.List.{◌++◌}
use native.Mathlib.Omega.{arith}
use Rattle.integers.proofs.Bits.{kept}
use Rattle.text.specs.Text.{signed_decimal}
use Rattle.text.proofs.Puts.{put_after_lem, put_as}
use Rattle.text.proofs.put_word_signed.Goals as goal

pub returns : goal.returns
returns c = put_as (ap (λ z. c.args.word.now ++ signed_decimal z) (kept c.ranges.n)) (put_after_lem (omega arith) c.put_bytes-after.ensures c.put_signed.ensures)
