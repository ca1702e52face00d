-- `text::put_word_decimal` meets its contract. Assumes nothing.
use native.Mathlib.Omega.{arith}
use Rattle.text.proofs.Puts.{put_after_lem}
use Rattle.text.proofs.put_word_decimal.Goals as goal

pub returns : goal.returns
returns c = put_after_lem (omega arith) c.put_bytes-after.ensures c.put_decimal.ensures
