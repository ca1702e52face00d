-- `table_words::put_word` meets its contract: the four bytes are put in one piece. Assumes nothing.
use mathlib.Core.Path.{◌∙◌, ap}
use Prim.Native.Nat.{◌+◌, ◌*◌, ◌-◌}
use native.Mathlib.Omega.{arith}
use borrow.Rule.Slice.PartMut.{put_mid}
use Rattle.table.specs.Stored.{bytes_of}
use Rattle.table_words.proofs.Places.{put_one}
use Rattle.table_words.proofs.put_word.Goals as goal

pub returns : goal.returns
unfolding bytes_of
returns c = let g = c.args in
    ap (put_mid (4 * g.k) (4 * g.k + 4 - 4 * g.k) g.bytes.now) (c.copy_from_slice.ensures.after ∙ c.to_le_bytes.ensures)
    ∙ put_one g.k g.word g.bytes.now (omega arith)
