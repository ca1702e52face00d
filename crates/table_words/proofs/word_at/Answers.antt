-- `table_words::word_at` meets its contract: the word of the four bytes. Assumes nothing.
use mathlib.Core.Path.{◌≡◌, ◌∙◌, sym}
use Prim.Native.Nat.{ℕ, ◌+◌, ◌*◌}
use native.Mathlib.Omega.{arith}
use Rattle.table.specs.Stored.{word_of}
use Rattle.table.proofs.Words.{words_at}
use Rattle.table_words.proofs.word_at.Goals as goal

low_first : (a b c d : ℕ) → a + b * 256 + c * 65536 + d * 16777216 ≡ word_of a b c d
unfolding word_of
low_first a b c d = omega arith

pub returns : goal.returns
returns c = c.from_le_bytes.ensures ∙ low_first _ _ _ _ ∙ sym (words_at _ _ c.requires)
