-- `table_read::stored_off_range` meets its contract. The loop's invariant: the answer is that for
-- the words from i on. Assumes nothing.
use mathlib.Core.Path.{sym, ◌∙◌, ap}
use mir.Syntax.{w32}
use Rattle.integers.proofs.Bits.{got}
use Rattle.table.specs.Stored.{signed}
use Rattle.table_read.proofs.Reading.{found, passed, none_found}
use Rattle.table_read.proofs.stored_off_range.Goals as goal

pub returns-then-not-in_range : goal.returns-then-not-in_range
returns-then-not-in_range c = sym (c.loop-i.invariant ∙ found _ c.loop-i-test.true (got w32 _ c.signed_word-z.type_inv ∙ c.signed_word-z.ensures ∙ ap signed c.word_at.ensures) c.in_range.ensures c.if-not-in_range.true)

pub loop-i-preserved : goal.loop-i-preserved
loop-i-preserved c = c.loop-i.invariant ∙ passed _ c.loop-i-test.true (got w32 _ c.signed_word-z.type_inv ∙ c.signed_word-z.ensures ∙ ap signed c.word_at.ensures) c.in_range.ensures c.if-not-in_range.false

pub returns : goal.returns
returns c = sym (c.loop-i.invariant ∙ none_found _ c.loop-i-test.false)
