-- `table_read::stored_starts_broken` meets its contract. The loop's invariant: the answer for all
-- starts is that for those from i on, after `last`. Assumes nothing.
use mathlib.Core.Path.{sym, ◌∙◌}
use native.Mathlib.Omega.{arith}
use Rattle.table.proofs.StoredForm.{sized}
use Rattle.table_read.proofs.Reading.{starts_not_0, starts_at_0, next_broken, next_passed, last_start}
use Rattle.table_read.proofs.stored_starts_broken.Goals as goal

pub word_at-requires : goal.word_at-requires
word_at-requires c = omega (arith, sized _ c.requires.0)

pub returns-then-word_at-ne0 : goal.returns-then-word_at-ne0
returns-then-word_at-ne0 c = sym (starts_not_0 _ c.requires.0 _ c.word_at.ensures c.if-word_at-ne0.true)

pub loop-i-init : goal.loop-i-init
loop-i-init c = starts_at_0 _ c.requires.0 _ c.word_at.ensures c.if-word_at-ne0.false

pub overflow_add-i-end : goal.overflow_add-i-end
overflow_add-i-end c = omega (arith, sized _ c.requires.0)

pub overflow_add-i : goal.overflow_add-i
overflow_add-i c = omega (arith, sized _ c.requires.0)

pub word_at-next-requires : goal.word_at-next-requires
word_at-next-requires c = omega (arith, sized _ c.requires.0)

pub returns-then-step_broken : goal.returns-then-step_broken
returns-then-step_broken c = sym (c.loop-i.invariant ∙ next_broken _ c.requires.0 _ _ (omega arith) c.word_at-next.ensures c.step_broken.ensures c.if-step_broken.true)

pub loop-i-preserved : goal.loop-i-preserved
loop-i-preserved c = c.loop-i.invariant ∙ next_passed _ c.requires.0 _ _ (omega arith) c.word_at-next.ensures c.step_broken.ensures c.if-step_broken.false

pub returns : goal.returns
returns c = sym (c.loop-i.invariant ∙ last_start _ c.requires.0 _ _ c.loop-i.i (omega arith))
