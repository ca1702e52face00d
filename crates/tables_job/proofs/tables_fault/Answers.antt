-- `tables_job::tables_fault` meets its contract: the kinds in their order. Assumes nothing.
use mathlib.Core.Path.{sym, ◌∙◌}
use native.Mathlib.Omega.{arith}
use Rattle.tables_job.proofs.Making.{left_in, right_in, too_short, other_operation, other_length, left_broken, right_broken, good_tables}
use Rattle.tables_job.proofs.tables_fault.Goals as goal

pub returns-then-bytes-lt-WORD : goal.returns-then-bytes-lt-WORD
returns-then-bytes-lt-WORD c = too_short _ c.if-bytes-lt-WORD.true

pub returns-then-word_at-gt-DIFFERENCE : goal.returns-then-word_at-gt-DIFFERENCE
returns-then-word_at-gt-DIFFERENCE c = other_operation _ c.if-bytes-lt-WORD.false c.word_at.ensures c.if-word_at-gt-DIFFERENCE.true

pub returns-then-length_broken : goal.returns-then-length_broken
returns-then-length_broken c = other_length _ c.if-bytes-lt-WORD.false c.word_at.ensures c.if-word_at-gt-DIFFERENCE.false (sym c.length_broken.ensures ∙ c.if-length_broken.true)

pub broken_at-requires : goal.broken_at-requires
broken_at-requires c = left_in _ (sym c.length_broken.ensures ∙ c.if-length_broken.false)

pub returns-then-broken_at : goal.returns-then-broken_at
returns-then-broken_at c = left_broken _ c.if-bytes-lt-WORD.false c.word_at.ensures c.if-word_at-gt-DIFFERENCE.false (sym c.length_broken.ensures ∙ c.if-length_broken.false) (sym c.broken_at.ensures ∙ c.if-broken_at.true)

pub table_size-requires : goal.table_size-requires
table_size-requires c = omega (arith, left_in _ (sym c.length_broken.ensures ∙ c.if-length_broken.false))

pub broken_at-requires-2 : goal.broken_at-requires-2
broken_at-requires-2 c = right_in _ (sym c.length_broken.ensures ∙ c.if-length_broken.false) c.table_size.ensures.size

pub returns-then-broken_at-2 : goal.returns-then-broken_at-2
returns-then-broken_at-2 c = right_broken _ c.if-bytes-lt-WORD.false c.word_at.ensures c.if-word_at-gt-DIFFERENCE.false (sym c.length_broken.ensures ∙ c.if-length_broken.false) (sym c.broken_at.ensures ∙ c.if-broken_at.false) c.table_size.ensures.size (sym c.broken_at-2.ensures ∙ c.if-broken_at-2.true)

pub returns : goal.returns
returns c = good_tables _ c.if-bytes-lt-WORD.false c.word_at.ensures c.if-word_at-gt-DIFFERENCE.false (sym c.length_broken.ensures ∙ c.if-length_broken.false) (sym c.broken_at.ensures ∙ c.if-broken_at.false) c.table_size.ensures.size (sym c.broken_at-2.ensures ∙ c.if-broken_at-2.false)
