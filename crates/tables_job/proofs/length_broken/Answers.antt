-- `tables_job::length_broken` meets its contract. Assumes nothing.
use mathlib.Core.Path.{◌∙◌}
use borrow.Author.Tests.{lt-ltb}
use Rattle.tables_job.proofs.Making.{no_left, no_right, by_counts}
use Rattle.tables_job.proofs.length_broken.Goals as goal

pub returns-then-bytes : goal.returns-then-bytes
returns-then-bytes c = no_left _ c.if-bytes.true

pub returns-then-bytes-right : goal.returns-then-bytes-right
returns-then-bytes-right c = lt-ltb _ _ c.if-bytes-right.true ∙ no_right _ c.table_size-right.ensures.size c.if-bytes-right.true

pub returns-else-bytes-right : goal.returns-else-bytes-right
returns-else-bytes-right c = by_counts _ c.table_size-right.ensures.size c.table_size.ensures.size
