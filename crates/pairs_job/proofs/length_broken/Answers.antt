-- `pairs_job::length_broken` meets its contract: a job with a count that is not there, or of
-- another length. Assumes nothing.
use mathlib.Core.Path.{◌∙◌}
use borrow.Author.Tests.{lt-ltb}
use Rattle.pairs_job.proofs.Sizes.{no_left_count, no_right_count, by_counts}
use Rattle.pairs_job.proofs.length_broken.Goals as goal

pub returns-then-bytes-lt28 : goal.returns-then-bytes-lt28
returns-then-bytes-lt28 c = no_left_count _ c.if-bytes-lt28.true

pub returns-then-bytes-right : goal.returns-then-bytes-right
returns-then-bytes-right c = lt-ltb _ _ c.if-bytes-right.true ∙ no_right_count _ c.right_place-right.ensures.place c.if-bytes-right.true

pub returns-else-bytes-right : goal.returns-else-bytes-right
returns-else-bytes-right c = by_counts _ c.right_place-right.ensures.place c.table_size.ensures.size
