-- `table_read::length_broken` meets its contract: the size of the two counts read. Assumes nothing.
use Rattle.table_read.proofs.Reading.{too_short, by_counts}
use Rattle.table_read.proofs.length_broken.Goals as goal

pub returns-then-bytes-lt-HEADER : goal.returns-then-bytes-lt-HEADER
returns-then-bytes-lt-HEADER c = too_short _ c.if-bytes-lt-HEADER.true

pub returns : goal.returns
returns c = by_counts _ c.if-bytes-lt-HEADER.false c.word_at-parts.ensures c.word_at-count.ensures
