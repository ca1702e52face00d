-- `listing_lines::put_head` meets its contract: four pieces, one after another. Assumes nothing.
use native.Mathlib.Omega.{arith}
use Rattle.table.proofs.Rules.{sound}
use Rattle.listing_lines.proofs.Putting.{putting_room, putting_step, putting_end}
use Rattle.listing_lines.proofs.Lines.{head_start}
use Rattle.listing_lines.proofs.put_head.Goals as goal

pub overflow_sub-starts : goal.overflow_sub-starts
overflow_sub-starts c = omega (arith, (sound _ _ c.requires.whole).some)

pub put_word_decimal-parts-requires : goal.put_word_decimal-parts-requires
put_word_decimal-parts-requires c = putting_room (head_start c.requires c.corner_count-count.ensures)

pub put_word_decimal-counted-requires : goal.put_word_decimal-counted-requires
put_word_decimal-counted-requires c = putting_room (putting_step (head_start c.requires c.corner_count-count.ensures) c.put_word_decimal-parts.ensures)

pub put_word_decimal-area-requires : goal.put_word_decimal-area-requires
put_word_decimal-area-requires c = putting_room (putting_step (putting_step (head_start c.requires c.corner_count-count.ensures) c.put_word_decimal-parts.ensures) c.put_word_decimal-counted.ensures)

pub put_bytes-requires : goal.put_bytes-requires
put_bytes-requires c = putting_room (putting_step (putting_step (putting_step (head_start c.requires c.corner_count-count.ensures) c.put_word_decimal-parts.ensures) c.put_word_decimal-counted.ensures) c.put_word_decimal-area.ensures)

pub returns : goal.returns
returns c = putting_end (putting_step (putting_step (putting_step (putting_step (head_start c.requires c.corner_count-count.ensures) c.put_word_decimal-parts.ensures) c.put_word_decimal-counted.ensures) c.put_word_decimal-area.ensures) c.put_bytes.ensures)
