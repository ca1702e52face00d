-- `listing_lines::put_part` meets its contract: six pieces, one after another. Assumes nothing.
use Rattle.listing_lines.proofs.Putting.{putting_room, putting_step, putting_end}
use Rattle.listing_lines.proofs.Lines.{part_start}
use Rattle.listing_lines.proofs.put_part.Goals as goal

pub put_decimal-number-requires : goal.put_decimal-number-requires
put_decimal-number-requires c = putting_room (part_start c.requires c.corner_count-count.ensures c.part_area-area.ensures c.share-share.ensures)

pub put_word_decimal-counted-requires : goal.put_word_decimal-counted-requires
put_word_decimal-counted-requires c = putting_room (putting_step (part_start c.requires c.corner_count-count.ensures c.part_area-area.ensures c.share-share.ensures) c.put_decimal-number.ensures)

pub put_word_decimal-size-requires : goal.put_word_decimal-size-requires
put_word_decimal-size-requires c = putting_room
    (putting_step (putting_step (part_start c.requires c.corner_count-count.ensures c.part_area-area.ensures c.share-share.ensures) c.put_decimal-number.ensures) c.put_word_decimal-counted.ensures)

pub put_word_decimal-shown-requires : goal.put_word_decimal-shown-requires
put_word_decimal-shown-requires c = putting_room
    (putting_step
    (putting_step (putting_step (part_start c.requires c.corner_count-count.ensures c.part_area-area.ensures c.share-share.ensures) c.put_decimal-number.ensures) c.put_word_decimal-counted.ensures)
    c.put_word_decimal-size.ensures)

pub put_corners-last-requires : goal.put_corners-last-requires
put_corners-last-requires c = putting_room
    (putting_step
    (putting_step
    (putting_step (putting_step (part_start c.requires c.corner_count-count.ensures c.part_area-area.ensures c.share-share.ensures) c.put_decimal-number.ensures) c.put_word_decimal-counted.ensures)
    c.put_word_decimal-size.ensures)
    c.put_word_decimal-shown.ensures)

pub put_bytes-requires : goal.put_bytes-requires
put_bytes-requires c = putting_room
    (putting_step
    (putting_step
    (putting_step
    (putting_step (putting_step (part_start c.requires c.corner_count-count.ensures c.part_area-area.ensures c.share-share.ensures) c.put_decimal-number.ensures) c.put_word_decimal-counted.ensures)
    c.put_word_decimal-size.ensures)
    c.put_word_decimal-shown.ensures)
    c.put_corners-last.ensures)

pub returns : goal.returns
returns c = putting_end
    (putting_step
    (putting_step
    (putting_step
    (putting_step
    (putting_step (putting_step (part_start c.requires c.corner_count-count.ensures c.part_area-area.ensures c.share-share.ensures) c.put_decimal-number.ensures) c.put_word_decimal-counted.ensures)
    c.put_word_decimal-size.ensures)
    c.put_word_decimal-shown.ensures)
    c.put_corners-last.ensures)
    c.put_bytes.ensures)
