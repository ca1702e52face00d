-- `listing_lines::put_line` meets its contract: the part shown is part k. Assumes nothing.
use Rattle.listing_lines.proofs.Lines.{part_room, part_put}
use Rattle.listing_lines.proofs.put_line.Goals as goal

pub put_part-requires : goal.put_part-requires
put_part-requires c = part_room c.part_of-part.ensures.numbers c.requires

pub returns : goal.returns
returns c = part_put _ _ _ c.part_of-part.ensures.numbers c.requires.inside c.put_part.ensures
