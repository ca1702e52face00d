-- `pairs_place::placed_pair` meets its contract: the merge of left walk p and right walk q on the
-- front of the work buffer. Assumes nothing.
use mathlib.Core.Path.{refl, ◌∙◌, ap}
use Rattle.plane.specs.Machine.{point}
use Rattle.corners.specs.Corners.{points_of, off_range}
use Rattle.placement.specs.Placement.{contact_in}
use Rattle.pair_lines.proofs.Pairs.{merged_front}
use Rattle.pairs_place.proofs.Pairs.{front_range, front_fits}
use Rattle.pairs_place.proofs.placed_pair.Goals as goal

pub front-requires : goal.front-requires
front-requires c = front_fits c.requires.0 refl c.merge_pair-count.ensures

pub placed_in-requires : goal.placed_in-requires
placed_in-requires c = (ap off_range c.front.ensures.numbers ∙ front_range c.merge_pair-count.ensures c.requires.0.grid, c.requires.1)

pub returns : goal.returns
returns c = let e = ap points_of c.front.ensures.numbers ∙ merged_front c.merge_pair-count.ensures in
    c.placed_in.ensures ∙ ap (contact_in (point c.args.z)) e
