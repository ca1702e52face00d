-- `walk_merge::step_first` meets its contract. Assumes nothing.
use Rattle.pair.specs.declared.ConvexSum.{ConvexSum}
use Rattle.pair.specs.declared.Place.{Place}
use Rattle.walk.proofs.Answers.{few_corners}
use Rattle.walk_merge.proofs.step_first.Goals as goal

-- with this place for the walk's
abbrev put : ConvexSum → Place → ConvexSum
put s w = record { a = w; b = s.b }

pub advance_of-requires : goal.advance_of-requires
advance_of-requires c = rw c.corner_count.ensures (few_corners c.args.left.now c.requires.0, c.requires.1, c.requires.2)
