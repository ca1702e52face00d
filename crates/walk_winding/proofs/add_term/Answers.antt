-- `walk_winding::add_term` meets its contract: a total fits 64 bits where the definition's test
-- holds. Assumes nothing.
use Rattle.walk_winding.proofs.Windings.{added_by}
use Rattle.walk_winding.proofs.add_term.Goals as goal

pub returns : goal.returns
returns c = added_by c.ranges.total c.ranges.term c.checked_add.ensures
