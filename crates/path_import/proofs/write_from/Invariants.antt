-- `path_import::write_from` meets its contract: the invariant is `Writing` of path's Turns. Assumes
-- nothing.
use lib.ListN.{take}
use Rattle.path.proofs.Turns.{Writing}
use Rattle.path_import.proofs.write_from.Given as goal

abbrev pub invariant-loop-i : goal.invariant-loop-i
invariant-loop-i l = Writing l.frame (take l.n l.path) l.fn.start l.initial.corners l.at l.i l.corners
