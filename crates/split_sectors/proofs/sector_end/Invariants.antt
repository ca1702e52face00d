-- `split_sectors::sector_end` meets its contract: the part reaches corner end, and ends where it
-- would from there. Assumes nothing.
use mathlib.Core.Path.{◌≡◌}
use Prim.Native.Nat.{◌+◌, ◌-◌, ◌≤◌}
use lib.ListN.{drop}
use Rattle.plane.specs.Machine.{point}
use Rattle.split.specs.Splitting.{edges_taken}
use Rattle.split_sectors.specs.Arcs.{closed_of}
use Rattle.split_sectors.proofs.Turns.{end_from}
use Rattle.split_sectors.proofs.sector_end.Given as goal

abbrev pub invariant-loop-end : goal.invariant-loop-end
invariant-loop-end l = (l.end ≤ l.target) × (end_from (point l.centre) (closed_of l.contour) l.target (point l.a) l.end ≡ l.start + edges_taken (point l.centre) (l.target - l.start) (drop l.start (closed_of l.contour)))

abbrev pub decreases-loop-end : goal.decreases-loop-end
decreases-loop-end l = l.target - l.end
