-- `listing_areas::part_area` meets its contract: the invariant is `Fanning` of Wedges. Assumes
-- nothing.
use Rattle.std.proofs.Common.{◌^◌, ◌<◌}
use Rattle.corners.specs.Corners.{points_of}
use Rattle.listing_areas.proofs.Wedges.{Fanning}
use Rattle.listing_areas.proofs.part_area.Given as goal

abbrev pub invariant-loop-i : goal.invariant-loop-i
invariant-loop-i l = (l.total < 2 ^ 64) × Fanning (points_of l.corners) l.total l.i
