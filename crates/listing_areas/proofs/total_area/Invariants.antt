-- `listing_areas::total_area` meets its contract. The loop's invariant: the areas added and those
-- of the parts left make the total. Assumes nothing.
use Rattle.std.proofs.Common.{◌≡◌, ◌+◌, drop}
use Rattle.table.specs.Table.{table_parts}
use Rattle.listing.specs.Listing.{total_area}
use Rattle.listing_areas.proofs.total_area.Given as goal

abbrev pub invariant-loop-k : goal.invariant-loop-k
invariant-loop-k l = l.total + total_area (drop l.k (table_parts l.starts l.corners)) ≡ total_area (table_parts l.starts l.corners)
