-- `listing_lines::put_listing` meets its contract. The loop's invariant: after the first line, the
-- lines of the parts before k are put. Assumes nothing.
use Rattle.table.specs.Table.{table_parts}
use Rattle.listing.specs.Listing.{part_lines}
use Rattle.listing_lines.proofs.Putting.{Putting}
use Rattle.listing_lines.proofs.Lines.{lines_from}
use Rattle.listing_lines.proofs.put_listing.Given as goal

abbrev pub invariant-loop-k : goal.invariant-loop-k
invariant-loop-k l = Putting (part_lines l.total 0 (table_parts l.starts l.corners)) l.initial.at l.initial.out (lines_from l.total (table_parts l.starts l.corners) l.k) l.out l.at
