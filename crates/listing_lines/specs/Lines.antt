-- What putting a line of the listing asks: its numbers are those of the table, and there is room
-- for it. Assumes nothing.
use Rattle.std.specs.Prelude.{◌≡◌, false, List, [], ℕ, ◌+◌, ◌≤◌, ◌<◌, length, get_or, ℤ}
use Rattle.corners.specs.Corners.{points_of}
use Rattle.table.specs.Table.{table_parts, table_broken, part_count}
use Rattle.listing.specs.Listing.{area_of, total_area, head_line, part_line}
use Rattle.listing_areas.specs.Areas.{Measurable, Listable}

-- the first line
pub record HeadRoom (starts : List ℕ) (corners : List ℤ) (total : ℕ) (out : List ℕ) : Type 0 where
  pub whole : table_broken starts corners ≡ false
  pub sum : total ≡ total_area (table_parts starts corners)
  pub room : length (head_line (table_parts starts corners)) ≤ length out

-- the line of a part: its area is above 0 and at most the total
pub record PartRoom (k : ℕ) (part : List ℤ) (total : ℕ) (out : List ℕ) (at : ℕ) : Type 0 where
  pub measurable : Measurable part
  pub within : area_of (points_of part) ≤ total
  pub some : 0 < total
  pub room : at + length (part_line total k (points_of part)) ≤ length out

-- the line of part k of a table
pub record LineRoom (starts : List ℕ) (corners : List ℤ) (k total : ℕ) (out : List ℕ) (at : ℕ) : Type 0 where
  pub listable : Listable starts corners
  pub inside : k < part_count starts
  pub sum : total ≡ total_area (table_parts starts corners)
  pub room : at + length (part_line total k (get_or (table_parts starts corners) k [])) ≤ length out
