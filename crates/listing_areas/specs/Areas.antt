-- Which part tables can be listed (document 01, "The file and its listing"), and sums that wrap.
-- Assumes nothing.
use Rattle.std.specs.Prelude.{◌≡◌, ℕ, ◌^◌, ◌<◌, true, false, List, ℤ, pos, ◌+ℤ◌, ◌*ℤ◌, int_le, int_lt, unsigned_abs}
use Rattle.integers.specs.Lists.{All}
use Rattle.plane.specs.Contour.{contour_area}
use Rattle.corners.specs.Corners.{points_of, off_range}
use Rattle.table.specs.Table.{table_parts, table_broken}
use Rattle.listing.specs.Listing.{total_area}

-- r is z but for whole turns of 2^64
pub record Wraps (z : ℤ) (r : ℕ) : Type 0 where
  pub turns : ℤ
  pub same : pos r ≡ z +ℤ turns *ℤ pos (2 ^ 64)

-- Corners in range whose contour runs counter-clockwise, with a doubled area of 63 bits.
pub record Measurable (corners : List ℤ) : Type 0 where
  pub ranged : off_range corners ≡ false
  pub above : int_le (pos 0) (contour_area (points_of corners)) ≡ true
  pub below : unsigned_abs (contour_area (points_of corners)) < 2 ^ 63

-- A part table by its rules, with corners in range, each part counter-clockwise, and a total
-- doubled area of 63 bits.
pub record Listable (starts : List ℕ) (corners : List ℤ) : Type 0 where
  pub whole : table_broken starts corners ≡ false
  pub ranged : off_range corners ≡ false
  pub above : All (λ p. int_lt (pos 0) (contour_area p) ≡ true) (table_parts starts corners)
  pub below : total_area (table_parts starts corners) < 2 ^ 63
