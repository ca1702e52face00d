-- The room that a file with a sound header is split in. Assumes nothing.
use Rattle.std.specs.Prelude.{◌≡◌, List, ℕ, ◌+◌, ◌*◌, ◌≤◌, length, ℤ}
use Rattle.integers.specs.Faults.{first_fault}
use Rattle.mesh.specs.Mesh.{max_triangles}
use Rattle.table.specs.Table.{max_parts}
use Rattle.table.specs.declared.Counts.{Counts}
use Rattle.listing.specs.File.{triangle_count, header_kinds}

-- a sound header, as many rows as it tells, and room for the starts and corners of any split parts
-- (at most six corners of two numbers for each triangle), so that 22 and 21 cannot be
pub record FileRoom (bytes : List ℕ) (rows : List (List ℤ)) (starts : List ℕ) (corners : List ℤ) : Type 0 where
  pub header : first_fault (header_kinds bytes) ≡ 0
  pub for_rows : length rows ≡ triangle_count bytes
  pub for_starts : length starts ≡ max_parts + 1
  pub for_corners : length corners ≡ 12 * max_triangles

-- the starts and numbers that counts tell of are there
pub record Within (r : Counts) (starts : List ℕ) (corners : List ℤ) : Type 0 where
  pub starts_in : r.parts + 1 ≤ length starts
  pub corners_in : 2 * r.corners ≤ length corners
