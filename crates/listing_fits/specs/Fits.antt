-- The listing of any file: how long it is at the most, and that its parts can be listed (document
-- 01, "The file and its listing"). Assumes nothing.
use Rattle.std.specs.Prelude.{◌≡◌, List, ℕ, ◌+◌, ◌*◌, ◌≤◌, length}
use Rattle.mesh.specs.Mesh.{max_triangles}
use Rattle.table.specs.Table.{max_parts, starts_of, corners_of, table_parts}
use Rattle.listing.specs.File.{file_fault, file_parts}
use Rattle.listing.specs.Listing.{listing_of, areas_of}
use Rattle.listing_areas.specs.Areas.{Listable}

-- the bytes of the longest listing: 50 of the first line, 36 of each part's line beside its
-- corners, 26 of each corner; there are at most six corners to a triangle of the mesh
abbrev pub listing_room : ℕ
listing_room = 50 + 36 * max_parts + 26 * (6 * max_triangles)

abbrev pub ListingFits : Type 0
ListingFits = (bytes : List ℕ) → length (areas_of bytes) ≤ listing_room

-- the table of a file's split parts can be listed, and its listing is what the program prints
pub record FileListed (bytes : List ℕ) : Type 0 where
  pub listable : Listable (starts_of (file_parts bytes)) (corners_of (file_parts bytes))
  pub text : areas_of bytes ≡ listing_of (table_parts (starts_of (file_parts bytes)) (corners_of (file_parts bytes)))

abbrev pub FileListable : Type 0
FileListable = (bytes : List ℕ) → file_fault bytes ≡ 0 → FileListed bytes
