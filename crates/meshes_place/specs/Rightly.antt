-- What is printed of a place and two mesh files is so (`PlacedRightly`); proved in proofs/. Assumes
-- nothing.
use Rattle.std.specs.Prelude.{◌≡◌, List, ℕ}
use Rattle.listing.specs.File.{mesh_of}
use Rattle.mesh_pair.specs.Files.{left_file, right_file}
use Rattle.placement_meshes.specs.Rightly.{Rightly}
use Rattle.meshes_place.specs.Placed.{place_of, files_of, placed_fault, contact_of, contact_text, placed_text}

-- overlapping exactly where the right mesh, moved by the place, overlaps the left one, touching
-- exactly where they meet and do not overlap, apart else
pub record PlacedRight (bytes : List ℕ) : Type 0 where
  pub text : placed_text bytes ≡ contact_text (contact_of bytes)
  pub rightly : Rightly (contact_of bytes) (mesh_of (left_file (files_of bytes))) (mesh_of (right_file (files_of bytes))) (place_of bytes)

-- of any bytes that are not refused
abbrev pub PlacedRightly : Type 0
PlacedRightly = (bytes : List ℕ) → placed_fault bytes ≡ 0 → PlacedRight bytes
