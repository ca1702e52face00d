-- What the definitions of the mesh file (listing's `specs/File.antt`) read in the file that a text
-- is turned into. Assumes nothing.
use Rattle.std.specs.Prelude.{◌≡◌, false, List, ℕ, length}
use Rattle.listing.specs.File.{mesh_of, triangle_count, corner_limit, split_number, header_broken}
use Rattle.mesh_text.specs.Text.{limit_of, split_number_of, triangles_of, file_of_text}

-- of a text that has no wrong line
pub record ReadBack (text : List ℕ) : Type 0 where
  pub mesh : mesh_of (file_of_text text) ≡ triangles_of text
  pub count : triangle_count (file_of_text text) ≡ length (triangles_of text)
  pub limit : corner_limit (file_of_text text) ≡ limit_of text
  pub split : split_number (file_of_text text) ≡ split_number_of text
  pub header : header_broken (file_of_text text) ≡ false
