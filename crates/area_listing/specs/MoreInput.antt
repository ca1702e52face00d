-- Why the area program reads no more than one byte past the longest good file, 20 + 36 · 1,024 =
-- 36,884 bytes ("that more input cannot change the answer is a law"). Assumes nothing.
use Rattle.std.specs.Prelude.{◌≡◌, List, ◌++◌, ℕ, ◌+◌, ◌*◌, length}
use Rattle.mesh.specs.Mesh.{max_triangles}
use Rattle.mesh.specs.Rows.{row_bytes}
use Rattle.listing.specs.Listing.{areas_of}

abbrev pub MoreInput : Type 0
MoreInput = (bytes more : List ℕ) → length bytes ≡ 20 + row_bytes * max_triangles + 1 → areas_of (bytes ++ more) ≡ areas_of bytes
