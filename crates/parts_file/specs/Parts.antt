-- The stored table of a mesh file's split parts, and what the call answers. Assumes nothing.
use Rattle.std.specs.Prelude.{cond, List, ℕ, eqb, length}
use Rattle.table.specs.Table.{starts_of, corners_of}
use Rattle.table.specs.Stored.{stored_of}
use Rattle.table_write.specs.declared.Stored.{Stored}
use Rattle.listing.specs.File.{file_fault, file_parts}

-- "Stored, a table is part count, corner count, starts, corners, each 32 bits, little-endian"
unfoldable pub parts_bytes : List ℕ → List ℕ
parts_bytes bytes = stored_of (starts_of (file_parts bytes)) (corners_of (file_parts bytes))

-- "A refusal returns the number and zero counts": the file's fault, or how many bytes there are
abbrev pub parts_answer : List ℕ → Stored
parts_answer bytes = cond (eqb (file_fault bytes) 0) (record { fault = 0; length = length (parts_bytes bytes) }) (record { fault = file_fault bytes; length = 0 })
