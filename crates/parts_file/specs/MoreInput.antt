-- Why the program `parts` reads no more than one byte past the longest good file, 20 + 36 · 1,024 =
-- 36,884 bytes: the fault of more is the same. Assumes nothing.
use Rattle.std.specs.Prelude.{◌≡◌, List, ◌++◌, ℕ, ◌+◌, ◌*◌, length}
use Rattle.mesh.specs.Mesh.{max_triangles}
use Rattle.mesh.specs.Rows.{row_bytes}
use Rattle.parts_file.specs.Parts.{parts_answer}

abbrev pub MoreInput : Type 0
MoreInput = (bytes more : List ℕ) → length bytes ≡ 20 + row_bytes * max_triangles + 1 → parts_answer (bytes ++ more) ≡ parts_answer bytes
