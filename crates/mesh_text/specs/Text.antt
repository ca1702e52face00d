-- A mesh written by hand ("a first line `limit 0 ear` and then one line a triangle (three points,
-- three neighbours or `none`) .. with a refusal that names the line where the text is wrong").
-- Assumes nothing.
use Rattle.std.specs.Prelude.{Bool, false, cond, ℕ, ◌+◌, ◌*◌, eqb, ltb, length, get_or, drop}
use mathlib.Core.List.{List, [], ◌∷◌, map, flatten}
use Rattle.mesh.specs.Mesh.{Mesh, max_triangles}
use Rattle.table.specs.Stored.{word_bytes}
use Rattle.mesh.specs.Rows.{row_bytes}
use Rattle.fields.specs.Fields.{lines_of, field_of}
use Rattle.mesh_fields.specs.Entries.{number_or_none, split_of}
use Rattle.mesh_lines.specs.Lines.{is_passed_over, is_head, head_words, is_triangle, triangle_of, triangle_words}

-- ---- its lines

-- where a text begins: behind the byte-order mark EF BB BF that some editors put first
unfoldable pub mark_end : List ℕ → ℕ
mark_end text =
    cond (ltb (length text) 3) 0
    (cond (eqb (get_or text 0 0) 239) (cond (eqb (get_or text 1 0) 187) (cond (eqb (get_or text 2 0) 191) 3 0) 0) 0)

abbrev pub lines_in : List ℕ → List (List ℕ)
lines_in text = lines_of (drop (mark_end text) text)

-- ---- the wrong line

-- a text may have one triangle more than a mesh: its file is refused with 1, so that this fault can
-- be written by hand too
abbrev pub max_written : ℕ
max_written = max_triangles + 1

-- the lines that say something: the first, and one a triangle
abbrev pub max_telling : ℕ
max_telling = max_written + 1

-- whether a line may stand behind k that say something: the first line behind none, then so many
-- triangles
unfoldable pub fits : ℕ → List ℕ → Bool
fits k l = cond (eqb k 0) (is_head l) (cond (ltb max_written k) false (is_triangle l))

-- the number of the first line that is wrong, 0 for none, of lines behind n others of which k said
-- something; without a first line it is the one behind the last
unfoldable pub wrong_from : ℕ → ℕ → List (List ℕ) → ℕ
wrong_from k n [] = cond (eqb k 0) (n + 1) 0
wrong_from k n (l ∷ ls) = cond (is_passed_over l) (wrong_from k (n + 1) ls) (cond (fits k l) (wrong_from (k + 1) (n + 1) ls) (n + 1))

abbrev pub wrong_line : List ℕ → ℕ
wrong_line text = wrong_from 0 0 (lines_in text)

-- ---- what the text says

-- the lines that say something
unfoldable pub telling : List (List ℕ) → List (List ℕ)
telling [] = []
telling (l ∷ ls) = cond (is_passed_over l) (telling ls) (l ∷ telling ls)

abbrev pub first_line : List ℕ → List ℕ
first_line text = get_or (telling (lines_in text)) 0 []

abbrev pub limit_of : List ℕ → ℕ
limit_of text = number_or_none (field_of 1 (first_line text))

abbrev pub split_number_of : List ℕ → ℕ
split_number_of text = split_of (field_of 2 (first_line text))

abbrev pub triangles_of : List ℕ → Mesh
triangles_of text = map triangle_of (drop 1 (telling (lines_in text)))

-- ---- the file

-- the bytes of the longest file, a header and the records
abbrev pub file_room : ℕ
file_room = 20 + row_bytes * max_written

-- "a header of five little-endian u32 (total bytes, triangle count, offset of records, corner
-- limit, split ..), then records of six i32 .. and three u32"
unfoldable pub file_of : ℕ → ℕ → Mesh → List ℕ
file_of limit split mesh = word_bytes ((20 + row_bytes * length mesh) ∷ length mesh ∷ 20 ∷ limit ∷ split ∷ flatten (map triangle_words mesh))

abbrev pub file_of_text : List ℕ → List ℕ
file_of_text text = file_of (limit_of text) (split_number_of text) (triangles_of text)

-- the words that a line behind k others gives it
unfoldable pub line_words : ℕ → List ℕ → List ℕ
line_words k l = cond (eqb k 0) (head_words l) (triangle_words (triangle_of l))
