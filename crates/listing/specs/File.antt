-- The mesh file (document 01, "The file and its listing"): "a header of five little-endian u32
-- (total bytes, triangle count, offset of records, corner limit, split: 0 ear, 1 fan, 2 centroid),
-- then records of six i32 (x, y of the three points) and three u32". Assumes nothing.
use Rattle.std.specs.Prelude.{Bool, true, not, cond, List, [], ◌∷◌, ◌++◌, ℕ, zero, suc, ◌+◌, ◌*◌, eqb, ltb, length, get_or, drop}
use Rattle.integers.specs.Faults.{Kind, first_fault, fault_file, fault_triangles}
use Rattle.plane.specs.Plane.{Pt}
use Rattle.mesh.specs.Mesh.{Triangle, Mesh, mesh_kinds, max_triangles}
use Rattle.mesh.specs.Rows.{row_width, row_bytes}
use Rattle.table.specs.Stored.{words_of, word_at, signed}
use Rattle.split.specs.declared.ConvexSplitStrategy.{ConvexSplitStrategy}
use Rattle.split.specs.declared.ConvexSplitStrategy.TheVariants.{EarClipping, Fan, Centroid}
use Rattle.split.specs.Splitting.{split_parts}

-- ---- the header

abbrev pub total_bytes : List ℕ → ℕ
total_bytes bytes = word_at bytes 0

abbrev pub triangle_count : List ℕ → ℕ
triangle_count bytes = word_at bytes 1

abbrev pub record_offset : List ℕ → ℕ
record_offset bytes = word_at bytes 2

abbrev pub corner_limit : List ℕ → ℕ
corner_limit bytes = word_at bytes 3

abbrev pub split_number : List ℕ → ℕ
split_number bytes = word_at bytes 4

-- "split: 0 ear, 1 fan, 2 centroid"
unfoldable pub strategy_of : ℕ → ConvexSplitStrategy
strategy_of zero = EarClipping
strategy_of (suc zero) = Fan
strategy_of (suc (suc n)) = Centroid

-- ---- the records

abbrev pub point_at : List ℕ → ℕ → Pt
point_at words k = record { x = signed (get_or words k 0); y = signed (get_or words (k + 1) 0) }

-- the record whose words begin the list
abbrev pub record_of : List ℕ → Triangle
record_of ws = record { v0 = point_at ws 0; v1 = point_at ws 2; v2 = point_at ws 4; n0 = get_or ws 6 0; n1 = get_or ws 7 0; n2 = get_or ws 8 0 }

-- n records, each as wide as a row
unfoldable pub records_of : ℕ → List ℕ → Mesh
records_of zero ws = []
records_of (suc n) ws = record_of ws ∷ records_of n (drop row_width ws)

unfoldable pub mesh_of : List ℕ → Mesh
mesh_of bytes = records_of (triangle_count bytes) (drop 5 (words_of bytes))

-- its split parts, by its own limit and split
abbrev pub file_parts : List ℕ → List (List Pt)
file_parts bytes = split_parts (strategy_of (split_number bytes)) (corner_limit bytes) (mesh_of bytes)

-- ---- its faults

-- "a wrong offset, split or total, or a total unlike the bytes read, gives 13": "The offset is 20,
-- the total 20 + 36 times the count."
unfoldable pub header_broken : List ℕ → Bool
header_broken bytes =
    cond (eqb (record_offset bytes) 20)
    (cond (ltb 2 (split_number bytes)) true
    (cond (eqb (total_bytes bytes) (20 + row_bytes * triangle_count bytes)) (not (eqb (total_bytes bytes) (length bytes))) true))
    true

-- "Under 20 bytes gives 13; then a count above 1,024 gives 1; then .. 13."
abbrev pub header_kinds : List ℕ → List Kind
header_kinds bytes =
    (fault_file, ltb (length bytes) 20) ∷ (fault_triangles, ltb max_triangles (triangle_count bytes)) ∷ (fault_file, header_broken bytes) ∷ []

-- "The mesh's own order follows."
unfoldable pub file_fault : List ℕ → ℕ
file_fault bytes = first_fault (header_kinds bytes ++ mesh_kinds (mesh_of bytes))
