-- The pair job of two mesh files. The input: "one u32 (0 sum, 1 difference), then a left mesh file,
-- then a right mesh file, each as long as its own header's total says". Assumes nothing.
use Rattle.std.specs.Prelude.{◌≡◌, cond, List, [], ◌∷◌, ◌++◌, map, ℕ, ◌/◌, eqb, ltb, length, drop}
use Rattle.integers.specs.Word.{unsigned}
use Rattle.integers.specs.Faults.{first_fault, fault_file}
use Rattle.table.specs.Table.{bounds_list, part_count}
use Rattle.table.specs.Stored.{word_bytes, word_at}
use Rattle.table_write.specs.declared.Stored.{Stored}
use Rattle.text.specs.Text.{refusal}
use Rattle.minkowski.specs.Pairs.{Operand}
use Rattle.pairs_job.specs.Job.{pairs_text}
use Rattle.mesh_pair.specs.Files.{files_fault, left_operand, right_operand}

-- ---- a pair job

-- "four i32 (least x, greatest x, least y, greatest y) and a stored table": "part count, corner
-- count, starts, corners, each 32 bits"
unfoldable pub operand_words : Operand → List ℕ
operand_words o = map unsigned (bounds_list o.bounds) ++ (part_count o.starts ∷ length o.corners / 2 ∷ (o.starts ++ map unsigned o.corners))

-- "one u32 (0 sum, 1 difference); then for the left and then the right operand .."
unfoldable pub job_bytes : ℕ → Operand → Operand → List ℕ
job_bytes op l r = word_bytes (op ∷ (operand_words l ++ operand_words r))

-- ---- that of two mesh files

-- "13 for fewer than 4 bytes or another operation"
unfoldable pub operation_fault : List ℕ → ℕ
operation_fault bytes = first_fault ((fault_file, ltb (length bytes) 4) ∷ (fault_file, ltb 1 (word_at bytes 0)) ∷ [])

-- "then the left file's own numbers; then the right's": the files are the bytes after the operation
unfoldable pub meshes_fault : List ℕ → ℕ
meshes_fault bytes = cond (eqb (operation_fault bytes) 0) (files_fault (drop 4 bytes)) (operation_fault bytes)

unfoldable pub job_of : List ℕ → List ℕ
job_of bytes = job_bytes (word_at bytes 0) (left_operand (drop 4 bytes)) (right_operand (drop 4 bytes))

-- "A refusal returns the number and zero counts": the fault, or how many bytes there are
abbrev pub job_answer : List ℕ → Stored
job_answer bytes = cond (eqb (meshes_fault bytes) 0) (record { fault = 0; length = length (job_of bytes) }) (record { fault = meshes_fault bytes; length = 0 })

-- ---- what is printed: the files' refusal, or what the pairs program prints of the job, which
-- refuses with 10 and 20
unfoldable pub contours_text : List ℕ → List ℕ
contours_text bytes = cond (eqb (meshes_fault bytes) 0) (pairs_text (job_of bytes)) (refusal (meshes_fault bytes))
