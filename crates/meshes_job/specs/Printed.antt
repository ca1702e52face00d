-- What the contours program prints, of the two files themselves: their job, read as the pairs
-- program reads it, is the operation and the two files' operands (`JobReadBack`), so it prints the
-- pairs of those, or one of ten refusals (`ContoursPrinted`, `RefusedByNumber`). Proved in proofs/.
-- Assumes nothing.
use Rattle.std.specs.Prelude.{◌≡◌, Bool, cond, ◌⊎◌, ℕ, eqb, length, drop}
use mathlib.Core.List.{List, [], ◌∷◌, ◌++◌, flatten}
use Rattle.integers.specs.Lists.{Any}
use Rattle.integers.specs.Faults.{first_fault, fault_triangles, fault_range, fault_stray, fault_naming, fault_edge, fault_flat, fault_total, fault_file, fault_result, fault_empty}
use Rattle.table.specs.Table.{bounds_list, part_count}
use Rattle.corners.specs.Corners.{off_range}
use Rattle.text.specs.Text.{refusal}
use Rattle.minkowski.specs.Pairs.{Operand, operand_parts, pair_contours, result_bounds}
use Rattle.pair_lines.specs.Lines.{pairs_head, pair_lines}
use Rattle.pairs_job.specs.Job.{reflected_of, left_of, right_of, job_fault}
use Rattle.mesh_pair.specs.Files.{left_operand, right_operand}
use Rattle.meshes_job.specs.Job.{meshes_fault, job_of, contours_text}

-- ---- the job read back

-- 10 and 20: all that two accepted files' operands can be refused for
unfoldable pub result_fault : Bool → Operand → Operand → ℕ
result_fault reflected l r =
    first_fault ((fault_result, off_range (bounds_list (result_bounds reflected l.bounds r.bounds))) ∷ (fault_empty, eqb (part_count l.starts) 0) ∷ (fault_empty, eqb (part_count r.starts) 0) ∷ [])

pub record ReadBack (bytes : List ℕ) : Type 0 where
  pub operation : reflected_of (job_of bytes) ≡ reflected_of bytes
  pub left : left_of (job_of bytes) ≡ left_operand (drop 4 bytes)
  pub right : right_of (job_of bytes) ≡ right_operand (drop 4 bytes)
  pub fault : job_fault (job_of bytes) ≡ result_fault (reflected_of bytes) (left_operand (drop 4 bytes)) (right_operand (drop 4 bytes))

abbrev pub JobReadBack : Type 0
JobReadBack = (bytes : List ℕ) → meshes_fault bytes ≡ 0 → ReadBack bytes

-- ---- what is printed

-- "the left file's own numbers; then the right's", then 10 and 20
unfoldable pub contours_fault : List ℕ → ℕ
contours_fault bytes = cond (eqb (meshes_fault bytes) 0) (result_fault (reflected_of bytes) (left_operand (drop 4 bytes)) (right_operand (drop 4 bytes))) (meshes_fault bytes)

-- the head line, then one line a pair
unfoldable pub printed_of : Bool → Operand → Operand → List ℕ
printed_of reflected l r =
    pairs_head (length (pair_contours reflected l r)) (length (flatten (pair_contours reflected l r))) (result_bounds reflected l.bounds r.bounds)
    ++ pair_lines reflected (operand_parts l) (operand_parts r)

abbrev pub ContoursPrinted : Type 0
ContoursPrinted =
    (bytes : List ℕ) →
    contours_text bytes
    ≡ cond (eqb (contours_fault bytes) 0) (printed_of (reflected_of bytes) (left_operand (drop 4 bytes)) (right_operand (drop 4 bytes))) (refusal (contours_fault bytes))

-- a file's own, then the pair's: 7, 9, 8, 22, 21 and 2 of an operand cannot come
abbrev pub refusal_numbers : List ℕ
refusal_numbers =
    fault_file ∷ fault_triangles ∷ fault_range ∷ fault_stray ∷ fault_naming ∷ fault_edge ∷ fault_flat ∷ fault_total ∷ fault_result ∷ fault_empty ∷ []

abbrev pub RefusedByNumber : Type 0
RefusedByNumber = (bytes : List ℕ) → (contours_fault bytes ≡ 0) ⊎ Any (λ n. contours_fault bytes ≡ n) refusal_numbers
