-- What a job of two stored tables is, read as the pairs program reads it: the operation, and either
-- table with the bounds of its corners (`JobReadBack`). The bounds hold the corners (`BoundsHold`),
-- and the tables' rules were judged before, so 7 and 9 cannot come: 2, 8, 10 and 20 can. Proved in
-- proofs/. Assumes nothing.
use Rattle.std.specs.Prelude.{◌≡◌, Bool, true, false, List, [], ◌∷◌, ℕ, ◌+◌, ◌*◌, ◌<◌, ◌≤◌, eqb, length}
use Rattle.integers.specs.Lists.{All}
use Rattle.integers.specs.Faults.{Kind, first_fault, fault_empty, fault_range, fault_result, fault_winding}
use Rattle.table.specs.declared.IntRect.{IntRect}
use Rattle.table.specs.Table.{bounds_list, bounds_broken, part_count}
use Rattle.corners.specs.Corners.{points_of, off_range}
use Rattle.table.specs.Stored.{word_at, signed}
use Rattle.minkowski.specs.Pairs.{Operand, operand_parts, operand_off, some_winding_leaves, result_bounds}
use Rattle.pairs_job.specs.Job.{starts_at, corners_at, table_words, reflected_of, left_of, right_of, job_fault}
use Rattle.tables_job.specs.Tables.{extreme_of, right_table, job_of, tables_fault}

-- ---- the table at word k as an operand

-- least x, greatest x, least y, greatest y of its corners; 0 of none
unfoldable pub bounds_in : List ℕ → ℕ → IntRect
bounds_in bytes k = record {
  min_x = signed (extreme_of false bytes (k + 3 + word_at bytes k) (word_at bytes (k + 1)));
  max_x = signed (extreme_of true bytes (k + 3 + word_at bytes k) (word_at bytes (k + 1)));
  min_y = signed (extreme_of false bytes (k + 3 + word_at bytes k + 1) (word_at bytes (k + 1)));
  max_y = signed (extreme_of true bytes (k + 3 + word_at bytes k + 1) (word_at bytes (k + 1)));
}

abbrev pub operand_in : List ℕ → ℕ → Operand
operand_in bytes k = record { starts = starts_at bytes k; corners = corners_at bytes k; bounds = bounds_in bytes k }

abbrev pub left_in : List ℕ → Operand
left_in bytes = operand_in bytes 1

abbrev pub right_in : List ℕ → Operand
right_in bytes = operand_in bytes (right_table bytes)

-- of a table that lies within the bytes
abbrev pub BoundsHold : Type 0
BoundsHold = (bytes : List ℕ) (k : ℕ) → 4 * (k + table_words bytes k) ≤ length bytes → bounds_broken (bounds_in bytes k) (points_of (corners_at bytes k)) ≡ false

-- ---- the job

-- what can be told of it
abbrev pub left_kinds : Bool → Operand → Operand → List Kind
left_kinds reflected l r =
    (fault_range, operand_off l) ∷ (fault_range, operand_off r)
    ∷ (fault_winding, some_winding_leaves false (operand_parts l)) ∷ (fault_winding, some_winding_leaves reflected (operand_parts r))
    ∷ (fault_result, off_range (bounds_list (result_bounds reflected l.bounds r.bounds)))
    ∷ (fault_empty, eqb (part_count l.starts) 0) ∷ (fault_empty, eqb (part_count r.starts) 0)
    ∷ []

pub record ReadBack (bytes : List ℕ) : Type 0 where
  pub operation : reflected_of (job_of bytes) ≡ reflected_of bytes
  pub left : left_of (job_of bytes) ≡ left_in bytes
  pub right : right_of (job_of bytes) ≡ right_in bytes
  pub fault : job_fault (job_of bytes) ≡ first_fault (left_kinds (reflected_of bytes) (left_in bytes) (right_in bytes))

-- of bytes, each below 256, that are not refused
abbrev pub JobReadBack : Type 0
JobReadBack = (bytes : List ℕ) → All (λ b. b < 256) bytes → tables_fault bytes ≡ 0 → ReadBack bytes
