-- A pair job of two stored tables: the bytes are one u32 (0 sum, 1 difference), a left stored table
-- and a right one, each as long as its counts say, and nothing behind them. The job has as bounds
-- the least and greatest x and y of each table's corners, 0 for a table without corners. Its bytes,
-- its faults, and what a call leaves of both. Assumes nothing.
use Rattle.std.specs.Prelude.{Bool, true, false, not, cond, List, [], ◌∷◌, ◌++◌, ℕ, zero, suc, ◌+◌, ◌*◌, ◌≤◌, eqb, ltb, length, take}
use Rattle.std.specs.Int.Signed.{lt_z}
use Rattle.integers.specs.Faults.{first_fault, fault_file, fault_rules}
use Rattle.table.specs.Table.{table_broken, written}
use Rattle.table.specs.Stored.{word_bytes, word_at, signed}
use Rattle.pairs_job.specs.Job.{starts_at, corners_at, table_words, table_bytes, counts_broken}
use Rattle.tables_job.specs.declared.Made.{Made}

-- ---- the bounds of corners

-- of two words, read with their signs, the greater one, or the lesser one; the first of equals
abbrev pub picked_of : Bool → ℕ → ℕ → ℕ
picked_of greatest a b = cond (cond greatest (lt_z (signed a) (signed b)) (lt_z (signed b) (signed a))) b a

-- the greatest, or the least, of n words, every other one from word `from` on; 0 of none
unfoldable pub extreme_of : Bool → List ℕ → ℕ → ℕ → ℕ
extreme_of greatest bytes from zero = 0
extreme_of greatest bytes from (suc zero) = word_at bytes from
extreme_of greatest bytes from (suc (suc n)) = picked_of greatest (extreme_of greatest bytes from (suc n)) (word_at bytes (from + 2 * suc n))

-- least x, greatest x, least y, greatest y of the corners from word `from` on
abbrev pub bounds_words : List ℕ → ℕ → ℕ → List ℕ
bounds_words bytes from n =
    extreme_of false bytes from n ∷ extreme_of true bytes from n ∷ extreme_of false bytes (from + 1) n ∷ extreme_of true bytes (from + 1) n ∷ []

-- ---- the job: the left table stands from word 1 on, the right one behind it

abbrev pub right_table : List ℕ → ℕ
right_table bytes = 1 + table_words bytes 1

-- bounds, and the table as it stands
unfoldable pub operand_bytes : List ℕ → ℕ → List ℕ
operand_bytes bytes k = word_bytes (bounds_words bytes (k + 3 + word_at bytes k) (word_at bytes (k + 1))) ++ table_bytes bytes k

unfoldable pub job_of : List ℕ → List ℕ
job_of bytes = take 4 bytes ++ (operand_bytes bytes 1 ++ operand_bytes bytes (right_table bytes))

-- ---- the faults

-- another length than the counts of both tables say
unfoldable pub tables_length_broken : List ℕ → Bool
tables_length_broken bytes = not (eqb (length bytes) (4 * (right_table bytes + table_words bytes (right_table bytes))))

-- a table with counts past the limits, or against its rules
abbrev pub broken_at : List ℕ → ℕ → Bool
broken_at bytes k = cond (counts_broken bytes k) true (table_broken (starts_at bytes k) (corners_at bytes k))

-- 13 for fewer than 4 bytes or another operation; 7 for a length against the counts, counts past
-- the limits, or a table against its rules
unfoldable pub tables_fault : List ℕ → ℕ
tables_fault bytes =
    first_fault (
    (fault_file, ltb (length bytes) 4) ∷ (fault_file, ltb 1 (word_at bytes 0)) ∷ (fault_rules, tables_length_broken bytes)
    ∷ (fault_rules, broken_at bytes 1) ∷ (fault_rules, broken_at bytes (right_table bytes)) ∷ []
    )

-- ---- what a call answers and leaves

-- "A refusal returns the number and zero counts, changes no buffer"; "On success places past the
-- answer keep what they held."
abbrev pub made_of : List ℕ → Made
made_of bytes = record { fault = tables_fault bytes; size = cond (eqb (tables_fault bytes) 0) (length (job_of bytes)) 0 }

abbrev pub bytes_made : List ℕ → List ℕ → List ℕ
bytes_made bytes old = written (tables_fault bytes) (job_of bytes) old

-- ---- what code knows of a table whose operand is written

-- it lies within the bytes and the limits, and there is room for it and its bounds
pub record Writable (bytes : List ℕ) (k : ℕ) (out : List ℕ) (at : ℕ) : Type 0 where
  pub inside : 4 * (k + table_words bytes k) ≤ length bytes
  pub few_parts : word_at bytes k ≤ 2048
  pub few_corners : word_at bytes (k + 1) ≤ 8192
  pub room : 4 * (at + 4 + table_words bytes k) ≤ length out
