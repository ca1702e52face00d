-- A pair job, which the pairs program reads: "one u32 (0 sum, 1 difference); then for the left and
-- then the right operand four i32 (least x, greatest x, least y, greatest y) and a stored table",
-- little-endian. Its operation, its operands, its faults, and what is printed of it. Assumes
-- nothing.
use Rattle.std.specs.Prelude.{◌≡◌, Bool, true, not, cond, ℕ, ◌+◌, ◌*◌, ◌<◌, ◌≤◌, eqb, ltb, length, take, drop, ℤ}
use mathlib.Core.List.{List, [], ◌∷◌, ◌++◌, map, flatten}
use Rattle.integers.specs.Faults.{Kind, first_fault, fault_file, fault_rules}
use Rattle.plane.specs.Plane.{Pt}
use Rattle.table.specs.declared.IntRect.{IntRect}
use Rattle.table.specs.Table.{max_parts, max_corners}
use Rattle.table.specs.Stored.{words_of, word_at, signed, stored_starts, stored_corners}
use Rattle.text.specs.Text.{refusal}
use Rattle.minkowski.specs.Pairs.{Operand, operand_parts, pair_contours, result_bounds, pair_kinds}
use Rattle.pair_lines.specs.Lines.{pairs_head, pair_lines}

-- ---- bounds and a stored table from word k on

abbrev pub bounds_at : List ℕ → ℕ → IntRect
bounds_at bytes k = record {
  min_x = signed (word_at bytes k);
  max_x = signed (word_at bytes (k + 1));
  min_y = signed (word_at bytes (k + 2));
  max_y = signed (word_at bytes (k + 3));
}

-- document 01: "Stored, a table is part count, corner count, starts, corners, each 32 bits"; one
-- more start than parts, two numbers a corner
abbrev pub starts_at : List ℕ → ℕ → List ℕ
starts_at bytes k = take (word_at bytes k + 1) (drop (k + 2) (words_of bytes))

abbrev pub corners_at : List ℕ → ℕ → List ℤ
corners_at bytes k = map signed (take (2 * word_at bytes (k + 1)) (drop (k + 3 + word_at bytes k) (words_of bytes)))

-- how many words it has, as its counts say; a count that the bytes end before is 0
abbrev pub table_words : List ℕ → ℕ → ℕ
table_words bytes k = 3 + word_at bytes k + 2 * word_at bytes (k + 1)

-- they are a stored table's starts and corners, of the bytes that it has (proofs/Stored.antt)
abbrev pub table_bytes : List ℕ → ℕ → List ℕ
table_bytes bytes k = take (4 * table_words bytes k) (drop (4 * k) bytes)

pub record TableStored (bytes : List ℕ) (k : ℕ) : Type 0 where
  pub starts : starts_at bytes k ≡ stored_starts (table_bytes bytes k)
  pub corners : corners_at bytes k ≡ stored_corners (table_bytes bytes k)

-- ---- the job

-- "0 sum, 1 difference"
abbrev pub operation : List ℕ → ℕ
operation bytes = word_at bytes 0

abbrev pub reflected_of : List ℕ → Bool
reflected_of bytes = eqb (operation bytes) 1

-- the left bounds stand from word 1 on and the left table from word 5 on; four bounds, and the
-- right table from here on
unfoldable pub right_place : List ℕ → ℕ
right_place bytes = 5 + table_words bytes 5 + 4

abbrev pub operand_at : List ℕ → ℕ → ℕ → Operand
operand_at bytes b k = record { starts = starts_at bytes k; corners = corners_at bytes k; bounds = bounds_at bytes b }

unfoldable pub left_of : List ℕ → Operand
left_of bytes = operand_at bytes 1 5

unfoldable pub right_of : List ℕ → Operand
right_of bytes = operand_at bytes (5 + table_words bytes 5) (right_place bytes)

-- ---- its faults

-- "7 where the bytes are not of the length that the counts give", both tables'; "7 also where the
-- bytes end before a count": no job has so few
unfoldable pub job_length_broken : List ℕ → Bool
job_length_broken bytes = not (eqb (length bytes) (4 * (right_place bytes + table_words bytes (right_place bytes))))

-- "13 for fewer than 4 bytes or another operation; 7 where the bytes are not of the length that the
-- counts give, or against a table's rules or limits; then the order of pairs up to 20": all of 7
-- comes before 2, and a table's rules and limits, its counts among them, are the first kinds of
-- pairs
unfoldable pub job_fault : List ℕ → ℕ
job_fault bytes =
    first_fault ((fault_file, ltb (length bytes) 4) ∷ (fault_file, ltb 1 (operation bytes)) ∷ (fault_rules, job_length_broken bytes) ∷ pair_kinds (reflected_of bytes) (left_of bytes) (right_of bytes))

-- ---- what is printed

abbrev pub contours_of : List ℕ → List (List Pt)
contours_of bytes = pair_contours (reflected_of bytes) (left_of bytes) (right_of bytes)

-- "It prints `contours N corners N bounds a b c d`, then one line a pair"; "a refusal as in
-- document 01"
unfoldable pub pairs_text : List ℕ → List ℕ
pairs_text bytes =
    cond (eqb (job_fault bytes) 0)
    (pairs_head (length (contours_of bytes)) (length (flatten (contours_of bytes))) (result_bounds (reflected_of bytes) (left_of bytes).bounds (right_of bytes).bounds)
    ++ pair_lines (reflected_of bytes) (operand_parts (left_of bytes)) (operand_parts (right_of bytes)))
    (refusal (job_fault bytes))

-- the bytes of the longest good job: an operation, and of either operand four bounds, two counts,
-- the starts and the corners
abbrev pub longest_job : ℕ
longest_job = 4 * (1 + 2 * (4 + 2 + (max_parts + 1) + 2 * max_corners))

-- "at most 147,517 bytes are read, one more than the longest good job": what comes after them
-- changes nothing (proofs/More.antt)
abbrev pub MoreInput : Type 0
MoreInput = (bytes more : List ℕ) → length bytes ≡ longest_job + 1 → pairs_text (bytes ++ more) ≡ pairs_text bytes

-- ---- what of it is told before the operands are read

-- a count of the table at word k past its limit
abbrev pub counts_broken : List ℕ → ℕ → Bool
counts_broken bytes k = cond (ltb max_parts (word_at bytes k)) true (ltb max_corners (word_at bytes (k + 1)))

-- a job whose counts are past the limits is told so before its tables are read into places of that
-- many; the other rules are judged of what was read
unfoldable pub shape_fault : List ℕ → ℕ
shape_fault bytes =
    first_fault (
    (fault_file, ltb (length bytes) 4) ∷ (fault_file, ltb 1 (operation bytes)) ∷ (fault_rules, job_length_broken bytes)
    ∷ (fault_rules, counts_broken bytes 5) ∷ (fault_rules, counts_broken bytes (right_place bytes)) ∷ []
    )

-- the table at word k lies within the bytes, and there is room for it
pub record TableIn (bytes : List ℕ) (k : ℕ) (starts : List ℕ) (corners : List ℤ) : Type 0 where
  pub inside : 4 * (k + table_words bytes k) ≤ length bytes
  pub for_starts : word_at bytes k < length starts
  pub for_corners : 2 * word_at bytes (k + 1) ≤ length corners
