-- The round trips as statements: what reading leaves of a table that was written, and what writing
-- leaves of bytes that were read. Assumes nothing.
use Rattle.std.specs.Prelude.{◌≡◌, List, ℕ, ◌+◌, ◌*◌, ◌/◌, length, take, drop, ℤ}
use Rattle.integers.specs.Lists.{overlay}
use Rattle.table.specs.Table.{part_count}
use Rattle.table_read.specs.Read.{counts_read, starts_read, corners_read}
use Rattle.table_write.specs.Written.{answer_written, bytes_written}

-- ---- what an answer tells of

-- the starts and the corners' numbers that the counts tell of
abbrev pub starts_told : List ℕ → List ℕ → List ℤ → List ℕ
starts_told bytes starts corners = take ((counts_read bytes starts corners).parts + 1) (starts_read bytes starts corners)

abbrev pub corners_told : List ℕ → List ℕ → List ℤ → List ℤ
corners_told bytes starts corners = take (2 * (counts_read bytes starts corners).corners) (corners_read bytes starts corners)

-- the bytes that the answer tells of
abbrev pub bytes_told : List ℕ → List ℤ → List ℕ → List ℕ
bytes_told starts corners bytes = take (answer_written starts corners bytes).length (bytes_written starts corners bytes)

-- ---- the statements

-- the bytes that writing s, c on old tells of, read into os and oc
pub record ReadBack (s : List ℕ) (c : List ℤ) (old os : List ℕ) (oc : List ℤ) : Type 0 where
  pub counts : counts_read (bytes_told s c old) os oc ≡ record { fault = 0; parts = part_count s; corners = length c / 2 }
  pub starts : starts_read (bytes_told s c old) os oc ≡ overlay s os
  pub corners : corners_read (bytes_told s c old) os oc ≡ overlay c oc
  pub past : drop (answer_written s c old).length (bytes_written s c old) ≡ drop (answer_written s c old).length old

-- the table that reading the bytes into os and oc tells of, written on buf
pub record WrittenAgain (bytes os : List ℕ) (oc : List ℤ) (buf : List ℕ) : Type 0 where
  pub answer : answer_written (starts_told bytes os oc) (corners_told bytes os oc) buf ≡ record { fault = 0; length = length bytes }
  pub bytes_same : bytes_written (starts_told bytes os oc) (corners_told bytes os oc) buf ≡ overlay bytes buf
  pub past_starts : drop ((counts_read bytes os oc).parts + 1) (starts_read bytes os oc) ≡ drop ((counts_read bytes os oc).parts + 1) os
  pub past_corners : drop (2 * (counts_read bytes os oc).corners) (corners_read bytes os oc) ≡ drop (2 * (counts_read bytes os oc).corners) oc
