-- A shard of a pair job: the job of its left parts from number i up to, and without, number j. All
-- right parts, the operation and all bounds stay what they are. j past the part count counts as the
-- part count; i at or past that leaves no left part. Its bytes, its faults, and what a call leaves
-- of both. Assumes nothing.
use Rattle.std.specs.Prelude.{◌≡◌, Bool, cond, List, ◌∷◌, ◌++◌, map, ℕ, ◌+◌, ◌*◌, ◌-◌, ◌<◌, ◌≤◌, eqb, ltb, length, take, drop}
use Rattle.std.proofs.Math.Seq.{slice}
use Rattle.integers.specs.Faults.{fault_rules}
use Rattle.table.specs.Table.{table_broken, written}
use Rattle.table.specs.Stored.{words_of, word_bytes, word_at}
use Rattle.pairs_job.specs.Job.{starts_at, corners_at, table_words, shape_fault}
use Rattle.pairs_shard.specs.declared.Shard.{Shard}

-- ---- which parts

abbrev pub least_of : ℕ → ℕ → ℕ
least_of a b = cond (ltb b a) b a

-- the left table begins at word 5 with its part count
abbrev pub past_part : ℕ → List ℕ → ℕ
past_part j bytes = least_of j (word_at bytes 5)

abbrev pub first_part : ℕ → ℕ → List ℕ → ℕ
first_part i j bytes = least_of i (past_part j bytes)

-- ---- its bytes, of the left parts f up to e

-- start k of the left table, and the word at which the corners from it on begin
abbrev pub start_at : List ℕ → ℕ → ℕ
start_at bytes k = word_at bytes (7 + k)

abbrev pub corner_place : List ℕ → ℕ → ℕ
corner_place bytes k = 8 + word_at bytes 5 + 2 * start_at bytes k

-- each start less the first
abbrev pub shard_starts : ℕ → ℕ → List ℕ → List ℕ
shard_starts f e bytes = map (λ s. s - start_at bytes f) (take (e - f + 1) (drop (7 + f) (words_of bytes)))

-- part count, corner count, starts
abbrev pub shard_counts : ℕ → ℕ → List ℕ → List ℕ
shard_counts f e bytes = (e - f) ∷ (start_at bytes e - start_at bytes f) ∷ shard_starts f e bytes

-- the operation and the left bounds; the counts and the starts; the corners of these parts; the
-- right bounds and the right table
unfoldable pub shard_bytes : ℕ → ℕ → List ℕ → List ℕ
shard_bytes f e bytes =
    (take 20 bytes ++ word_bytes (shard_counts f e bytes))
    ++ (slice (4 * corner_place bytes f) (4 * corner_place bytes e) bytes ++ drop (4 * (5 + table_words bytes 5)) bytes)

unfoldable pub shard_of : ℕ → ℕ → List ℕ → List ℕ
shard_of i j bytes = shard_bytes (first_part i j bytes) (past_part j bytes) bytes

-- ---- its faults

abbrev pub left_broken : List ℕ → Bool
left_broken bytes = table_broken (starts_at bytes 5) (corners_at bytes 5)

-- the fault of the job's shape, then 7 for a left table against its rules
unfoldable pub shard_fault : List ℕ → ℕ
shard_fault bytes = cond (eqb (shape_fault bytes) 0) (cond (left_broken bytes) fault_rules 0) (shape_fault bytes)

-- ---- what a call answers and leaves

-- "A refusal returns the number and zero counts, changes no buffer"; "On success places past the
-- answer keep what they held."
abbrev pub cut_of : ℕ → ℕ → List ℕ → Shard
cut_of i j bytes = record { fault = shard_fault bytes; size = cond (eqb (shard_fault bytes) 0) (length (shard_of i j bytes)) 0 }

abbrev pub bytes_cut : ℕ → ℕ → List ℕ → List ℕ → List ℕ
bytes_cut i j bytes old = written (shard_fault bytes) (shard_of i j bytes) old

-- ---- what code knows of a job that is cut

-- no fault, and parts f up to e of it
pub record Cuts (f e : ℕ) (bytes : List ℕ) : Type 0 where
  pub fault : shard_fault bytes ≡ 0
  pub parts : f ≤ e
  pub past : e ≤ word_at bytes 5

-- every word of a run is at least the first
abbrev pub AtLeast : ℕ → ℕ → ℕ → List ℕ → Type 0
AtLeast least from count bytes = (k : ℕ) → k < count → least ≤ word_at bytes (from + k)
