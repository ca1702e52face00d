-- The shards of a pair job put together are the whole, as statements over the bytes that `cut`
-- writes; proved in proofs/. Assumes nothing.
use Rattle.std.specs.Prelude.{◌≡◌, List, ◌++◌, ℕ, ◌-◌, ◌<◌, ◌≤◌, take, drop}
use Rattle.table.specs.Stored.{word_at}
use Rattle.minkowski.specs.Pairs.{operand_parts}
use Rattle.pair_lines.specs.Lines.{pair_lines_from}
use Rattle.pairs_job.specs.Job.{reflected_of, left_of, right_of, job_fault, contours_of}
use Rattle.pairs_shard.specs.Shard.{shard_of, shard_fault}

-- the job of some left parts: the others' operation, bounds and right operand
pub record ShardIs (i j : ℕ) (bytes : List ℕ) : Type 0 where
  pub operation : reflected_of (shard_of i j bytes) ≡ reflected_of bytes
  pub parts : operand_parts (left_of (shard_of i j bytes)) ≡ take (j - i) (drop i (operand_parts (left_of bytes)))
  pub bounds : (left_of (shard_of i j bytes)).bounds ≡ (left_of bytes).bounds
  pub right : right_of (shard_of i j bytes) ≡ right_of bytes

abbrev pub ShardOperands : Type 0
ShardOperands = (i j : ℕ) (bytes : List ℕ) → shard_fault bytes ≡ 0 → ShardIs i j bytes

-- the shard of all left parts has the job's contours, and two shards one after the other have those
-- of the shard of both
abbrev pub WholeContours : Type 0
WholeContours = (j : ℕ) (bytes : List ℕ) → shard_fault bytes ≡ 0 → word_at bytes 5 ≤ j → contours_of (shard_of 0 j bytes) ≡ contours_of bytes

abbrev pub JoinedContours : Type 0
JoinedContours =
    (i k j : ℕ) (bytes : List ℕ) → shard_fault bytes ≡ 0 → i ≤ k → k ≤ j →
    contours_of (shard_of i k bytes) ++ contours_of (shard_of k j bytes) ≡ contours_of (shard_of i j bytes)

-- a job's lines, its left parts numbered from n on
abbrev pub lines_from : ℕ → List ℕ → List ℕ
lines_from n bytes = pair_lines_from (reflected_of bytes) n (operand_parts (left_of bytes)) (operand_parts (right_of bytes))

-- the same of the lines, with the left part numbers of a shard moved on by the number of its first
-- part
abbrev pub WholeLines : Type 0
WholeLines = (j : ℕ) (bytes : List ℕ) → shard_fault bytes ≡ 0 → word_at bytes 5 ≤ j → lines_from 0 (shard_of 0 j bytes) ≡ lines_from 0 bytes

abbrev pub JoinedLines : Type 0
JoinedLines =
    (i k j : ℕ) (bytes : List ℕ) → shard_fault bytes ≡ 0 → i ≤ k → k ≤ j →
    lines_from i (shard_of i k bytes) ++ lines_from k (shard_of k j bytes) ≡ lines_from i (shard_of i j bytes)

-- an accepted job is cut, and each of its shards that has a left part is accepted
abbrev pub AcceptedCut : Type 0
AcceptedCut = (bytes : List ℕ) → job_fault bytes ≡ 0 → shard_fault bytes ≡ 0

abbrev pub AcceptedShards : Type 0
AcceptedShards = (i j : ℕ) (bytes : List ℕ) → job_fault bytes ≡ 0 → i < j → i < word_at bytes 5 → job_fault (shard_of i j bytes) ≡ 0
