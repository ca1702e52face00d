-- What the steps of putting a job ask and promise. Assumes nothing.
use Rattle.std.specs.Prelude.{◌≡◌, List, ◌∷◌, ◌++◌, ℕ, ◌+◌, ◌*◌, ◌≤◌, length, ℤ}
use Rattle.table.specs.declared.IntRect.{IntRect}
use Rattle.table_words.specs.Place.{put_words}
use Rattle.minkowski.specs.Pairs.{Operand}
use Rattle.meshes_job.specs.Job.{operand_words}

abbrev pub operand_from : IntRect → List ℕ → List ℤ → Operand
operand_from b s c = record { starts = s; corners = c; bounds = b }

-- starts and corners' numbers few enough, and room for them from word k on
pub record OperandRoom (s : List ℕ) (c : List ℤ) (k : ℕ) (out : List ℕ) : Type 0 where
  pub some : 1 ≤ length s
  pub few_starts : length s ≤ 2049
  pub few_numbers : length c ≤ 12288
  pub few_before : k ≤ 65536
  pub room : 4 * (k + 6 + length s + length c) ≤ length out

-- the operand's words are put from word k on
pub record OperandPut (b : IntRect) (s : List ℕ) (c : List ℤ) (k : ℕ) (old new : List ℕ) (r : ℕ) : Type 0 where
  pub after : r ≡ k + length (operand_words (operand_from b s c))
  pub bytes : new ≡ put_words k (operand_words (operand_from b s c)) old

-- the words of an operand
abbrev pub words_from : IntRect → List ℕ → List ℤ → List ℕ
words_from b s c = operand_words (operand_from b s c)

-- no more starts and numbers than any mesh has, and room for the longest job
pub record JobRoom (ls : List ℕ) (lc : List ℤ) (rs : List ℕ) (rc : List ℤ) (out : List ℕ) : Type 0 where
  pub some_left : 1 ≤ length ls
  pub some_right : 1 ≤ length rs
  pub few_left_starts : length ls ≤ 2049
  pub few_left_numbers : length lc ≤ 12288
  pub few_right_starts : length rs ≤ 2049
  pub few_right_numbers : length rc ≤ 12288
  pub room : 114748 ≤ length out

-- the operation and both operands' words are put on the front
pub record JobPut (op : ℕ) (l r : List ℕ) (old new : List ℕ) (size : ℕ) : Type 0 where
  pub after : size ≡ 4 * length (op ∷ (l ++ r))
  pub bytes : new ≡ put_words 0 (op ∷ (l ++ r)) old
