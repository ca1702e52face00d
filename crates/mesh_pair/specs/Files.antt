-- Two mesh files one after the other: the left one is the first bytes, as many as its header's
-- total says, and the right one all the rest. Assumes nothing.
use Rattle.std.specs.Prelude.{◌≡◌, cond, List, ℕ, ◌≤◌, eqb, length, take, drop, ℤ}
use Rattle.minkowski.specs.Pairs.{Operand}
use Rattle.listing.specs.File.{total_bytes, file_fault}
use Rattle.mesh_operand.specs.Operand.{mesh_operand, Held}
use Rattle.mesh_pair.specs.declared.Two.{Two}

-- a total past the bytes leaves no right file, and a left one that is shorter than its total, whose
-- fault is 13; so is that of a total that ends too early
unfoldable pub left_file : List ℕ → List ℕ
left_file bytes = take (total_bytes bytes) bytes

unfoldable pub right_file : List ℕ → List ℕ
right_file bytes = drop (total_bytes bytes) bytes

-- "the left file's own numbers; then the right's"
unfoldable pub files_fault : List ℕ → ℕ
files_fault bytes = cond (eqb (file_fault (left_file bytes)) 0) (file_fault (right_file bytes)) (file_fault (left_file bytes))

abbrev pub left_operand : List ℕ → Operand
left_operand bytes = mesh_operand (left_file bytes)

abbrev pub right_operand : List ℕ → Operand
right_operand bytes = mesh_operand (right_file bytes)

-- ---- what the code promises

-- the right file begins at byte n
pub record Cut (bytes : List ℕ) (n : ℕ) : Type 0 where
  pub inside : n ≤ length bytes
  pub left : take n bytes ≡ left_file bytes
  pub right : drop n bytes ≡ right_file bytes

-- what is told of both files, and stands on the front of the arrays where neither has a fault
pub record TwoTaken (bytes : List ℕ) (t : Two) (ls : List ℕ) (lc : List ℤ) (rs : List ℕ) (rc : List ℤ) : Type 0 where
  pub fault : t.fault ≡ files_fault bytes
  pub left_held : t.fault ≡ 0 → Held (left_file bytes) t.left ls lc
  pub right_held : t.fault ≡ 0 → Held (right_file bytes) t.right rs rc
