-- What a call on two operands answers and leaves in the lent starts and corners (`PairsAnswered`);
-- two operands unrolled to points in work buffers (`Unrolleds`), and the same of the pairs of their
-- walks (`WalksAnswered`). Assumes nothing.
use Rattle.std.specs.Prelude.{◌≡◌, ℕ, ◌+◌, ◌*◌, ◌≤◌, ◌<◌, ◌^◌, length, ℤ}
use mathlib.Core.List.{List, flatten}
use Rattle.integers.specs.Faults.{first_fault}
use Rattle.plane.specs.Plane.{Pt}
use Rattle.table.specs.declared.IntRect.{IntRect}
use Rattle.table.specs.Table.{starts_of, corners_of, written, room_kinds}
use Rattle.minkowski.specs.declared.PairCounts.{PairCounts}
use Rattle.minkowski.specs.Pairs.{no_bounds, pair_counts_of}
use Rattle.pair_walks.specs.Walks.{Walks, contours_in}

-- ---- the answer

-- "A refusal returns the number and zero counts"
abbrev pub refusal_of : ℕ → PairCounts
refusal_of f = record { fault = f; contours = 0; corners = 0; bounds = no_bounds }

-- what a call with the fault number f and the contours ps within the bounds b answers, and leaves
-- in lent buffers that held s and c
pub record PairsAnswered (f : ℕ) (ps : List (List Pt)) (b : IntRect) (s : List ℕ) (c : List ℤ) (r : PairCounts) (s' : List ℕ) (c' : List ℤ) : Type 0 where
  pub counts : r ≡ pair_counts_of f ps b
  pub starts : s' ≡ written f (starts_of ps) s
  pub corners : c' ≡ written f (corners_of ps) c

-- ---- two operands unrolled

-- the walks of two operands, whose pairs have at most `most` corners
pub record Unrolleds (firsts : List ℕ) (points : List (List ℤ)) (left right most : ℕ) : Type 0 where
  pub walks : Walks firsts points (left + right)
  pub corners : length (flatten (contours_in firsts points left right)) ≤ most
  pub few_corners : most < 2 ^ 32
  pub few_contours : left * right < 2 ^ 32

-- what a call answers whose contours are those of the walks, and leaves in lent buffers that held s
-- and c
abbrev pub WalksAnswered : List ℕ → List (List ℤ) → ℕ → ℕ → IntRect → List ℕ → List ℤ → PairCounts → List ℕ → List ℤ → Type 0
WalksAnswered firsts points left right b s c r s' c' =
    PairsAnswered (first_fault (room_kinds (contours_in firsts points left right) (length s) (length c))) (contours_in firsts points left right) b s c r s' c'
