-- The sizes of operands that have work buffers of their own, which take less time to set up.
-- Assumes nothing.
use Rattle.std.specs.Prelude.{Bool, List, ℕ, ◌+◌, ◌*◌, ◌/◌, ◌≤◌, ◌<◌, ◌^◌, ltb, length, ℤ}
use Rattle.table.specs.Table.{part_count}

-- an operand with at most so many starts and corners together is tiny, as of one triangle, small or
-- medium: its work buffers are of that size
abbrev pub tiny_places : ℕ
tiny_places = 16

abbrev pub small_places : ℕ
small_places = 256

abbrev pub medium_places : ℕ
medium_places = 2048

abbrev pub FitsIn : ℕ → List ℕ → List ℤ → Type 0
FitsIn places starts corners = length starts + length corners / 2 ≤ places

-- work buffers of so many points and firsts have room for two operands: a point a corner and one
-- more a part, and a first a part and one more; every place has a number of 32 bits
pub record RoomIn (points firsts : ℕ) (ls : List ℕ) (lc : List ℤ) (rs : List ℕ) (rc : List ℤ) : Type 0 where
  pub for_points : length lc / 2 + part_count ls + (length rc / 2 + part_count rs) ≤ points
  pub for_firsts : length ls + length rs ≤ firsts + 1
  pub few_points : points < 2 ^ 32
  pub few_firsts : firsts < 2 ^ 32

-- whether all pairs have less than four times the operands' corners, a part more counted on either
-- side
abbrev pub few_pairs : List ℕ → List ℤ → List ℕ → List ℤ → Bool
few_pairs ls lc rs rc = ltb (length rs * (length lc / 2) + length ls * (length rc / 2)) (4 * (length lc / 2 + length rc / 2))

-- that can be asked of tables within their limits
pub record FewAsked (ls : List ℕ) (lc : List ℤ) (rs : List ℕ) (rc : List ℤ) : Type 0 where
  pub left_starts : length ls ≤ 2049
  pub left_corners : length lc / 2 ≤ 8192
  pub right_starts : length rs ≤ 2049
  pub right_corners : length rc / 2 ≤ 8192
