-- When the line of a pair can be put: left walk p and right walk q lie in a buffer with a number a
-- point, and there is room for any merge and any line. Assumes nothing.
use Rattle.std.specs.Prelude.{List, ℕ, ◌+◌, ◌*◌, ◌≤◌, ◌<◌, length, ℤ}
use Rattle.table.specs.Table.{max_contour}
use Rattle.pair_numbers.specs.Numbers.{Keyed}

-- the bytes of the longest line: 47, and 26 for each corner of a pair
abbrev pub line_room : ℕ
line_room = 47 + 26 * (2 * max_contour)

-- room for the corners of a pair, two numbers each, and for its line
pub record Puttable (firsts : List ℕ) (points : List (List ℤ)) (numbers : List ℕ) (left right p q : ℕ) (work : List ℤ) (out : List ℕ) : Type 0 where
  pub keyed : Keyed firsts points numbers left right
  pub p_inside : p < left
  pub q_inside : q < right
  pub for_corners : 4 * max_contour ≤ length work
  pub for_line : line_room ≤ length out
