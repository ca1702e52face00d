-- The pieces as the walks of both operands in a work buffer have them (`pieces_in`), and what the
-- inner functions promise of them. Assumes nothing.
use Rattle.std.specs.Prelude.{◌≡◌, cond, ℕ, ◌+◌, ◌*◌, ◌/◌, ◌%◌, ◌<◌, ◌≤◌, eqb, ltb, length, drop, ℤ}
use mathlib.Core.List.{List, ◌∷◌, map, flatten}
use Rattle.integers.specs.Lists.{up_to, overlay}
use Rattle.table.specs.Table.{max_contour}
use Rattle.text.specs.Text.{refusal}
use Rattle.pair_walks.specs.Walks.{contours_in, pair_in}
use Rattle.pair_numbers.specs.Numbers.{Keyed}
use Rattle.pair_lines.specs.Lines.{pairs_head, pair_line}
use Rattle.pair_lines.specs.Putting.{line_room}
use Rattle.pairs_work.specs.declared.Begun.{Begun}
use Rattle.pairs_text.specs.declared.Chunk.{Chunk}
use Rattle.pairs_text.specs.Pieces.{taking_pieces}

-- room for any first line
abbrev pub first_room : ℕ
first_room = 154

-- x is what a job answered before its lines
module _ (x : Begun) (firsts : List ℕ) (points : List (List ℤ)) where
  -- how many corners all pairs have
  abbrev pub corners_over : ℕ
  corners_over = length (flatten (contours_in firsts points x.left x.right))

  unfoldable pub first_in : List ℕ
  first_in = cond (eqb x.fault 0) (pairs_head (x.left * x.right) corners_over x.bounds) (refusal x.fault)

  -- the line of pair k: left walk k / right, right walk k % right
  abbrev pub line_in : ℕ → List ℕ
  line_in k = pair_line (k / x.right) (k % x.right) (pair_in firsts points x.left x.right (k / x.right) (k % x.right))

  unfoldable pub pieces_in : List (List ℕ)
  pieces_in = first_in ∷ map line_in (up_to (x.left * x.right))

  module _ (numbers : List ℕ) where
    -- fewer pairs than 2^32, none of a job that is refused; of another the walks of both operands,
    -- which can be merged by their numbers
    pub record JobStarted : Type 0 where
      pub few : x.left * x.right < 4294967296
      pub refused : (x.fault ≡ 0 → ⊥) → x.left * x.right ≡ 0
      pub keyed : x.fault ≡ 0 → Keyed firsts points numbers x.left x.right

    -- with room to merge two walks
    pub record Workable (work : List ℤ) : Type 0 where
      pub started : JobStarted
      pub for_corners : 4 * max_contour ≤ length work

    -- and to put piece k
    pub record Fitting (k : ℕ) (work : List ℤ) (out : List ℕ) : Type 0 where
      pub workable : Workable work
      pub inside : k < 1 + x.left * x.right
      pub for_line : line_room ≤ length out

-- those of some pieces that one call puts from piece `from` on into lent bytes, which held `old`
pub record Handed (pieces : List (List ℕ)) (from : ℕ) (old new : List ℕ) (r : Chunk) : Type 0 where
  pub size : r.size ≡ length (flatten (taking_pieces (length old) (drop from pieces)))
  pub next : r.next ≡ from + length (taking_pieces (length old) (drop from pieces))
  pub more : r.more ≡ ltb r.next (length pieces)
  pub bytes : new ≡ overlay (flatten (taking_pieces (length old) (drop from pieces))) old
  pub fits : r.size ≤ length new
