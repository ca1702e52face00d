-- Where a place lies by the contours of all pairs of two operands (`placed_by`), and what the steps
-- of finding it ask. Assumes nothing.
use Rattle.std.specs.Prelude.{◌≡◌, true, cond, List, ℕ, ◌*◌, ◌≤◌, ◌<◌, eqb, length, ℤ}
use Rattle.integers.specs.Lists.{All}
use Rattle.plane.specs.Plane.{Pt, on_grid}
use Rattle.table.specs.Table.{max_contour}
use Rattle.minkowski.specs.Pairs.{pair_contours}
use Rattle.minkowski_work.specs.Scratch.{Call}
use Rattle.pair_walks.specs.Walks.{contours_in, pair_in}
use Rattle.pair_numbers.specs.Numbers.{Keyed}
use Rattle.pairs_work.specs.Begun.{call_fault}
use Rattle.placement.specs.declared.Placed.{Placed}
use Rattle.placement.specs.declared.Placed.TheVariants.{At, Refused}
use Rattle.placement.specs.Placement.{contact_by}

-- "A refusal returns the number": the pairs' first fault, or where the place lies by the contours
-- of all pairs
unfoldable pub placed_by : Call → Pt → Placed
placed_by x z = cond (eqb (call_fault x) 0) (At (contact_by z (pair_contours x.reflected x.left x.right))) (Refused (call_fault x))

-- ---- what the steps ask

-- points strictly between −2^30 and 2^30
abbrev pub Gridded : List Pt → Type 0
Gridded l = All (λ p. on_grid p ≡ true) l

-- two operands' walks with a number a point, fewer pairs than 2^32, and contours on the grid
pub record Walkable (firsts : List ℕ) (points : List (List ℤ)) (numbers : List ℕ) (left right : ℕ) : Type 0 where
  pub keyed : Keyed firsts points numbers left right
  pub few : left * right < 4294967296
  pub grid : All Gridded (contours_in firsts points left right)

-- with room to merge two walks
pub record Placing (firsts : List ℕ) (points : List (List ℤ)) (numbers : List ℕ) (left right : ℕ) (work : List ℤ) : Type 0 where
  pub walkable : Walkable firsts points numbers left right
  pub for_corners : 4 * max_contour ≤ length work

-- the same of left walk p and right walk q
pub record Merging (firsts : List ℕ) (points : List (List ℤ)) (numbers : List ℕ) (left right p q : ℕ) (work : List ℤ) : Type 0 where
  pub keyed : Keyed firsts points numbers left right
  pub p_inside : p < left
  pub q_inside : q < right
  pub grid : Gridded (pair_in firsts points left right p q)
  pub for_corners : 4 * max_contour ≤ length work
