-- Corners counted: how many all contours have (`all_corners`), a bound on them at a place
-- (`Bounds`), lowered as pairs are counted (`Lowered`), and what it tells in the end (`Above`).
-- Assumes nothing.
use Rattle.std.specs.Prelude.{◌≡◌, ℕ, ◌+◌, ◌*◌, ◌-◌, ◌≤◌, ◌<◌, length, get_or, take, ℤ}
use mathlib.Core.List.{List, [], flatten}
use Rattle.integers.specs.Lists.{sumℕ}
use Rattle.plane.specs.Plane.{Pt}
use Rattle.pair_walks.specs.Walks.{contours_in}
use Rattle.minkowski_order.specs.declared.Place.{Place}
use Rattle.minkowski_order.specs.Order.{InOrder, Onward, edge_counts}

-- how many corners all contours have
abbrev pub all_corners : List ℕ → List (List ℤ) → ℕ → ℕ → ℕ
all_corners firsts points left right = length (flatten (contours_in firsts points left right))

-- the edges of four pairs on end, and their corners
abbrev pub four_edges : List ℕ → ℕ → ℕ
four_edges es n = get_or es n 0 + get_or es (n + 1) 0 + get_or es (n + 2) 0 + get_or es (n + 3) 0

abbrev pub four_corners : List (List Pt) → ℕ → ℕ
four_corners ps n = length (get_or ps n []) + length (get_or ps (n + 1) []) + length (get_or ps (n + 2) []) + length (get_or ps (n + 3) [])

-- k is what the contours before the place have, and what the pairs from it on have edges
pub record Bounds (firsts : List ℕ) (points : List (List ℤ)) (left right : ℕ) (s : Place) : Type 0 where
  pub order : InOrder left right s
  pub some : s.n ≤ left * right
  pub bound : s.k + sumℕ (take s.n (edge_counts firsts points left right)) ≡ length (flatten (take s.n (contours_in firsts points left right))) + sumℕ (edge_counts firsts points left right)

-- pairs counted, c in place of e edges
pub record Lowered (left right m c e : ℕ) (s r : Place) : Type 0 where
  pub place : Onward left right m r.k s r
  pub corners : r.k + e ≡ s.k + c

-- r is at least the number of corners, and is that number where it is above `room`
pub record Above (room t r : ℕ) : Type 0 where
  pub most : t ≤ r
  pub exact : room < r → r ≡ t
