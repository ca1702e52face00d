-- Walks gathered in a buffer (`Walks`), those of two operands in it, the left one's first
-- (`lefts_in`, `rights_in`), and their merges in order (`merged_all`, `contours_in`). Assumes
-- nothing.
use Rattle.std.specs.Prelude.{◌≡◌, true, ℕ, ◌+◌, ◌≤◌, length, get_or, take, drop, ℤ}
use mathlib.Core.List.{List, [], map, flatten}
use Rattle.integers.specs.Lists.{All}
use Rattle.plane.specs.Plane.{Pt, on_grid}
use Rattle.table.specs.Table.{parts_of, max_contour}
use Rattle.points.specs.Points.{first_points}
use Rattle.points.specs.Gathered.{Gathered}
use Rattle.pair_points.specs.Points.{merged_of, Turning}

-- ---- walks in a buffer

-- the first n walks: the points from each first place to the next
abbrev pub walks_in : List ℕ → List (List ℤ) → ℕ → List (List Pt)
walks_in firsts points n = parts_of (take (n + 1) firsts) (first_points (get_or firsts n 0) points)

-- they are gathered there, their points are on the grid, each turns at every point, and each is of
-- a contour of at most 1,026 corners
pub record Walks (firsts : List ℕ) (points : List (List ℤ)) (n : ℕ) : Type 0 where
  pub gathered : Gathered firsts points (record { parts = n; corners = get_or firsts n 0 }) (walks_in firsts points n)
  pub grid : All (All (λ p. on_grid p ≡ true)) (walks_in firsts points n)
  pub turning : All Turning (walks_in firsts points n)
  pub short : All (λ w. length w ≤ max_contour + 1) (walks_in firsts points n)

-- ---- those of two operands

module _ (firsts : List ℕ) (points : List (List ℤ)) (left right : ℕ) where
  abbrev pub lefts_in : List (List Pt)
  lefts_in = take left (walks_in firsts points (left + right))

  abbrev pub rights_in : List (List Pt)
  rights_in = drop left (walks_in firsts points (left + right))

-- ---- merges in order

-- of one walk with each of some
abbrev pub merged_row : List Pt → List (List Pt) → List (List Pt)
merged_row a rs = map (merged_of a) rs

-- "one contour for each left part and, within it, each right part in order"
abbrev pub merged_all : List (List Pt) → List (List Pt) → List (List Pt)
merged_all ls rs = flatten (map (λ a. merged_row a rs) ls)

-- the contours of all pairs of two operands' walks
abbrev pub contours_in : List ℕ → List (List ℤ) → ℕ → ℕ → List (List Pt)
contours_in firsts points left right = merged_all (lefts_in firsts points left right) (rights_in firsts points left right)

-- walk n of a buffer of them, and the contour of left walk p and right walk q
abbrev pub walk_in : List ℕ → List (List ℤ) → ℕ → ℕ → List Pt
walk_in firsts points all n = get_or (walks_in firsts points all) n []

abbrev pub pair_in : List ℕ → List (List ℤ) → ℕ → ℕ → ℕ → ℕ → List Pt
pair_in firsts points left right p q = merged_of (walk_in firsts points (left + right) p) (walk_in firsts points (left + right) (left + q))
