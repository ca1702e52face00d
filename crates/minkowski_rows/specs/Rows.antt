-- Merges of two walks of a buffer, and of one with each right one (`merged_in`, `merged_row_in`),
-- and contours put one after another into lent starts and corners (`PairsRoom`, `PairsPut`,
-- `AllPut`). Assumes nothing.
use Rattle.std.specs.Prelude.{◌≡◌, ℕ, ◌+◌, ◌<◌, ◌^◌, length, ℤ}
use mathlib.Core.List.{List, ◌++◌, flatten}
use Rattle.integers.specs.Lists.{overlay}
use Rattle.plane.specs.Plane.{Pt}
use Rattle.table.specs.Table.{starts_of, corners_of}
use Rattle.pair_points.specs.Points.{merged_of}
use Rattle.pair_merge.specs.Putting.{RoomAfter}
use Rattle.pair_walks.specs.Walks.{rights_in, merged_row, walk_in}

-- ---- merges

-- of walks m and n of `count`
abbrev pub merged_in : List ℕ → List (List ℤ) → ℕ → ℕ → ℕ → List Pt
merged_in firsts points count m n = merged_of (walk_in firsts points count m) (walk_in firsts points count n)

-- of left walk p and each right one
abbrev pub merged_row_in : List ℕ → List (List ℤ) → ℕ → ℕ → ℕ → List (List Pt)
merged_row_in firsts points left right p = merged_row (walk_in firsts points (left + right) p) (rights_in firsts points left right)

-- ---- contours put into lent starts and corners

-- there is room for the contours `new` after the first n, which have k corners, and every start has
-- a number of 32 bits
pub record PairsRoom (new : List (List Pt)) (starts : List ℕ) (n : ℕ) (out : List ℤ) (k : ℕ) : Type 0 where
  pub for_starts : n + length new < length starts
  pub for_corners : RoomAfter (flatten new) out k
  pub small : k + length (flatten new) < 2 ^ 32

-- the contours `new` were put after the first n, whatever those are
pub record PairsPut (new : List (List Pt)) (starts : List ℕ) (n : ℕ) (out : List ℤ) (k : ℕ) (starts' : List ℕ) (n' : ℕ) (out' : List ℤ) (k' : ℕ) : Type 0 where
  pub starts_size : length starts' ≡ length starts
  pub out_size : length out' ≡ length out
  pub contours : n' ≡ n + length new
  pub corners : k' ≡ k + length (flatten new)
  pub written :
      (done : List (List Pt)) (s : List ℕ) (c : List ℤ) → length done ≡ n → length (flatten done) ≡ k → starts ≡ overlay (starts_of done) s → out ≡ overlay (corners_of done) c →
      (starts' ≡ overlay (starts_of (done ++ new)) s) × (out' ≡ overlay (corners_of (done ++ new)) c)

-- all of some contours stand on the front of lent starts and corners, which held s and c; k is how
-- many corners they have
pub record AllPut (ps : List (List Pt)) (s : List ℕ) (c : List ℤ) (s' : List ℕ) (c' : List ℤ) (k : ℕ) : Type 0 where
  pub starts : s' ≡ overlay (starts_of ps) s
  pub corners : c' ≡ overlay (corners_of ps) c
  pub count : k ≡ length (flatten ps)
