-- Contours of pairs put one after another, so far as a place (`PutOn`, `PutTo`), four at a time
-- (`four_from`) by way of work buffers (`work_corners`, `PairRooms`). Assumes nothing.
use Rattle.std.specs.Prelude.{List, [], ◌∷◌, ℕ, ◌+◌, ◌*◌, ◌-◌, ◌≤◌, get_or, take, ℤ}
use Rattle.plane.specs.Plane.{Pt}
use Rattle.corners.specs.Corners.{points_of}
use Rattle.minkowski_rows.specs.Rows.{PairsPut}
use Rattle.minkowski_order.specs.declared.Place.{Place}
use Rattle.minkowski_order.specs.Order.{InOrder, Onward, PairRoom}

-- four of some contours
abbrev pub four_from : List (List Pt) → ℕ → List (List Pt)
four_from ps n = get_or ps n [] ∷ get_or ps (n + 1) [] ∷ get_or ps (n + 2) [] ∷ get_or ps (n + 3) [] ∷ []

-- the first corners of a work buffer
abbrev pub work_corners : ℕ → List ℤ → List Pt
work_corners count work = points_of (take (2 * count) work)

-- three of them have
pub record PairRooms (points : List (List ℤ)) (wb wc wd : List ℤ) : Type 0 where
  pub second : PairRoom points wb
  pub third : PairRoom points wc
  pub fourth : PairRoom points wd

-- the next contours `new` were put, and those are m
pub record PutOn (left right m : ℕ) (new : List (List Pt)) (s : Place) (starts : List ℕ) (out : List ℤ) (r : Place) (starts' : List ℕ) (out' : List ℤ) : Type 0 where
  pub place : Onward left right m r.k s r
  pub put : PairsPut new starts s.n out s.k starts' r.n out' r.k

-- the contours `all` were put as far as r, from the first on
pub record PutTo (left right : ℕ) (all : List (List Pt)) (starts : List ℕ) (out : List ℤ) (r : Place) (starts' : List ℕ) (out' : List ℤ) : Type 0 where
  pub order : InOrder left right r
  pub some : r.n ≤ left * right
  pub put : PairsPut (take r.n all) starts 0 out 0 starts' r.n out' r.k
