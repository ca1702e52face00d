-- The structs of src/ read as points of the plane, and how large their numbers are.
-- Assumes nothing.
use Rattle.std.specs.Prelude.{ℤ}
use Rattle.integers.specs.Size.{Within}
use Rattle.plane.specs.declared.IntPoint.{IntPoint}
use Rattle.plane.specs.declared.IntVector.{IntVector}
use Rattle.plane.specs.Plane.{Pt}

abbrev pub point : IntPoint → Pt
point p = record { x = p.x; y = p.y }

abbrev pub vector : IntVector → Pt
vector v = record { x = v.x; y = v.y }

-- "strictly between −2^30 and 2^30" (document 01, fault 2)
abbrev pub Coordinate : ℤ → Type 0
Coordinate z = Within 1073741823 z

-- a difference of two coordinates
abbrev pub Extent : ℤ → Type 0
Extent z = Within 2147483646 z

-- a cross product of two differences, which fits 64 bits
abbrev pub CrossSize : ℤ → Type 0
CrossSize z = Within 9223372019674906632 z

pub record OnGrid (p : IntPoint) : Type 0 where
  pub x_small : Coordinate p.x
  pub y_small : Coordinate p.y

pub record Short (v : IntVector) : Type 0 where
  pub x_small : Extent v.x
  pub y_small : Extent v.y
