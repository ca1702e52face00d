-- Work buffers that parts are gathered in, one after another (`Gathered`); parts appended to them
-- (`RoomFor`, `PartsAppended`). Assumes nothing.
use Rattle.std.specs.Prelude.{◌≡◌, ℕ, ◌+◌, ◌≤◌, ◌<◌, ◌^◌, length, take, ℤ}
use mathlib.Core.List.{List, ◌++◌, flatten}
use Rattle.plane.specs.Plane.{Pt}
use Rattle.table.specs.Table.{starts_of}
use Rattle.points.specs.declared.Tally.{Tally}
use Rattle.points.specs.Points.{first_points}

-- the first parts in the buffers are ps
pub record Gathered (starts : List ℕ) (points : List (List ℤ)) (t : Tally) (ps : List (List Pt)) : Type 0 where
  pub parts : t.parts ≡ length ps
  pub corners : t.corners ≡ length (flatten ps)
  pub begins : take (t.parts + 1) starts ≡ starts_of ps
  pub gathered : first_points t.corners points ≡ flatten ps

-- ---- parts appended

-- there is room for the parts qs after those gathered, and every place has a number of 32 bits
pub record RoomFor (starts : List ℕ) (points : List (List ℤ)) (t : Tally) (qs : List (List Pt)) : Type 0 where
  pub for_starts : t.parts + length qs < length starts
  pub for_points : t.corners + length (flatten qs) ≤ length points
  pub small : length points < 2 ^ 32

-- the parts qs were appended
pub record PartsAppended (qs : List (List Pt)) (starts : List ℕ) (points : List (List ℤ)) (t : Tally) (starts' : List ℕ) (points' : List (List ℤ)) (t' : Tally) : Type 0 where
  pub starts_size : length starts' ≡ length starts
  pub points_size : length points' ≡ length points
  pub parts : t'.parts ≡ t.parts + length qs
  pub corners : t'.corners ≡ t.corners + length (flatten qs)
  pub gathered : (ps : List (List Pt)) → Gathered starts points t ps → Gathered starts' points' t' (ps ++ qs)
