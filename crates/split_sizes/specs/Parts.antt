-- Joined parts read from their buffers (`parts_in`), as splitting asks for them (`Splittable`);
-- the work arrays that suffice for a mesh (`WorkRoom`). Assumes nothing.
use mathlib.Core.List.{List, map, flatten}
use Rattle.std.specs.Prelude.{ℕ, ◌+◌, ◌*◌, ◌<◌, ◌≤◌, ◌^◌, take, ℤ}
use Rattle.integers.specs.Lists.{All}
use Rattle.plane.specs.Plane.{Pt}
use Rattle.table.specs.Table.{parts_of}
use Rattle.points.specs.Points.{first_points}
use Rattle.points.specs.declared.Tally.{Tally}
use Rattle.points.specs.Gathered.{Gathered}
use Rattle.split.specs.declared.ConvexSplitStrategy.{ConvexSplitStrategy}
use Rattle.split.specs.Splitting.{split_contour}
use Rattle.split_centre.specs.Centre.{Summable}

-- the parts that starts and points hold
abbrev pub parts_in : List ℕ → List (List ℤ) → Tally → List (List Pt)
parts_in starts points t = parts_of (take (t.parts + 1) starts) (first_points t.corners points)

-- they are gathered there, and the centre's sums of each fit
pub record Splittable (starts : List ℕ) (points : List (List ℤ)) (t : Tally) : Type 0 where
  pub gathered : Gathered starts points t (parts_in starts points t)
  pub summable : All Summable (parts_in starts points t)

-- each of some parts split
abbrev pub split_each : ConvexSplitStrategy → ℕ → List (List Pt) → List (List Pt)
split_each how m ps = flatten (map (split_contour how m) ps)

-- work arrays of these lengths hold the parts of any mesh of n triangles, joined and split, and
-- every place has a number of 32 bits
pub record WorkRoom (n begins joined split_begins points : ℕ) : Type 0 where
  pub for_begins : n < begins
  pub for_joined : 3 * n ≤ joined
  pub for_split_begins : 2 * n < split_begins
  pub for_points : 6 * n ≤ points
  pub few_starts : split_begins < 2 ^ 32
  pub few_points : points < 2 ^ 32
