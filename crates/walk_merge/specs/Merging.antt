-- One edge of a pair as the code holds it, read as pair's specs/Pair.antt has it: its direction and
-- the steps so far. Assumes nothing.
use Rattle.std.specs.Prelude.{◌≡◌, List, ◌<◌, ℤ, Option, Some, None}
use Rattle.plane.specs.Plane.{Pt}
use Rattle.plane.specs.declared.IntVector.{IntVector}
use Rattle.plane.specs.Machine.{vector, Short}
use Rattle.corners.specs.Corners.{points_of}
use Rattle.pair.specs.declared.ConvexSum.{ConvexSum}
use Rattle.pair.specs.Pair.{Heading, unset, along, Run, headed, run, steps_left}
use Rattle.walk_pick.specs.Picking.{Judged}
use Rattle.walk_merge.specs.declared.Going.{Going}

-- the direction of the edge begun
abbrev pub heading_by : Option IntVector → Heading
heading_by None = unset
heading_by (Some v) = along (vector v)

abbrev pub heading_of : Going → Heading
heading_of g = heading_by g.heading

-- which is short
abbrev pub HeadingShort : Option IntVector → Type 0
HeadingShort None = Unit {0}
HeadingShort (Some v) = Short v

-- where the steps stop, as they stand
abbrev pub stop_of : Going → Run
stop_of g = record { heading = heading_of g; at = g.at }

-- where they will stop, after the steps that are left
unfoldable pub final_of : List Pt → List Pt → Going → Run
final_of A B g = run (steps_left g.at) A B (heading_of g) g.at

-- an edge taken: the walks stand at t, and the direction is that after it
pub record Took (g : Going) (e : Pt) (t : ConvexSum) (r : Going) : Type 0 where
  pub heads : heading_of r ≡ headed (heading_of g) e
  pub at : r.at ≡ t
  pub short : HeadingShort r.heading

-- both walks judged where they stand, and the direction short
pub record MayStep (l r : List ℤ) (g : Going) : Type 0 where
  pub judged : Judged l r g.at
  pub short : HeadingShort g.heading

-- one more step: it will stop where it would have, with fewer steps left
pub record GoesOn (l r : List ℤ) (g h : Going) : Type 0 where
  pub ready : MayStep l r h
  pub same : final_of (points_of l) (points_of r) h ≡ final_of (points_of l) (points_of r) g
  pub fewer : steps_left h.at < steps_left g.at

-- that, or none where the steps stop as they stand
abbrev pub SteppedOn : List ℤ → List ℤ → Going → Option Going → Type 0
SteppedOn l r g None = final_of (points_of l) (points_of r) g ≡ stop_of g
SteppedOn l r g (Some h) = GoesOn l r g h
