-- The parts of an accepted mesh meet the premise of demand 3, and so any two of them have all that
-- it says. Assumes nothing.
use Rattle.std.specs.Prelude.{◌≡◌, Bool, true, false, List}
use Rattle.integers.specs.Lists.{All}
use Rattle.integers.specs.Faults.{first_fault}
use Rattle.plane.specs.Plane.{Pt, ◌+ᵖ◌}
use Rattle.mesh.specs.Mesh.{Mesh, mesh_kinds}
use Rattle.convex.specs.Joining.{parts}
use Rattle.pair.specs.Walk.{begin, point_of}
use Rattle.pair.specs.Pair.{pair_contour}
use Rattle.pair.specs.Premise.{once_round, strictly_convex}
use Rattle.pair.specs.Demand.{FarthestReach, second}

-- "Strictly convex, counter-clockwise", and "once round a convex area above zero"
abbrev pub MeetsPremise : List Pt → Type 0
MeetsPremise l = (strictly_convex l ≡ true) × (once_round l ≡ true)

abbrev pub PartsMeetPremise : Type 0
PartsMeetPremise = (m : Mesh) → first_fault (mesh_kinds m) ≡ 0 → All MeetsPremise (parts m)

-- so any part of one accepted mesh and any of another have demand 3, as a sum and as a difference
abbrev pub PartsReach : Type 0
PartsReach =
    (reflected : Bool) (m n : Mesh) → first_fault (mesh_kinds m) ≡ 0 → first_fault (mesh_kinds n) ≡ 0 →
    All (λ A. All (λ B. FarthestReach (point_of A (begin false A) +ᵖ point_of B (begin reflected B)) A (second reflected B) (pair_contour reflected A B)) (parts n)) (parts m)
