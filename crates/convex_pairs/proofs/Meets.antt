-- The parts of an accepted mesh meet demand 3's premise (`parts_meet_premise`), so any two have
-- what it says (`parts_reach`); they are polygons (`parts_polygons`). Assumes nothing.
use mathlib.Core.Path.{◌≡◌}
use mathlib.Core.List.{List}
use mathlib.Core.Logic.{inl}
use Rattle.integers.specs.Lists.{All}
use Rattle.integers.specs.Faults.{first_fault}
use Rattle.integers.proofs.Elements.{all_map}
use Rattle.plane.specs.Plane.{Pt}
use Rattle.mesh.specs.Mesh.{Mesh, mesh_kinds}
use Rattle.mesh.proofs.Accepted.{accepted}
use Rattle.convex.specs.Joining.{parts}
use Rattle.convex.proofs.Parts.{StrictlyConvex, parts_convex}
use Rattle.pair.proofs.Repeats.{round_once}
use Rattle.pair.proofs.Sharp.{sharp_round}
use Rattle.pair.proofs.Theorem.{demand3}
use Rattle.convex_pairs.proofs.Convexity.{Polygon, convex_test, convex_polygon}
use Rattle.convex_pairs.specs.Premise.{MeetsPremise, PartsMeetPremise, PartsReach}

-- strictly convex, and so once round
pub meets : {l : List Pt} → StrictlyConvex l → MeetsPremise l
meets {l} s = let h = convex_test s in (h, round_once l (inl (sharp_round l h)))

pub parts_meet_premise : PartsMeetPremise
parts_meet_premise m h = all_map (parts m) (λ l. meets) (parts_convex (accepted m h))

pub parts_reach : PartsReach
parts_reach reflected m n h k =
    all_map (parts m) (λ A a. all_map (parts n) (λ B b. demand3 reflected A B a.1 b.1) (parts_meet_premise n k)) (parts_meet_premise m h)

pub parts_polygons : (m : Mesh) → first_fault (mesh_kinds m) ≡ 0 → All Polygon (parts m)
parts_polygons m h = all_map (parts m) (λ l. convex_polygon) (parts_convex (accepted m h))
