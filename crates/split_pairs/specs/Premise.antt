-- The parts of an accepted mesh, before a split and after it, for any limit and strategy. Assumes
-- nothing.
use Rattle.std.specs.Prelude.{◌≡◌, Bool, true, false, List, ℕ, pos}
use Rattle.std.specs.Int.Signed.{lt_z}
use Rattle.integers.specs.Lists.{All}
use Rattle.integers.specs.Faults.{first_fault}
use Rattle.plane.specs.Plane.{Pt, ◌+ᵖ◌, on_grid}
use Rattle.plane.specs.Contour.{contour_area}
use Rattle.mesh.specs.Mesh.{Mesh, mesh_kinds}
use Rattle.convex.specs.Joining.{parts}
use Rattle.pair.specs.Walk.{begin, point_of}
use Rattle.pair.specs.Pair.{pair_contour}
use Rattle.pair.specs.Demand.{FarthestReach, second}
use Rattle.convex_pairs.specs.Premise.{MeetsPremise}
use Rattle.split.specs.declared.ConvexSplitStrategy.{ConvexSplitStrategy}
use Rattle.split.specs.Splitting.{split_parts}
use Rattle.split_centre.specs.Centre.{Summable}

-- what the centre's sums ask holds of each part before a split
abbrev pub PartsSummable : Type 0
PartsSummable = (mesh : Mesh) → first_fault (mesh_kinds mesh) ≡ 0 → All Summable (parts mesh)

-- demand 3's premise, of a part whose doubled area is above 0
pub record PartMeets (l : List Pt) : Type 0 where
  pub premise : MeetsPremise l
  pub above : lt_z (pos 0) (contour_area l) ≡ true

abbrev pub SplitMeetsPremise : Type 0
SplitMeetsPremise = (how : ConvexSplitStrategy) (m : ℕ) (mesh : Mesh) → first_fault (mesh_kinds mesh) ≡ 0 → All PartMeets (split_parts how m mesh)

-- so any split part of one accepted mesh and any of another have demand 3, as a sum and as a
-- difference
abbrev pub SplitReach : Type 0
SplitReach =
    (reflected : Bool) (how : ConvexSplitStrategy) (m : ℕ) (mesh : Mesh) (how' : ConvexSplitStrategy) (m' : ℕ) (mesh' : Mesh) → first_fault (mesh_kinds mesh) ≡ 0 → first_fault (mesh_kinds mesh') ≡ 0 →
    All (λ A. All (λ B. FarthestReach (point_of A (begin false A) +ᵖ point_of B (begin reflected B)) A (second reflected B) (pair_contour reflected A B)) (split_parts how' m' mesh')) (split_parts how m mesh)

-- every corner, a centre too, is strictly between −2^30 and 2^30
abbrev pub SplitOnGrid : Type 0
SplitOnGrid = (how : ConvexSplitStrategy) (m : ℕ) (mesh : Mesh) → first_fault (mesh_kinds mesh) ≡ 0 → All (All (λ p. on_grid p ≡ true)) (split_parts how m mesh)
