-- "before any split each triangle is taken into exactly one part" (demand 2), said of points and of
-- the part table that an accepted call leaves (`TakenWhole`). Assumes nothing.
use Rattle.std.specs.Prelude.{◌≡◌, ℕ, ◌<◌, length, get_or, ℤ}
use mathlib.Core.List.{List, [], ◌∷◌, map, flatten}
use Rattle.integers.specs.Lists.{ExactlyOnce}
use Rattle.plane.specs.Plane.{Pt}
use Rattle.mesh.specs.Mesh.{Mesh}
use Rattle.table.specs.Table.{first_contours}
use Rattle.convex.specs.Joining.{Region, regions, contour_of, parts_fault, parts_counts, parts_starts, parts_corners}
use Rattle.cover.specs.Wholes.{SameCover}
use Rattle.cover_parts.specs.Parts.{taken_contours}

-- region k, in the order in which they were started
abbrev pub region_at : Mesh → ℕ → Region
region_at m k = get_or (regions m) k (record { contour = []; stack = []; taken = [] })

-- the part from start k to start k + 1 of lent starts and corners that held s and c, as the call
-- leaves them
abbrev pub part_left : Mesh → List ℕ → List ℤ → ℕ → List Pt
part_left m s c k = get_or (first_contours (length (regions m)) (parts_starts m s c) (parts_corners m s c)) k []

pub record TakenWhole (m : Mesh) (s : List ℕ) (c : List ℤ) : Type 0 where
  -- each triangle is taken into exactly one region
  pub once : ExactlyOnce (length m) (flatten (map (λ r. r.taken) (regions m)))
  -- there are as many parts as regions
  pub count : (parts_counts m s c).parts ≡ length (regions m)
  -- part k is the contour of region k
  pub part : (k : ℕ) → k < length (regions m) → part_left m s c k ≡ contour_of (region_at m k)
  -- and covers exactly the triangles taken into region k
  pub covers : (k : ℕ) → k < length (regions m) → SameCover (part_left m s c k ∷ []) (taken_contours m (region_at m k))

-- of every mesh that is not refused, with room in what is lent
abbrev pub EachTakenWhole : Type 0
EachTakenWhole = (m : Mesh) (s : List ℕ) (c : List ℤ) → parts_fault m (length s) (length c) ≡ 0 → TakenWhole m s c
