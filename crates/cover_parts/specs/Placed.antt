-- Where a mesh, moved by z/q, meets or overlaps another, read off the contours of all pairs of
-- their parts (`Placed`). Assumes nothing.
use Rattle.std.specs.Prelude.{◌≡◌, true, List, map, ◌↔◌, ℕ, ℤ, pos, ◌<ℤ◌}
use Rattle.integers.specs.Lists.{All, Any}
use Rattle.integers.specs.Faults.{first_fault}
use Rattle.plane.specs.Plane.{Pt}
use Rattle.mesh.specs.Mesh.{Mesh, mesh_kinds}
use Rattle.pair.specs.Premise.{strictly_convex}
use Rattle.minkowski.specs.Pairs.{pairs_of}
use Rattle.split.specs.declared.ConvexSplitStrategy.{ConvexSplitStrategy}
use Rattle.split.specs.Splitting.{split_parts}
use Rattle.cover.specs.Overlap.{StrictlyInside, Meet, Overlap}
use Rattle.cover.specs.Wholes.{Covered, SomePair, Overlapping}
use Rattle.cover_parts.specs.Parts.{triangle_contour}

-- L are the contours of all pairs, and the second mesh is moved by z/q
pub record Placed (L : List (List Pt)) (mesh mesh' : Mesh) (q : ℤ) (z : Pt) : Type 0 where
  -- each goes once round a convex area, so it holds neither every point nor a whole line
  pub convex : All (λ l. strictly_convex l ≡ true) L
  -- z/q is inside one exactly where some triangles of the two share a point
  pub meets : Covered L q z ↔ SomePair (λ s t. Meet (triangle_contour s) (triangle_contour t) q z) mesh mesh'
  -- strictly inside one exactly where some triangles share a point strictly inside both
  pub overlaps : Any (λ l. StrictlyInside l q z) L ↔ SomePair (λ s t. Overlap (triangle_contour s) (triangle_contour t) q z) mesh mesh'
  -- and that is exactly where the meshes as wholes do: they have an inner point in common, be it on
  -- edges of their triangles
  pub wholes : Any (λ l. StrictlyInside l q z) L ↔ Overlapping (map triangle_contour mesh) (map triangle_contour mesh') q z

-- the differences of two accepted meshes, for any limits and strategies
abbrev pub MeshesPlaced : Type 0
MeshesPlaced =
    (how : ConvexSplitStrategy) (m : ℕ) (mesh : Mesh) (how' : ConvexSplitStrategy) (m' : ℕ) (mesh' : Mesh) → first_fault (mesh_kinds mesh) ≡ 0 → first_fault (mesh_kinds mesh') ≡ 0 →
    (q : ℤ) (z : Pt) → pos 0 <ℤ q → Placed (pairs_of true (split_parts how m mesh) (split_parts how' m' mesh')) mesh mesh' q z
