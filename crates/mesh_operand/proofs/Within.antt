-- Every corner of a split part, a centre too, is within any bounds of the mesh's vertices
-- (`split_within`). Assumes nothing.
use mathlib.Core.Path.{◌≡◌}
use mathlib.Core.List.{List, [], ◌∷◌}
use Prim.Native.Nat.{ℕ, zero, suc, ◌<◌}
use native.Mathlib.Omega.{arith}
use lib.ListN.{length}
use lib.Signed.{◌≤ℤ◌}
use Rattle.integers.specs.Lists.{All, sumℤ, neighbours}
use Rattle.integers.specs.Faults.{first_fault}
use Rattle.integers.proofs.Tests.{differ}
use Rattle.integers.proofs.Elements.{all_map2}
use Rattle.plane.specs.Plane.{Pt}
use Rattle.plane.specs.Contour.{contour_area}
use Rattle.mesh.specs.Mesh.{Mesh, mesh_kinds, vertex, triangle_at}
use Rattle.mesh.proofs.Accepted.{accepted}
use Rattle.table.specs.declared.IntRect.{IntRect}
use Rattle.convex.specs.Joining.{parts}
use Rattle.convex.proofs.Vertices.{parts_vertices}
use Rattle.split.specs.declared.ConvexSplitStrategy.{ConvexSplitStrategy}
use Rattle.split.specs.Splitting.{split_parts, raised}
use Rattle.split_centre.specs.Centre.{Summable, rounded_centre}
use Rattle.split_centre.proofs.Range.{centre_within}
use Rattle.split_pairs.proofs.Joined.{parts_summable}
use Rattle.split_pairs.proofs.Corners.{split_corners}
use Rattle.split_pairs.proofs.Theorem.{all_split}
use Rattle.mesh_bounds.specs.Bounds.{vertices_of}

abbrev pub In : IntRect → Pt → Type 0
In b p = ((b.min_x ≤ℤ p.x) × (p.x ≤ℤ b.max_x)) × ((b.min_y ≤ℤ p.y) × (p.y ≤ℤ b.max_y))

-- what holds of all vertices holds of each
pub vertex_has : (P : Pt → Type 0) (m : Mesh) → All P (vertices_of m) → (k i : ℕ) → k < length m → P (vertex (triangle_at m k) i)
unfolding vertices_of vertex
vertex_has P [] h k i l = absurd (omega (arith, l))
vertex_has P (t ∷ m) h zero zero l = h.0
vertex_has P (t ∷ m) h zero (suc zero) l = h.1.0
vertex_has P (t ∷ m) h zero (suc (suc i)) l = h.1.1.0
vertex_has P (t ∷ m) h (suc k) i l = vertex_has P m h.1.1.1 k i (omega (arith, l))

-- a part is not empty, for its doubled area is above 0
centre_in : {b : IntRect} {l : List Pt} → Summable l → All (In b) l → In b (rounded_centre l)
centre_in {l = []} s h = unfold contour_area neighbours sumℤ in differ s.above
centre_in {b} {l = c ∷ l} s h = centre_within s h

pub split_within : (how : ConvexSplitStrategy) (m : ℕ) (mesh : Mesh) (b : IntRect) → first_fault (mesh_kinds mesh) ≡ 0 → All (In b) (vertices_of mesh) → All (All (In b)) (split_parts how m mesh)
split_within how m mesh b h v =
    all_split {P = λ l. Summable l × All (In b) l} (All (In b)) how m mesh (λ l s. split_corners (In b) how (raised m) l s.1 (centre_in s.0 s.1))
    (all_map2 (parts mesh) (λ l x y. (x, y)) (parts_summable mesh h) (parts_vertices (In b) (accepted mesh h) (vertex_has (In b) mesh v)))
