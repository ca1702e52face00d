-- The bounds of a mesh: "least and greatest x and y of the original source", here of all vertices
-- of all triangles. Assumes nothing.
use Rattle.std.specs.Prelude.{◌≡◌, true, cond, List, [], ◌∷◌, ◌++◌, ℤ, pos}
use Rattle.std.specs.Int.Signed.{le_z}
use Rattle.integers.specs.Lists.{All, Any}
use Rattle.plane.specs.Plane.{Pt}
use Rattle.mesh.specs.Mesh.{Triangle, Mesh}
use Rattle.table.specs.declared.IntRect.{IntRect}
use Rattle.table.specs.Table.{within_bounds}

abbrev pub lesser : ℤ → ℤ → ℤ
lesser a b = cond (le_z a b) a b

abbrev pub greater : ℤ → ℤ → ℤ
greater a b = cond (le_z a b) b a

-- the bounds of a point alone, and bounds that a point, or each of some, is brought into
abbrev pub point_bounds : Pt → IntRect
point_bounds p = record { min_x = p.x; max_x = p.x; min_y = p.y; max_y = p.y }

abbrev pub widened : IntRect → Pt → IntRect
widened b p = record {
  min_x = lesser b.min_x p.x;
  max_x = greater b.max_x p.x;
  min_y = lesser b.min_y p.y;
  max_y = greater b.max_y p.y;
}

unfoldable pub widened_by : IntRect → List Pt → IntRect
widened_by b [] = b
widened_by b (p ∷ l) = widened_by (widened b p) l

abbrev pub corners : Triangle → List Pt
corners t = t.v0 ∷ t.v1 ∷ t.v2 ∷ []

-- the vertices of all triangles, in order
unfoldable pub vertices_of : Mesh → List Pt
vertices_of [] = []
vertices_of (t ∷ m) = corners t ++ vertices_of m

-- "an empty mesh has bounds 0 0 0 0"
unfoldable pub bounds_of : List Pt → IntRect
bounds_of [] = record { min_x = pos 0; max_x = pos 0; min_y = pos 0; max_y = pos 0 }
bounds_of (p ∷ l) = widened_by (point_bounds p) (p ∷ l)

abbrev pub mesh_bounds : Mesh → IntRect
mesh_bounds m = bounds_of (vertices_of m)

-- no point of the list is past a bound, and each bound is a point's
pub record Bounding (b : IntRect) (l : List Pt) : Type 0 where
  pub within : All (λ p. within_bounds b p ≡ true) l
  pub least_x : Any (λ p. p.x ≡ b.min_x) l
  pub greatest_x : Any (λ p. p.x ≡ b.max_x) l
  pub least_y : Any (λ p. p.y ≡ b.min_y) l
  pub greatest_y : Any (λ p. p.y ≡ b.max_y) l

-- so of every mesh with a triangle (proofs/)
abbrev pub MeshBounded : Type 0
MeshBounded = (t : Triangle) (m : Mesh) → Bounding (mesh_bounds (t ∷ m)) (vertices_of (t ∷ m))
