-- A mesh as a slice of triangle structs is lent (geom/triangle.rs). Assumes nothing.
use Rattle.std.specs.Prelude.{◌≡◌, List, [], map, ℕ, length, get_or, take, ℤ, pos}
use Rattle.plane.specs.Plane.{Pt}
use Rattle.plane.specs.Machine.{point}
use Rattle.mesh.specs.Mesh.{Triangle, Mesh}
use Rattle.mesh.specs.Rows.{rows_mesh}
use Rattle.triangles.specs.declared.IntTriangle.{IntTriangle}

-- the struct that stands past a slice's end
unfoldable pub no_struct : IntTriangle
no_struct = record { vertices = []; neighbors = [] }

-- vertex i of a struct
abbrev pub corner : IntTriangle → ℕ → Pt
corner t i = point (get_or t.vertices i (record { x = pos 0; y = pos 0 }))

-- the triangle that a struct is: "each record with three points and three neighbours" (document 01,
-- "Tables the desks exchange")
unfoldable pub struct_triangle : IntTriangle → Triangle
struct_triangle t = record {
  v0 = corner t 0;
  v1 = corner t 1;
  v2 = corner t 2;
  n0 = get_or t.neighbors 0 0;
  n1 = get_or t.neighbors 1 0;
  n2 = get_or t.neighbors 2 0;
}

-- the mesh that a slice of structs is
unfoldable pub triangles_mesh : List IntTriangle → Mesh
triangles_mesh ts = map struct_triangle ts

-- the front of the rows is those of the structs
abbrev pub AreRead : List IntTriangle → List (List ℤ) → Type 0
AreRead ts rows = rows_mesh (take (length ts) rows) ≡ triangles_mesh ts
