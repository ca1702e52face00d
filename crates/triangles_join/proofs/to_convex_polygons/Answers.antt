-- `triangles_join::to_convex_polygons` meets its contract: more triangles than any array has rows
-- are refused with 1. Assumes nothing.
use mathlib.Core.Path.{◌≡◌, sym}
use mathlib.Core.List.{List}
use Prim.Native.Nat.{ℕ, ◌<◌}
use native.Mathlib.Nat.{suc-ne-zero}
use borrow.Author.Tests.{lt-ltb}
use lib.ListN.{length, length-map}
use lib.IntN.{ℤ}
use Rattle.integers.specs.Faults.{first_fault}
use Rattle.mesh.specs.Mesh.{max_triangles, mesh_kinds, too_many}
use Rattle.table.specs.declared.Counts.{Counts}
use Rattle.convex.specs.Joining.{parts, parts_fault, PartsAnswered}
use Rattle.convex_gather.proofs.Answer.{mesh_refused}
use Rattle.triangles.specs.declared.IntTriangle.{IntTriangle}
use Rattle.triangles.specs.Triangles.{struct_triangle, triangles_mesh}
use Rattle.triangles_join.proofs.to_convex_polygons.Goals as goal

-- more than 1,024 structs are refused with 1
too_many_lem : (ys : List IntTriangle) → max_triangles < length ys → 1 ≡ first_fault (mesh_kinds (triangles_mesh ys))
unfolding first_fault too_many triangles_mesh
too_many_lem ys h = sym (rw (length-map ys struct_triangle, lt-ltb _ _ h))

refused : (ys : List IntTriangle) (s : List ℕ) (c : List ℤ) {r : Counts} → max_triangles < length ys → r ≡ record { fault = 1; parts = 0; corners = 0 } → PartsAnswered (triangles_mesh ys) s c r s c
unfolding parts_fault
refused ys s c h e =
    let m = triangles_mesh ys in
    mesh_refused m (parts m) s c (too_many_lem ys h) (λ q. suc-ne-zero 0 q) e

pub returns-else-n-le-MAX_TRIANGLES : goal.returns-else-n-le-MAX_TRIANGLES
returns-else-n-le-MAX_TRIANGLES c = refused c.args.mesh.now c.args.starts.now c.args.corners.now c.if-n-le-MAX_TRIANGLES.false c.refusal.ensures
