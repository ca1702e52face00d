-- A row's vertices and neighbours by their places (`vertex_row`, `neighbour_row`), a mesh's
-- triangles by their rows (`triangle_row`). Assumes nothing.
use mathlib.Core.Path.{◌≡◌, refl}
use mathlib.Core.List.{List, [], ◌∷◌}
use Prim.Native.Nat.{ℕ, zero, suc, ◌+◌, ◌*◌, ◌<◌}
use native.Mathlib.Omega.{arith}
use lib.ListN.{length, get_or, length-map}
use lib.IntN.{ℤ}
use Rattle.integers.specs.Word.{unsigned}
use Rattle.mesh.specs.Mesh.{vertex, neighbour, triangle_at, opposite}
use Rattle.mesh.specs.Rows.{number, row_triangle, rows_mesh}
use Rattle.mesh.proofs.Sides.{opposite_side}

pub vertex_row : (row : List ℤ) (i : ℕ) → i < 3 → vertex (row_triangle row) i ≡ record { x = number row (2 * i); y = number row (2 * i + 1) }
unfolding vertex row_triangle
vertex_row row zero h = refl
vertex_row row (suc zero) h = refl
vertex_row row (suc (suc zero)) h = refl
vertex_row row (suc (suc (suc i))) h = absurd (omega arith)

pub neighbour_row : (row : List ℤ) (i : ℕ) → i < 3 → neighbour (row_triangle row) i ≡ unsigned (number row (6 + i))
unfolding neighbour row_triangle
neighbour_row row zero h = refl
neighbour_row row (suc zero) h = refl
neighbour_row row (suc (suc zero)) h = refl
neighbour_row row (suc (suc (suc i))) h = absurd (omega arith)

pub length_rows : (rows : List (List ℤ)) → length (rows_mesh rows) ≡ length rows
unfolding rows_mesh
length_rows rows = length-map rows row_triangle

pub triangle_row : (rows : List (List ℤ)) (k : ℕ) → k < length rows → triangle_at (rows_mesh rows) k ≡ row_triangle (get_or rows k [])
unfolding rows_mesh
triangle_row [] k h = absurd (omega arith)
triangle_row (r ∷ rows) zero h = refl
triangle_row (r ∷ rows) (suc k) h = triangle_row rows k (omega arith)

-- the side of a row that names a triangle is one of three
pub side_below : {j : ℕ} (row : List ℤ) (k : ℕ) → j ≡ opposite (row_triangle row) k → j < 3
side_below row k e = omega (arith, e, opposite_side (row_triangle row) k)
