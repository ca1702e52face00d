-- Bounds that points are brought into. In order: a row's vertices; row after row. Assumes nothing.
use mathlib.Core.Path.{◌≡◌, refl, sym, ◌∙◌, ap}
use mathlib.Core.List.{List, [], ◌∷◌, ◌++◌}
use Prim.Native.Nat.{ℕ, suc, ◌+◌, ◌<◌, ◌≤◌}
use native.Mathlib.Numerals.{add-one}
use native.Mathlib.Omega.{arith}
use lib.ListN.{length, get_or, drop, drop_of_length-le}
use lib.Seq.{drop-cons}
use lib.IntN.{ℤ, pos}
use Rattle.plane.specs.Plane.{Pt}
use Rattle.mesh.specs.Mesh.{Triangle, vertex}
use Rattle.mesh.specs.Rows.{row_triangle, rows_mesh}
use Rattle.table.specs.declared.IntRect.{IntRect}
use Rattle.mesh_bounds.specs.Bounds.{widened, widened_by, point_bounds, corners, vertices_of, bounds_of, mesh_bounds}

-- ---- points

pub widened_append : (b : IntRect) (l m : List Pt) → widened_by b (l ++ m) ≡ widened_by (widened_by b l) m
unfolding widened_by
widened_append b [] m = refl
widened_append b (p ∷ l) m = widened_append (widened b p) l m

-- three points, one after another
pub three_points : (t : Triangle) (b : IntRect) {b₁ b₂ b₃ : IntRect} {p q s : Pt} → p ≡ vertex t 0 → q ≡ vertex t 1 → s ≡ vertex t 2 → b₁ ≡ widened b p → b₂ ≡ widened b₁ q → b₃ ≡ widened b₂ s → b₃ ≡ widened_by b (corners t)
unfolding widened_by vertex
three_points t b ep eq es e₁ e₂ e₃ = e₃ ∙ (λ i. widened ((e₂ ∙ (λ j. widened ((e₁ ∙ ap (widened b) ep) j) (eq j))) i) (es i))

-- ---- rows

pub rows_done : (rows : List (List ℤ)) (b : IntRect) (k : ℕ) → length rows ≤ k → widened_by b (vertices_of (rows_mesh (drop k rows))) ≡ b
unfolding widened_by vertices_of rows_mesh
rows_done rows b k h = rw (drop_of_length-le rows h)

pub rows_more : (rows : List (List ℤ)) (d : List ℤ) (b : IntRect) {k : ℕ} → k < length rows → {b' : IntRect} → b' ≡ widened_by b (corners (row_triangle (get_or rows k d))) → widened_by b (vertices_of (rows_mesh (drop k rows))) ≡ widened_by b' (vertices_of (rows_mesh (drop (k + 1) rows)))
unfolding vertices_of rows_mesh
rows_more rows d b {k} h {b'} e =
    rw (drop-cons rows k d h, add-one)
    (widened_append b (corners (row_triangle (get_or rows k d))) (vertices_of (rows_mesh (drop (suc k) rows))) ∙ ap (λ x. widened_by x (vertices_of (rows_mesh (drop (suc k) rows)))) (sym e))

pub rows_begin : (rows : List (List ℤ)) (d : List ℤ) → (length rows ≡ 0 → ⊥) → {p : Pt} {b : IntRect} → p ≡ vertex (row_triangle (get_or rows 0 d)) 0 → b ≡ point_bounds p → widened_by b (vertices_of (rows_mesh (drop 0 rows))) ≡ mesh_bounds (rows_mesh rows)
unfolding vertices_of rows_mesh bounds_of vertex
rows_begin [] d h ep eb = absurd (h refl)
rows_begin (r ∷ rows) d h ep eb = ap (λ x. widened_by x (vertices_of (rows_mesh (r ∷ rows)))) (eb ∙ ap point_bounds ep)

pub rows_none : (rows : List (List ℤ)) → length rows ≡ 0 → record { min_x = pos 0; max_x = pos 0; min_y = pos 0; max_y = pos 0 } ≡ mesh_bounds (rows_mesh rows)
unfolding vertices_of rows_mesh bounds_of
rows_none [] e = refl
rows_none (r ∷ rows) e = absurd (omega (arith, e))
