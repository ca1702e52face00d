-- One pass over the rows of a mesh: what is known before row k (`Pass`), at the start, where a row
-- passes the test, at the next row, at the end; and what a pass over the coordinates leaves known
-- of each row (`row_on_grid`). Assumes nothing.
use mathlib.Core.Path.{◌≡◌, refl, sym, ◌∙◌, ap}
use mathlib.Core.Bool.{Bool, true, false, cond}
use mathlib.Core.List.{List, []}
use Prim.Native.Nat.{ℕ, suc, ◌+◌, ◌≤◌, ◌<◌}
use native.Mathlib.Omega.{arith}
use native.Mathlib.Numerals.{add-one}
use lib.ListN.{length, get_or, drop}
use lib.IntN.{ℤ}
use Rattle.plane.specs.Plane.{on_grid}
use Rattle.mesh.specs.Mesh.{vertex, off_grid, Triangle, some_from, some}
use Rattle.mesh.specs.Rows.{row_triangle, rows_mesh, RowOnGrid}
use Rattle.mesh.proofs.Accepted.{grid_rule}
use Rattle.mesh.proofs.Sides.{some_turn, some_end}
use Rattle.mesh.proofs.Rows.{length_rows, triangle_row}

-- ---- the rows

-- no row before k passes the test
pub record Pass (test : ℕ → Triangle → Bool) (rows : List (List ℤ)) (k : ℕ) : Type 0 where
  pub rest : some test (rows_mesh rows) ≡ some_from test k (drop k (rows_mesh rows))

module _ (test : ℕ → Triangle → Bool) (rows : List (List ℤ)) where
  pub pass_start : Pass test rows 0
  pass_start = record { rest = refl }

  turn : {k : ℕ} → k < length rows → some_from test k (drop k (rows_mesh rows)) ≡ cond (test k (row_triangle (get_or rows k []))) true (some_from test (suc k) (drop (suc k) (rows_mesh rows)))
  turn {k} h =
      some_turn test (rows_mesh rows) (omega (arith, length_rows rows))
      ∙ ap (λ t. cond (test k t) true (some_from test (suc k) (drop (suc k) (rows_mesh rows)))) (triangle_row rows k h)

  pub pass_found : {k : ℕ} → k < length rows → Pass test rows k → test k (row_triangle (get_or rows k [])) ≡ true → true ≡ some test (rows_mesh rows)
  pass_found {k} h p e = sym (p.rest ∙ turn h ∙ rw e)

  pub pass_next : {k : ℕ} → k < length rows → Pass test rows k → test k (row_triangle (get_or rows k [])) ≡ false → Pass test rows (k + 1)
  pass_next {k} h p e = record { rest = p.rest ∙ turn h ∙ rw (e, add-one) }

  pub pass_end : {k : ℕ} → length rows ≤ k → Pass test rows k → false ≡ some test (rows_mesh rows)
  pass_end {k} h p = sym (p.rest ∙ some_end test (rows_mesh rows) (omega (arith, length_rows rows)))

-- ---- a row

-- where no coordinate is off the grid, each row's are on it
pub row_on_grid : (rows : List (List ℤ)) {k : ℕ} → k < length rows → off_grid (rows_mesh rows) ≡ false → RowOnGrid (get_or rows k [])
row_on_grid rows {k} h e = record { on = λ i. ap (λ t. on_grid (vertex t i)) (sym (triangle_row rows k h)) ∙ grid_rule (rows_mesh rows) e i (omega (arith, length_rows rows)) }
