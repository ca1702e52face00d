-- What the triangle across names back, by the tests of the code on its row: each law is one way
-- through `back_fault`. Assumes nothing.
use mathlib.Core.Path.{◌≡◌, sym, ◌∙◌, ap}
use mathlib.Core.Bool.{true, false, cond}
use mathlib.Core.List.{List, []}
use Prim.Native.Nat.{ℕ, ◌<◌}
use lib.Dec.{eqb}
use lib.ListN.{length, get_or}
use lib.IntN.{ℤ}
use Rattle.plane.specs.Plane.{Pt}
use Rattle.mesh.specs.Mesh.{Triangle, vertex, neighbour, triangle_at}
use Rattle.mesh.specs.Rows.{row_triangle, rows_mesh}
use Rattle.mesh.proofs.Rows.{triangle_row}
use Rattle.mesh_neighbors.specs.Earliest.{edge_fault, back_fault}

module _ (rows : List (List ℤ)) {n : ℕ} (k : ℕ) (h : n < length rows) (a b : Pt) {i j l : ℕ} (ei : i ≡ neighbour (row_triangle (get_or rows n [])) 0) (ej : j ≡ neighbour (row_triangle (get_or rows n [])) 1) (el : l ≡ neighbour (row_triangle (get_or rows n [])) 2) where
  abbrev u : Triangle
  u = row_triangle (get_or rows n [])

  abbrev answer : ℕ
  answer = back_fault (triangle_at (rows_mesh rows) n) k a b

  -- the tests are those of the row's three neighbours
  by_tests : answer ≡ cond (eqb i k) (cond (eqb j k) 4 (cond (eqb l k) 4 (edge_fault a b (vertex u 2) (vertex u 1)))) (cond (eqb j k) (cond (eqb l k) 4 (edge_fault a b (vertex u 0) (vertex u 2))) (cond (eqb l k) (edge_fault a b (vertex u 1) (vertex u 0)) 4))
  unfolding back_fault neighbour vertex
  by_tests =
      ap (λ t. back_fault t k a b) (triangle_row rows n h)
      ∙ sym (λ w. cond (eqb (ei w) k) (cond (eqb (ej w) k) 4 (cond (eqb (el w) k) 4 (edge_fault a b (vertex u 2) (vertex u 1)))) (cond (eqb (ej w) k) (cond (eqb (el w) k) 4 (edge_fault a b (vertex u 0) (vertex u 2))) (cond (eqb (el w) k) (edge_fault a b (vertex u 1) (vertex u 0)) 4)))

  pub first_alone : eqb i k ≡ true → eqb j k ≡ false → eqb l k ≡ false → {p q : Pt} {r : ℕ} → p ≡ vertex u 2 → q ≡ vertex u 1 → r ≡ edge_fault a b p q → r ≡ answer
  first_alone x y z ep eq er = er ∙ (λ w. edge_fault a b (ep w) (eq w)) ∙ sym (by_tests ∙ rw (x, y, z))

  pub second_alone : eqb i k ≡ false → eqb j k ≡ true → eqb l k ≡ false → {p q : Pt} {r : ℕ} → p ≡ vertex u 0 → q ≡ vertex u 2 → r ≡ edge_fault a b p q → r ≡ answer
  second_alone x y z ep eq er = er ∙ (λ w. edge_fault a b (ep w) (eq w)) ∙ sym (by_tests ∙ rw (x, y, z))

  pub third_alone : eqb i k ≡ false → eqb j k ≡ false → eqb l k ≡ true → {p q : Pt} {r : ℕ} → p ≡ vertex u 1 → q ≡ vertex u 0 → r ≡ edge_fault a b p q → r ≡ answer
  third_alone x y z ep eq er = er ∙ (λ w. edge_fault a b (ep w) (eq w)) ∙ sym (by_tests ∙ rw (x, y, z))

  pub first_second : eqb i k ≡ true → eqb j k ≡ true → 4 ≡ answer
  first_second x y = sym (by_tests ∙ rw (x, y))

  pub first_third : eqb i k ≡ true → eqb j k ≡ false → eqb l k ≡ true → 4 ≡ answer
  first_third x y z = sym (by_tests ∙ rw (x, y, z))

  pub second_third : eqb i k ≡ false → eqb j k ≡ true → eqb l k ≡ true → 4 ≡ answer
  second_third x y z = sym (by_tests ∙ rw (x, y, z))

  pub no_side : eqb i k ≡ false → eqb j k ≡ false → eqb l k ≡ false → 4 ≡ answer
  no_side x y z = sym (by_tests ∙ rw (x, y, z))
