-- The fault of a side: by the tests of the code (`side_none` and those after it), and as the mesh's
-- kinds tell it (`side_kinds`, `side_read`). Assumes nothing.
use mathlib.Core.Path.{◌≡◌, refl, sym, ◌∙◌, ap}
use mathlib.Core.Bool.{Bool, true, false, not, cond}
use mathlib.Core.List.{List, []}
use Prim.Native.Nat.{ℕ, zero, suc, ◌+◌, ◌≤◌, ◌<◌}
use native.Mathlib.Omega.{arith}
use borrow.Author.Tests.{eq-eqb, ne_eqb, le-leb, lt-leb}
use lib.Dec.{eqb, leb}
use lib.ListN.{length, get_or}
use lib.IntN.{ℤ}
use Rattle.integers.specs.Faults.{first_fault}
use Rattle.plane.specs.Plane.{Pt, eq_pt}
use Rattle.mesh.specs.Mesh.{Mesh, Triangle, none, vertex, neighbour, after, before, named, opposite, triangle_at, strays, runs_oppositely}
use Rattle.mesh.specs.Rows.{row_triangle, rows_mesh}
use Rattle.mesh.proofs.Rows.{length_rows, triangle_row}
use Rattle.mesh_neighbors.specs.Earliest.{edge_fault, back_fault, side_fault}
use Rattle.mesh_neighbors.proofs.Earliest.{kinds_at}

-- ---- by the tests of the code

module _ (rows : List (List ℤ)) (k n o p : ℕ) (a b : Pt) where
  abbrev answer : ℕ
  answer = side_fault (rows_mesh rows) k n o p a b

  pub side_none : n ≡ none → 0 ≡ answer
  unfolding side_fault
  side_none h = rw (eq-eqb n none h)

  module _ (d : n ≡ none → ⊥) where
    pub side_itself : n ≡ k → 3 ≡ answer
    unfolding side_fault
    side_itself h = rw (ne_eqb n none d, eq-eqb n k h)

    module _ (e : n ≡ k → ⊥) where
      pub side_past : length rows ≤ n → 3 ≡ answer
      unfolding side_fault
      side_past h = rw (ne_eqb n none d, ne_eqb n k e, le-leb (length (rows_mesh rows)) n (omega (arith, length_rows rows)))

      module _ (l : n < length rows) where
        inside : leb (length (rows_mesh rows)) n ≡ false
        inside = lt-leb (length (rows_mesh rows)) n (omega (arith, length_rows rows))

        pub side_second : o ≡ n → 4 ≡ answer
        unfolding side_fault
        side_second h = rw (ne_eqb n none d, ne_eqb n k e, inside, eq-eqb o n h)

        pub side_third : (o ≡ n → ⊥) → p ≡ n → 4 ≡ answer
        unfolding side_fault
        side_third g h = rw (ne_eqb n none d, ne_eqb n k e, inside, ne_eqb o n g, eq-eqb p n h)

        pub side_back : {r : ℕ} → (o ≡ n → ⊥) → (p ≡ n → ⊥) → r ≡ back_fault (triangle_at (rows_mesh rows) n) k a b → r ≡ answer
        unfolding side_fault
        side_back g h q = q ∙ rw (ne_eqb n none d, ne_eqb n k e, inside, ne_eqb o n g, ne_eqb p n h)

-- ---- as the mesh's kinds tell it

once_first : (x y : Bool) → eqb (1 + cond x 1 0 + cond y 1 0) 1 ≡ not (cond x true y)
once_first true true = refl
once_first true false = refl
once_first false true = refl
once_first false false = refl

once_second : (x y : Bool) → eqb (cond y 1 0 + 1 + cond x 1 0) 1 ≡ not (cond x true y)
once_second true true = refl
once_second true false = refl
once_second false true = refl
once_second false false = refl

once_third : (x y : Bool) → eqb (cond x 1 0 + cond y 1 0 + 1) 1 ≡ not (cond x true y)
once_third true true = refl
once_third true false = refl
once_third false true = refl
once_third false false = refl

-- a side's neighbour is named once where the other two sides do not name it
named_once : (t : Triangle) (i : ℕ) → i < 3 → eqb (named t (neighbour t i)) 1 ≡ not (cond (eqb (neighbour t (after i)) (neighbour t i)) true (eqb (neighbour t (before i)) (neighbour t i)))
unfolding named neighbour after
named_once t zero h = ap (λ s. eqb (cond s 1 0 + cond (eqb t.n1 t.n0) 1 0 + cond (eqb t.n2 t.n0) 1 0) 1) (eq-eqb t.n0 t.n0 refl) ∙ once_first (eqb t.n1 t.n0) (eqb t.n2 t.n0)
named_once t (suc zero) h = ap (λ s. eqb (cond (eqb t.n0 t.n1) 1 0 + cond s 1 0 + cond (eqb t.n2 t.n1) 1 0) 1) (eq-eqb t.n1 t.n1 refl) ∙ once_second (eqb t.n2 t.n1) (eqb t.n0 t.n1)
named_once t (suc (suc zero)) h = ap (λ s. eqb (cond (eqb t.n0 t.n2) 1 0 + cond (eqb t.n1 t.n2) 1 0 + cond s 1 0) 1) (eq-eqb t.n2 t.n2 refl) ∙ once_third (eqb t.n0 t.n2) (eqb t.n1 t.n2)
named_once t (suc (suc (suc i))) h = absurd (omega arith)

-- what the triangle across names back, and its edge, by the side that names
back_kinds : (u : Triangle) (k : ℕ) (a b : Pt) → back_fault u k a b ≡ cond (eqb (named u k) 1) (cond (cond (eq_pt a (vertex u (before (opposite u k)))) (eq_pt b (vertex u (after (opposite u k)))) false) 0 5) 4
unfolding back_fault edge_fault named opposite
back_kinds u k a b = cases (eqb u.n0 k) (eqb u.n1 k) (eqb u.n2 k)
  where
    edge : Pt → Pt → ℕ
    edge p q = cond (cond (eq_pt a p) (eq_pt b q) false) 0 5

    cases : (x y z : Bool) → cond x (cond y 4 (cond z 4 (edge u.v2 u.v1))) (cond y (cond z 4 (edge u.v0 u.v2)) (cond z (edge u.v1 u.v0) 4)) ≡ cond (eqb (cond x 1 0 + cond y 1 0 + cond z 1 0) 1) (edge (vertex u (before (cond x 0 (cond y 1 2)))) (vertex u (after (cond x 0 (cond y 1 2))))) 4
    cases true true true = refl
    cases true true false = refl
    cases true false true = refl
    cases true false false = unfold vertex after in refl
    cases false true true = refl
    cases false true false = unfold vertex after in refl
    cases false false true = unfold vertex after in refl
    cases false false false = refl

-- no neighbour; one that strays; one named twice; then what it names back, and its edge
kinds : (e s w x y : Bool) → ◌≡◌ {A = ℕ} (cond e 0 (cond s 3 (cond w 4 (cond x (cond y 0 5) 4)))) (cond (cond e false s) 3 (cond (cond e false (not (cond (not w) x false))) 4 (cond (cond e false (not y)) 5 0)))
kinds true s w x y = refl
kinds false true w x y = refl
kinds false false true x y = refl
kinds false false false true true = refl
kinds false false false true false = refl
kinds false false false false y = refl

pub side_kinds : (m : Mesh) (k : ℕ) {i : ℕ} → i < 3 → side_fault m k (neighbour (triangle_at m k) i) (neighbour (triangle_at m k) (after i)) (neighbour (triangle_at m k) (before i)) (vertex (triangle_at m k) (after i)) (vertex (triangle_at m k) (before i)) ≡ kinds_at m k i
unfolding side_fault first_fault runs_oppositely
side_kinds m k {i} h =
    let t = triangle_at m k in
    let n = neighbour t i in
    let u = triangle_at m n in
    ap (λ w. cond (eqb n none) 0 (cond (strays (length m) k n) 3 (cond (cond (eqb (neighbour t (after i)) n) true (eqb (neighbour t (before i)) n)) 4 w))) (back_kinds u k (vertex t (after i)) (vertex t (before i)))
    ∙ kinds (eqb n none) (strays (length m) k n) (cond (eqb (neighbour t (after i)) n) true (eqb (neighbour t (before i)) n)) (eqb (named u k) 1) (runs_oppositely t i u (opposite u k))
    ∙ ap (λ w. cond (cond (eqb n none) false (strays (length m) k n)) 3 (cond (cond (eqb n none) false (not (cond w (eqb (named u k) 1) false))) 4 (cond (cond (eqb n none) false (not (runs_oppositely t i u (opposite u k)))) 5 0)))
    (sym (named_once t i h))

-- the same of a row's numbers and points
pub side_read : (rows : List (List ℤ)) {k i : ℕ} → k < length rows → i < 3 → {n o p r : ℕ} {a b : Pt} → n ≡ neighbour (row_triangle (get_or rows k [])) i → o ≡ neighbour (row_triangle (get_or rows k [])) (after i) → p ≡ neighbour (row_triangle (get_or rows k [])) (before i) → a ≡ vertex (row_triangle (get_or rows k [])) (after i) → b ≡ vertex (row_triangle (get_or rows k [])) (before i) → r ≡ side_fault (rows_mesh rows) k n o p a b → r ≡ kinds_at (rows_mesh rows) k i
side_read rows {k} {i} h l en eo ep ea eb er =
    let w = sym (triangle_row rows k h) in
    er ∙ (λ j. side_fault (rows_mesh rows) k (en j) (eo j) (ep j) (ea j) (eb j))
    ∙ ap (λ t. side_fault (rows_mesh rows) k (neighbour t i) (neighbour t (after i)) (neighbour t (before i)) (vertex t (after i)) (vertex t (before i))) w ∙ side_kinds (rows_mesh rows) k l
