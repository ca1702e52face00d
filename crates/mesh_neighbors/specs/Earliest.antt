-- The first of faults 3, 4 and 5 that holds: of a mesh, of a triangle, of a side. They are numbered
-- in the order in which document 01 tries them, so the mesh's is the least that a side tells.
-- Assumes nothing.
use Rattle.std.specs.Prelude.{Bool, true, false, cond, List, [], ◌∷◌, ℕ, eqb, ltb, length}
use Rattle.integers.specs.Faults.{Kind, first_fault, fault_edge, fault_naming, fault_stray}
use Rattle.plane.specs.Plane.{Pt, eq_pt}
use Rattle.mesh.specs.Mesh.{Mesh, Triangle, none, triangle_at, some_side, shared, strays, misnames, mismatches, stray_neighbour, misnamed, mismatched}

abbrev pub neighbour_kinds : Bool → Bool → Bool → List Kind
neighbour_kinds a b c = (fault_stray, a) ∷ (fault_naming, b) ∷ (fault_edge, c) ∷ []

unfoldable pub neighbour_fault : Mesh → ℕ
neighbour_fault m = first_fault (neighbour_kinds (stray_neighbour m) (misnamed m) (mismatched m))

-- of triangle k
abbrev pub row_fault : Mesh → ℕ → ℕ
row_fault m k =
    first_fault
    (neighbour_kinds
    (some_side (shared (triangle_at m k) (λ i n. strays (length m) k n)))
    (some_side (shared (triangle_at m k) (λ i n. misnames m k (triangle_at m k) n)))
    (some_side (shared (triangle_at m k) (mismatches m k (triangle_at m k)))))

-- 5 where the edge from p to q is not the one from a to b
unfoldable pub edge_fault : Pt → Pt → Pt → Pt → ℕ
edge_fault a b p q = cond (cond (eq_pt a p) (eq_pt b q) false) 0 fault_edge

-- of triangle u, which triangle k names over the edge from a to b: 4 where u does not name k back
-- exactly once, 5 where their edge does not run from b to a
unfoldable pub back_fault : Triangle → ℕ → Pt → Pt → ℕ
back_fault u k a b =
    cond (eqb u.n0 k)
    (cond (eqb u.n1 k) fault_naming (cond (eqb u.n2 k) fault_naming (edge_fault a b u.v2 u.v1)))
    (cond (eqb u.n1 k) (cond (eqb u.n2 k) fault_naming (edge_fault a b u.v0 u.v2))
    (cond (eqb u.n2 k) (edge_fault a b u.v1 u.v0) fault_naming))

-- of triangle k's side from a to b, across which it names n; o and p are its other two neighbours
unfoldable pub side_fault : Mesh → ℕ → ℕ → ℕ → ℕ → Pt → Pt → ℕ
side_fault m k n o p a b = cond (eqb n none) 0 (cond (strays (length m) k n) fault_stray (cond (cond (eqb o n) true (eqb p n)) fault_naming (back_fault (triangle_at m n) k a b)))

-- the lesser of two numbers, of which 0 is none
unfoldable pub earlier : ℕ → ℕ → ℕ
earlier a b = cond (eqb a 0) b (cond (eqb b 0) a (cond (ltb a b) a b))
