-- The mesh and its faults (document 01, "Tables the desks exchange", "Faults that come from the
-- input"). Each fault is a test over the whole mesh. Assumes nothing.
use Rattle.std.specs.Prelude.{Bool, true, false, not, cond, List, [], ◌∷◌, map, ℕ, zero, suc, ◌+◌, eqb, leb, ltb, length, get_or, ℤ, pos}
use Rattle.std.specs.Int.Signed.{le_z, lt_z}
use Rattle.integers.specs.Lists.{sumℤ}
use Rattle.integers.specs.Faults.{Kind, fault_edge, fault_flat, fault_naming, fault_range, fault_stray, fault_total, fault_triangles}
use Rattle.plane.specs.Plane.{Pt, O, eq_pt, on_grid, area_two}

-- ---- "A mesh is a list of triangles, each record with three points and three neighbours."

pub record Triangle : Type 0 where
  pub v0 : Pt
  pub v1 : Pt
  pub v2 : Pt
  pub n0 : ℕ
  pub n1 : ℕ
  pub n2 : ℕ

abbrev pub Mesh : Type 0
Mesh = List Triangle

-- "None is 4,294,967,295."
abbrev pub none : ℕ
none = 4294967295

-- vertex i, and the neighbour across from it
unfoldable pub vertex : Triangle → ℕ → Pt
vertex t zero = t.v0
vertex t (suc zero) = t.v1
vertex t (suc (suc i)) = t.v2

unfoldable pub neighbour : Triangle → ℕ → ℕ
neighbour t zero = t.n0
neighbour t (suc zero) = t.n1
neighbour t (suc (suc i)) = t.n2

-- the vertex after vertex i, counter-clockwise
unfoldable pub after : ℕ → ℕ
after zero = 1
after (suc zero) = 2
after (suc (suc i)) = 0

abbrev pub before : ℕ → ℕ
before i = after (after i)

-- a triangle with nothing in it, for a number past the mesh
abbrev pub no_triangle : Triangle
no_triangle = record { v0 = O; v1 = O; v2 = O; n0 = none; n1 = none; n2 = none }

abbrev pub triangle_at : Mesh → ℕ → Triangle
triangle_at m k = get_or m k no_triangle

-- the doubled area of a triangle, above 0 where it runs counter-clockwise
abbrev pub triangle_area : Triangle → ℤ
triangle_area t = area_two t.v0 t.v1 t.v2

-- ---- tests over all triangles and their sides

-- some triangle passes, each with its number, from k on
unfoldable pub some_from : (ℕ → Triangle → Bool) → ℕ → Mesh → Bool
some_from test k [] = false
some_from test k (t ∷ m) = cond (test k t) true (some_from test (suc k) m)

abbrev pub some : (ℕ → Triangle → Bool) → Mesh → Bool
some test m = some_from test 0 m

-- some side passes
abbrev pub some_side : (ℕ → Bool) → Bool
some_side test = cond (test 0) true (cond (test 1) true (test 2))

-- a side that has a neighbour, and passes
abbrev pub shared : Triangle → (ℕ → ℕ → Bool) → ℕ → Bool
shared t test i = cond (eqb (neighbour t i) none) false (test i (neighbour t i))

-- ---- the faults

-- 1: "more than 1,024 triangles"
abbrev pub max_triangles : ℕ
max_triangles = 1024

unfoldable pub too_many : Mesh → Bool
too_many m = ltb max_triangles (length m)

-- 2: "a coordinate .. not strictly between −2^30 and 2^30"
abbrev pub triangle_off : Triangle → Bool
triangle_off t = not (cond (on_grid t.v0) (cond (on_grid t.v1) (on_grid t.v2) false) false)

unfoldable pub off_grid : Mesh → Bool
off_grid m = some (λ k t. triangle_off t) m

-- 3: "a neighbour neither none nor in the mesh, or the triangle itself": neighbour n of triangle k,
-- of count triangles
abbrev pub strays : ℕ → ℕ → ℕ → Bool
strays count k n = cond (eqb n k) true (leb count n)

unfoldable pub stray_neighbour : Mesh → Bool
stray_neighbour m = some (λ k t. some_side (shared t (λ i n. strays (length m) k n))) m

-- how many sides of t name triangle n
unfoldable pub named : Triangle → ℕ → ℕ
named t n = cond (eqb t.n0 n) 1 0 + cond (eqb t.n1 n) 1 0 + cond (eqb t.n2 n) 1 0

-- 4: "a neighbour named twice, or not naming back exactly once": neighbour n of triangle k, t
abbrev pub misnames : Mesh → ℕ → Triangle → ℕ → Bool
misnames m k t n = not (cond (eqb (named t n) 1) (eqb (named (triangle_at m n) k) 1) false)

unfoldable pub misnamed : Mesh → Bool
misnamed m = some (λ k t. some_side (shared t (λ i n. misnames m k t n))) m

-- the side of t that names n: the Rust's `opposite`, in its release build
unfoldable pub opposite : Triangle → ℕ → ℕ
opposite t n = cond (eqb t.n0 n) 0 (cond (eqb t.n1 n) 1 2)

-- side i of t runs from the vertex after i to the one before; side j of u runs oppositely
unfoldable pub runs_oppositely : Triangle → ℕ → Triangle → ℕ → Bool
runs_oppositely t i u j = cond (eq_pt (vertex t (after i)) (vertex u (before j))) (eq_pt (vertex t (before i)) (vertex u (after j))) false

-- 5: "a shared edge whose ends differ or don't run oppositely": side i of triangle k, t, shared
-- with n
abbrev pub mismatches : Mesh → ℕ → Triangle → ℕ → ℕ → Bool
mismatches m k t i n = not (runs_oppositely t i (triangle_at m n) (opposite (triangle_at m n) k))

unfoldable pub mismatched : Mesh → Bool
mismatched m = some (λ k t. some_side (shared t (mismatches m k t))) m

-- 6: "a triangle's doubled area not above 0"
unfoldable pub flat : Mesh → Bool
flat m = some (λ k t. le_z (triangle_area t) (pos 0)) m

-- 11: "doubled areas of the mesh add up to more than 2^63−1"
unfoldable pub mesh_area : Mesh → ℤ
mesh_area m = sumℤ (map triangle_area m)

unfoldable pub too_large : Mesh → Bool
too_large m = lt_z (pos 9223372036854775807) (mesh_area m)

-- "Mesh: 1, 2, 3, 4, 5, 6, 11, 22, 21": those of the mesh itself
abbrev pub mesh_kinds : Mesh → List Kind
mesh_kinds m =
    (fault_triangles, too_many m) ∷ (fault_range, off_grid m) ∷ (fault_stray, stray_neighbour m) ∷ (fault_naming, misnamed m) ∷ (fault_edge, mismatched m) ∷ (fault_flat, flat m) ∷ (fault_total, too_large m) ∷ []
