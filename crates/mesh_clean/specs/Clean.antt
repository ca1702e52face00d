-- A clean mesh: what two passes over the rows ask before a mesh is accepted (`clean_accepted` in
-- proofs/Accepted), first of each triangle and the total, then of the sides. Of a side less is
-- asked than faults 3, 4 and 5 do: the rest follows where every doubled area is above 0. Assumes
-- nothing.
use Rattle.std.specs.Prelude.{Bool, true, false, not, cond, List, [], ◌∷◌, ℕ, suc, ◌+◌, eqb, ltb, pos}
use Rattle.plane.specs.Plane.{Pt, eq_pt}
use Rattle.mesh.specs.Mesh.{Mesh, Triangle, none, triangle_at}
use Rattle.mesh_sound.specs.Sound.{sound_from}

-- the edge from a to b is the one from p to q
unfoldable pub same_edge : Pt → Pt → Pt → Pt → Bool
same_edge a b p q = cond (eq_pt a p) (eq_pt b q) false

-- of triangle u, which triangle k names over the edge from a to b: the first side that names k back
-- runs from b to a
unfoldable pub shares_back : Triangle → ℕ → Pt → Pt → Bool
shares_back u k a b =
    cond (eqb u.n0 k) (same_edge u.v1 u.v2 b a)
    (cond (eqb u.n1 k) (same_edge u.v2 u.v0 b a)
    (cond (eqb u.n2 k) (same_edge u.v0 u.v1 b a) false))

-- a side of triangle k names n, a triangle before its own
abbrev pub names_before : ℕ → ℕ → Bool
names_before k n = ltb n k

-- n is neither before k nor none: where every edge is shared a triangle after k, else perhaps k
-- itself, or a number past the mesh
abbrev pub names_after : ℕ → ℕ → Bool
names_after k n = cond (ltb n k) false (not (eqb n none))

-- of triangle k's side from a to b, across which it names n: a triangle before its own shares the
-- edge
unfoldable pub shares_edge : Mesh → ℕ → ℕ → Pt → Pt → Bool
shares_edge m k n a b = cond (names_before k n) (shares_back (triangle_at m n) k a b) true

-- of triangle k, t: on its three sides
unfoldable pub shares_all : Mesh → ℕ → Triangle → Bool
shares_all m k t =
    cond (shares_edge m k t.n0 t.v1 t.v2) (cond (shares_edge m k t.n1 t.v2 t.v0) (shares_edge m k t.n2 t.v0 t.v1) false) false

-- and of all triangles from k on
unfoldable pub linked_from : Mesh → ℕ → List Triangle → Bool
linked_from m k [] = true
linked_from m k (t ∷ l) = cond (shares_all m k t) (linked_from m (suc k) l) false

-- how many sides of triangle k, t, pass a test of k and the number named, and of all triangles from
-- k on
unfoldable pub sides_with : (ℕ → ℕ → Bool) → ℕ → Triangle → ℕ
sides_with test k t = cond (test k t.n0) 1 0 + cond (test k t.n1) 1 0 + cond (test k t.n2) 1 0

unfoldable pub sides_from : (ℕ → ℕ → Bool) → ℕ → List Triangle → ℕ
sides_from test k [] = 0
sides_from test k (t ∷ l) = sides_with test k t + sides_from test (suc k) l

-- the second pass: each edge is shared that is asked for, from its later triangle, and as many
-- sides name a later triangle as were asked for: so there is none left
abbrev pub linked : Mesh → Bool
linked m = cond (linked_from m 0 m) (eqb (sides_from names_before 0 m) (sides_from names_after 0 m)) false

-- both passes
abbrev pub clean : Mesh → Bool
clean m = cond (sound_from (pos 0) m) (linked m) false
