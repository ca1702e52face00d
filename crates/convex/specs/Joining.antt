-- Joining (document 01, "Joining"): a stack of edges and a contour, as the paper has it. Assumes
-- nothing.
use Rattle.std.specs.Prelude.{◌≡◌, Bool, true, false, cond, ℕ, zero, suc, ◌+◌, ◌*◌, ◌-◌, eqb, length, get_or, ℤ, pos}
use mathlib.Core.List.{List, [], ◌∷◌, ◌++◌, map, flatten}
use Rattle.std.specs.Int.Signed.{le_z, lt_z}
use Rattle.integers.specs.Lists.{All, sumℤ, up_to, ExactlyOnce, rotate, neighbours}
use Rattle.integers.specs.Test.{eq_z}
use Rattle.integers.specs.Faults.{first_fault}
use Rattle.plane.specs.Plane.{Pt, O, ◌-ᵖ◌, cross, turn}
use Rattle.plane.specs.Contour.{last_of, edges, contour_area}
use Rattle.mesh.specs.Mesh.{Triangle, Mesh, none, vertex, neighbour, after, before, triangle_at, triangle_area, opposite, mesh_area, mesh_kinds}
use Rattle.table.specs.declared.Counts.{Counts}
use Rattle.table.specs.Table.{room_kinds, counts_of, written, starts_of, corners_of, Answered, table_broken}

-- ---- a region: its contour, its stack of edges, the triangles taken

-- a corner of the contour, with its number in the order in which the region's corners were added
pub record Corner : Type 0 where
  pub number : ℕ
  pub point : Pt

-- an edge of the contour: the triangle inside it, the neighbour across, and its two ends by their
-- numbers
pub record Edge : Type 0 where
  pub inside : ℕ
  pub across : ℕ
  pub a : ℕ
  pub b : ℕ

pub record Region : Type 0 where
  pub contour : List Corner
  pub stack : List Edge
  pub taken : List ℕ

-- "where there is a neighbour": an edge on top of the stack
unfoldable pub stacked : ℕ → ℕ → ℕ → ℕ → List Edge → List Edge
stacked inside across a b s = cond (eqb across none) s (record { inside = inside; across = across; a = a; b = b } ∷ s)

-- "Edges are stacked ab, bc, ca, then taken from the top." Neighbour i lies across from vertex i,
-- so ca is across from vertex 1.
unfoldable pub start : ℕ → Triangle → Region
start k t = record {
  contour = record { number = 0; point = vertex t 0 } ∷ record { number = 1; point = vertex t 1 } ∷ record { number = 2; point = vertex t 2 } ∷ [];
  stack = stacked k (neighbour t 1) 2 0 (stacked k (neighbour t 0) 1 2 (stacked k (neighbour t 2) 0 1 []));
  taken = k ∷ [];
}

-- ---- corners round the contour

-- the point of the corner numbered n
unfoldable pub point_numbered : ℕ → List Corner → Pt
point_numbered n [] = O
point_numbered n (c ∷ l) = cond (eqb c.number n) c.point (point_numbered n l)

-- the second of the pair whose first is numbered n: the corner after it
unfoldable pub after_in : ℕ → List (Corner × Corner) → Pt
after_in n [] = O
after_in n (e ∷ l) = cond (eqb e.0.number n) e.1.point (after_in n l)

unfoldable pub before_in : ℕ → List (Corner × Corner) → Pt
before_in n [] = O
before_in n (e ∷ l) = cond (eqb e.1.number n) e.0.point (before_in n l)

-- "a0 before a, b0 after b", round the contour
abbrev pub point_after : ℕ → List Corner → Pt
point_after n l = after_in n (neighbours l)

abbrev pub point_before : ℕ → List Corner → Pt
point_before n l = before_in n (neighbours l)

-- c put after the corner numbered n
unfoldable pub put_after : ℕ → Corner → List Corner → List Corner
put_after n c [] = []
put_after n c (d ∷ l) = cond (eqb d.number n) (d ∷ c ∷ l) (d ∷ put_after n c l)

-- ---- one edge taken from the top

-- "It joins when (a−a0) cross (p−a) and (b−p) cross (b0−b) are both at least 0."
unfoldable pub joins : Pt → Pt → Pt → Pt → Pt → Bool
joins a0 a p b b0 = cond (le_z (pos 0) (cross (a -ᵖ a0) (p -ᵖ a))) (le_z (pos 0) (cross (b -ᵖ p) (b0 -ᵖ b))) false

-- "Then edge a-p is stacked before p-b, where there is a neighbour": v is the far vertex of the
-- neighbour u
unfoldable pub joined : Edge → Triangle → ℕ → List Edge → List Corner → List ℕ → Region
joined e u v s l taken = record {
  contour = put_after e.a (record { number = length l; point = vertex u v }) l;
  stack = stacked e.across (neighbour u (before v)) (length l) e.b (stacked e.across (neighbour u (after v)) e.a (length l) s);
  taken = taken ++ (e.across ∷ []);
}

-- let "p be its far vertex, a and b the edge's ends, a0 before a, b0 after b"
abbrev pub joins_at : Edge → Triangle → ℕ → List Corner → Bool
joins_at e u v l = joins (point_before e.a l) (point_numbered e.a l) (vertex u v) (point_numbered e.b l) (point_after e.b l)

unfoldable pub is_in : ℕ → List ℕ → Bool
is_in n [] = false
is_in n (k ∷ l) = cond (eqb k n) true (is_in n l)

-- the region without its top edge
abbrev pub dropped : List Edge → Region → Region
dropped s r = record { contour = r.contour; stack = s; taken = r.taken }

-- "A neighbour already taken is skipped": seen are those taken by earlier regions. u is the
-- neighbour across the edge, v its far vertex
unfoldable pub step : Mesh → List ℕ → Edge → List Edge → Region → Region
step m seen e s r =
    let u = triangle_at m e.across in
    let v = opposite u e.inside in
    cond (is_in e.across (seen ++ r.taken)) (dropped s r)
    (cond (joins_at e u v r.contour) (joined e u v s r.contour r.taken)
    (dropped s r))

-- taken from the top until the stack is empty; n is how many edges are taken at the most
unfoldable pub grow : ℕ → Mesh → List ℕ → Region → Region
grow zero m seen r = r
grow (suc n) m seen r = elim r.stack [ [] ↦ r | e ∷ s ↦ grow n m seen (step m seen e s r) ]

-- at the start three edges, and each triangle that joins puts two for one
abbrev pub enough : Mesh → ℕ
enough m = 2 * length m + 3

abbrev pub region : Mesh → List ℕ → ℕ → Region
region m seen k = grow (enough m) m seen (start k (triangle_at m k))

-- ---- all regions

-- "Unvisited triangles start regions in table order."
unfoldable pub regions_from : Mesh → List ℕ → List ℕ → List Region
regions_from m seen [] = []
regions_from m seen (k ∷ l) = cond (is_in k seen) (regions_from m seen l) (region m seen k ∷ regions_from m (seen ++ (region m seen k).taken) l)

unfoldable pub regions : Mesh → List Region
regions m = regions_from m [] (up_to (length m))

-- ---- contours

-- the place of the corner numbered n
unfoldable pub place_of : ℕ → List Corner → ℕ
place_of n [] = 0
place_of n (c ∷ l) = cond (eqb c.number n) 0 (suc (place_of n l))

-- "The contour runs from the last vertex added, counter-clockwise (a lone triangle: vertex 2, 0,
-- 1)."
abbrev pub from_last : List Corner → List Pt
from_last l = map (λ c. c.point) (rotate (place_of (length l - 1) l) l)

-- b, unless its turn from a to c is 0, before the rest
abbrev pub kept_by : Pt → Pt → Pt → List Pt → List Pt
kept_by a b c rest = cond (eq_z (turn a b c) (pos 0)) rest (b ∷ rest)

-- those of a list whose turn is not 0, where a is before it and f after it
unfoldable pub turning : Pt → Pt → List Pt → List Pt
turning a f [] = []
turning a f (b ∷ []) = kept_by a b f []
turning a f (b ∷ c ∷ l) = kept_by a b c (turning b f (c ∷ l))

-- "Corners whose turn is 0 are dropped, order kept; the first is never one."
unfoldable pub without_straight : List Pt → List Pt
without_straight [] = []
without_straight (p ∷ l) = turning (last_of p l) p (p ∷ l)

unfoldable pub contour_of : Region → List Pt
contour_of r = without_straight (from_last r.contour)

-- the parts of a mesh before any split: `to_convex_polygons`
unfoldable pub parts : Mesh → List (List Pt)
parts m = map contour_of (regions m)

-- "Mesh: 1, 2, 3, 4, 5, 6, 11, 22, 21": the room is the lent starts' and the lent corners' length
unfoldable pub parts_fault : Mesh → ℕ → ℕ → ℕ
parts_fault m starts corners = first_fault (mesh_kinds m ++ room_kinds (parts m) starts corners)

-- what a call answers and leaves in the lent starts and corners, which held s and c
abbrev pub PartsAnswered : Mesh → List ℕ → List ℤ → Counts → List ℕ → List ℤ → Type 0
PartsAnswered m s c r s' c' = Answered (parts_fault m (length s) (length c)) (parts m) s c r s' c'

-- the same, each by itself
abbrev pub parts_counts : Mesh → List ℕ → List ℤ → Counts
parts_counts m s c = counts_of (parts_fault m (length s) (length c)) (parts m)

abbrev pub parts_starts : Mesh → List ℕ → List ℤ → List ℕ
parts_starts m s c = written (parts_fault m (length s) (length c)) (starts_of (parts m)) s

abbrev pub parts_corners : Mesh → List ℕ → List ℤ → List ℤ
parts_corners m s c = written (parts_fault m (length s) (length c)) (corners_of (parts m)) c

-- ---- "before any split each triangle is taken into exactly one part" (demand 2), and the contour
-- is built of just those

pub record TakenOnce (m : Mesh) : Type 0 where
  pub once : ExactlyOnce (length m) (flatten (map (λ r. r.taken) (regions m)))
  pub areas : All (λ r. contour_area (contour_of r) ≡ sumℤ (map (λ k. triangle_area (triangle_at m k)) r.taken)) (regions m)

abbrev pub EachTakenOnce : Type 0
EachTakenOnce = (m : Mesh) → first_fault (mesh_kinds m) ≡ 0 → TakenOnce m

-- so the parts' doubled areas add up to the mesh's
abbrev pub PartsArea : Type 0
PartsArea = (m : Mesh) → first_fault (mesh_kinds m) ≡ 0 → sumℤ (map contour_area (parts m)) ≡ mesh_area m

-- ---- "the first is never one"

-- the turn at the first corner of a list, round it
unfoldable pub first_turn : List Pt → ℤ
first_turn [] = pos 0
first_turn (p ∷ []) = pos 0
first_turn (p ∷ c ∷ l) = turn (last_of c l) p c

-- the last vertex added has a turn above 0, so it is where the part starts; and no corner of a part
-- has turn 0
pub record Straightened (m : Mesh) : Type 0 where
  pub first : All (λ r. lt_z (pos 0) (first_turn (from_last r.contour)) ≡ true) (regions m)
  pub stays : All (λ r. get_or (contour_of r) 0 O ≡ get_or (from_last r.contour) 0 O) (regions m)
  pub turns : All (λ l. All (λ t. eq_z (cross t.0 t.1) (pos 0) ≡ false) (neighbours (edges l))) (parts m)

abbrev pub EachStraightened : Type 0
EachStraightened = (m : Mesh) → first_fault (mesh_kinds m) ≡ 0 → Straightened m

-- the answer is a part table within the limits: 7 never refuses what joining gives
abbrev pub PartsTable : Type 0
PartsTable = (m : Mesh) → first_fault (mesh_kinds m) ≡ 0 → table_broken (starts_of (parts m)) (corners_of (parts m)) ≡ false
