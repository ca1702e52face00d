-- The buffers that the parts of a mesh are gathered in, one region after another. Assumes nothing.
use Rattle.std.specs.Prelude.{◌≡◌, Bool, cond, ℕ, ◌+◌, ◌*◌, ◌≤◌, ◌<◌, length, get_or, ℤ, nat_abs}
use mathlib.Core.List.{List, [], ◌∷◌, ◌++◌}
use Rattle.plane.specs.Plane.{Pt}
use Rattle.mesh.specs.Mesh.{Mesh}
use Rattle.mesh.specs.Rows.{number}
use Rattle.convex.specs.Joining.{is_in}
use Rattle.convex.specs.Zipper.{zipped, contour_z}
use Rattle.points.specs.declared.Tally.{Tally}
use Rattle.points.specs.Gathered.{Gathered}
use Rattle.convex_ring.specs.Buffers.{free, Marked, RegionBuffers}

-- a mesh of at most so many triangles is tiny, small, or medium: its work arrays are of that size
abbrev pub tiny : ℕ
tiny = 16

abbrev pub small : ℕ
small = 128

abbrev pub medium : ℕ
medium = 512

-- the sum of a number of each element
abbrev pub total : {A : Type 0} → (A → ℕ) → List A → ℕ
total f [] = 0
total f (a ∷ l) = f a + total f l

-- what stands in a corner, in an edge across, in a flag: 0 where nothing was put in yet
abbrev pub in_corner : List ℤ → ℕ
in_corner r = nat_abs (number r 0) + nat_abs (number r 1)

abbrev pub in_edge : List ℕ → ℕ
in_edge r = get_or r 1 0

abbrev pub in_flag : Bool → ℕ
in_flag b = cond b 1 0

-- work arrays that serve any mesh of n triangles, with nothing put in yet: two places more than
-- triangles for a region's corners and edges, and a flag for each triangle
pub record Fresh (n : ℕ) (cs : List (List ℤ)) (es : List (List ℕ)) (flags : List Bool) : Type 0 where
  pub for_corners : n + 2 ≤ length cs
  pub for_edges : length es ≡ length cs
  pub for_flags : n ≤ length flags
  pub no_corners : total in_corner cs ≡ 0
  pub no_edges : total in_edge es ≡ 0
  pub no_flags : total in_flag flags ≡ 0

-- there is a place for each triangle's start and one more, and three for its corners; each triangle
-- not taken has its own
pub record Room (m : Mesh) (flags : List Bool) (starts : List ℕ) (points : List (List ℤ)) (t : Tally) : Type 0 where
  pub for_starts : length m < length starts
  pub for_points : 3 * length m ≤ length points
  pub parts : t.parts + free flags ≤ length m
  pub corners : t.corners + 3 * free flags ≤ 3 * length m

-- after triangle k: the triangles taken by regions, and the parts
abbrev pub seen_next : Mesh → List ℕ → ℕ → List ℕ
seen_next m seen k = cond (is_in k seen) seen (seen ++ (zipped m seen k).taken)

abbrev pub parts_next : Mesh → List ℕ → ℕ → List (List Pt) → List (List Pt)
parts_next m seen k ps = cond (is_in k seen) ps (ps ++ (contour_z (zipped m seen k) ∷ []))

-- a region that starts with triangle k was gathered
pub record Joined (size : ℕ) (m : Mesh) (k : ℕ) (flags : List Bool) (starts : List ℕ) (points : List (List ℤ)) (t : Tally) (cs' : List (List ℤ)) (es' : List (List ℕ)) (flags' : List Bool) (starts' : List ℕ) (points' : List (List ℤ)) (t' : Tally) : Type 0 where
  pub ready : RegionBuffers size m cs' es' flags'
  pub starts_size : length starts' ≡ length starts
  pub points_size : length points' ≡ length points
  pub room : Room m flags' starts' points' t'
  pub marked : (seen : List ℕ) → Marked flags seen → Marked flags' (seen ++ (zipped m seen k).taken)
  pub gathered : (seen : List ℕ) (ps : List (List Pt)) → Marked flags seen → Gathered starts points t ps → Gathered starts' points' t' (ps ++ (contour_z (zipped m seen k) ∷ []))

-- triangle k was visited
pub record Visited (size : ℕ) (m : Mesh) (k : ℕ) (flags : List Bool) (starts : List ℕ) (points : List (List ℤ)) (t : Tally) (cs' : List (List ℤ)) (es' : List (List ℕ)) (flags' : List Bool) (starts' : List ℕ) (points' : List (List ℤ)) (t' : Tally) : Type 0 where
  pub ready : RegionBuffers size m cs' es' flags'
  pub starts_size : length starts' ≡ length starts
  pub points_size : length points' ≡ length points
  pub room : Room m flags' starts' points' t'
  pub marked : (seen : List ℕ) → Marked flags seen → Marked flags' (seen_next m seen k)
  pub gathered : (seen : List ℕ) (ps : List (List Pt)) → Marked flags seen → Gathered starts points t ps → Gathered starts' points' t' (parts_next m seen k ps)
