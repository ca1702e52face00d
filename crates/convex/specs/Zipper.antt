-- Joining without numbers for corners: the contour is a zipper. The stacked edges lie in contour
-- order with the top last, and what comes after the edge taken is final; so the region is its
-- pending corners, each with its outgoing edge, the top first, and its done corners, the first
-- first. The code works so, and its inner contracts say so; what a reader must believe is Joining
-- alone, for proofs/Zipped shows that this is the paper's region, and `parts_z` the paper's parts.
-- Assumes nothing.
use Rattle.std.specs.Prelude.{Bool, true, false, cond, List, [], ◌∷◌, ◌++◌, map, reverse, ℕ, zero, suc, ◌-◌, eqb, length, get_or}
use Rattle.integers.specs.Lists.{rotate, up_to}
use Rattle.plane.specs.Plane.{Pt, O}
use Rattle.mesh.specs.Mesh.{Triangle, Mesh, none, vertex, neighbour, after, before, triangle_at, opposite}
use Rattle.convex.specs.Joining.{joins, is_in, enough, without_straight}

-- a pending corner with the edge out of it: the triangle inside and the neighbour across, or none
pub record Slot : Type 0 where
  pub corner : Pt
  pub inside : ℕ
  pub across : ℕ

-- `last` is how many corners were done when the last corner added was put among them, itself
-- counted; `fresh` while it is still pending
pub record Zipper : Type 0 where
  pub pending : List Slot
  pub done : List Pt
  pub taken : List ℕ
  pub fresh : Bool
  pub last : ℕ

unfoldable pub start_z : ℕ → Triangle → Zipper
start_z k t = record {
  pending = record { corner = vertex t 2; inside = k; across = neighbour t 1 } ∷ record { corner = vertex t 1; inside = k; across = neighbour t 0 } ∷ record { corner = vertex t 0; inside = k; across = neighbour t 2 } ∷ [];
  done = [];
  taken = k ∷ [];
  fresh = true;
  last = 0;
}

-- the corners after the top one, round the contour
abbrev pub ring : List Slot → List Pt → List Pt
ring rest done = done ++ reverse (map (λ s. s.corner) rest)

-- the top corner is done
unfoldable pub moved : Slot → List Slot → Zipper → Zipper
moved x rest z = record {
  pending = rest;
  done = x.corner ∷ z.done;
  taken = z.taken;
  fresh = false;
  last = cond z.fresh (suc (length z.done)) z.last;
}

-- the far vertex p of the neighbour u is put after the top corner
unfoldable pub pushed : Slot → List Slot → Triangle → ℕ → Zipper → Zipper
pushed x rest u v z = record {
  pending = record { corner = vertex u v; inside = x.across; across = neighbour u (before v) } ∷ record { corner = x.corner; inside = x.across; across = neighbour u (after v) } ∷ rest;
  done = z.done;
  taken = z.taken ++ (x.across ∷ []);
  fresh = true;
  last = z.last;
}

-- b is the first of the ring, b0 the second, a0 the last
abbrev pub joins_z : Slot → List Pt → Triangle → ℕ → Bool
joins_z x r u v = joins (get_or r (length r - 1) O) x.corner (vertex u v) (get_or r 0 O) (get_or r 1 O)

unfoldable pub step_z : Mesh → List ℕ → Slot → List Slot → Zipper → Zipper
step_z m seen x rest z =
    let u = triangle_at m x.across in
    let v = opposite u x.inside in
    cond (eqb x.across none) (moved x rest z)
    (cond (is_in x.across (seen ++ z.taken)) (moved x rest z)
    (cond (joins_z x (ring rest z.done) u v) (pushed x rest u v z)
    (moved x rest z)))

-- until nothing is pending
unfoldable pub grow_z : ℕ → Mesh → List ℕ → Zipper → Zipper
grow_z zero m seen z = z
grow_z (suc n) m seen z = elim z.pending [ [] ↦ z | x ∷ rest ↦ grow_z n m seen (step_z m seen x rest z) ]

abbrev pub zipped : Mesh → List ℕ → ℕ → Zipper
zipped m seen k = grow_z (enough m) m seen (start_z k (triangle_at m k))

-- the contour from the last corner added
abbrev pub from_last_z : Zipper → List Pt
from_last_z z = rotate (length z.done - z.last) z.done

-- ---- all regions, as Joining's `regions_from` and `parts`

unfoldable pub regions_z : Mesh → List ℕ → List ℕ → List Zipper
regions_z m seen [] = []
regions_z m seen (k ∷ l) = cond (is_in k seen) (regions_z m seen l) (zipped m seen k ∷ regions_z m (seen ++ (zipped m seen k).taken) l)

abbrev pub contour_z : Zipper → List Pt
contour_z z = without_straight (from_last_z z)

unfoldable pub parts_z : Mesh → List (List Pt)
parts_z m = map contour_z (regions_z m [] (up_to (length m)))
