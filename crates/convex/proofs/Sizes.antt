-- How many corners: a region of t triangles has t + 2 corners, at each step of the zipper too
-- (`sized_step`, for the room that the work needs), and its part no more (`part_size`,
-- `parts_within`, `parts_short`); the regions are no more than the triangles (`regions_few`), and
-- all parts' corners no more than three times as many (`parts_size`), or two for each part and one
-- for each triangle (`parts_corners`). Within the part table's limits: 1,024 + 2 = 1,026 corners a
-- contour, 3 · 1,024 ≤ 8,192 corners, 1,024 ≤ 2,048 parts. Assumes an accepted mesh where it says
-- so.
use mathlib.Core.Path.{◌≡◌, sym, ◌∙◌, ap, subst}
use mathlib.Core.Bool.{false}
use mathlib.Core.List.{List, [], ◌∷◌, ◌++◌, map, flatten, append_assoc}
use Prim.Native.Nat.{ℕ, ◌+◌, ◌*◌, ◌-◌, ◌≤◌, ◌<◌}
use native.Mathlib.Omega.{arith}
use lib.ListN.{length, length-append, length-map}
use lib.IntN.{pos}
use Rattle.integers.specs.Lists.{All, rotate}
use Rattle.integers.specs.Test.{eq_z}
use Rattle.integers.proofs.Order.{by_test}
use Rattle.integers.proofs.Elements.{all_map, all_map2, all_image}
use Rattle.integers.proofs.Counting.{length_once}
use Rattle.integers.proofs.Rotation.{length_rotate}
use Rattle.plane.specs.Plane.{Pt, turn}
use Rattle.plane.specs.Contour.{last_of}
use Rattle.mesh.specs.Mesh.{Mesh, triangle_at}
use Rattle.mesh.proofs.Accepted.{Accepted}
use Rattle.table.specs.Table.{max_contour}
use Rattle.convex.specs.Joining.{Region, is_in, region, regions, place_of, from_last, turning, without_straight, contour_of, parts}
use Rattle.convex.proofs.Taken.{untaken, untaken_le, untaken_take}
use Rattle.convex.specs.Zipper.{Slot, Zipper, start_z, moved, pushed, step_z}
use Rattle.convex.proofs.Slots.{step_z_by, Fit, across_in, top_sided}
use Rattle.convex.proofs.Regions.{regions_once}
use Rattle.convex.proofs.Whole.{contour_keeps, all_regions}
use Rattle.convex.proofs.Straight.{turning_cons, next}

-- ---- at each step of the zipper

-- t + 2 corners, pending and done, for t triangles taken, which are of the mesh and not seen
pub record Sized (m : Mesh) (seen : List ℕ) (z : Zipper) : Type 0 where
  pub corners : length z.pending + length z.done ≡ length z.taken + 2
  pub room : untaken (length m) (seen ++ z.taken) + length z.taken ≤ length m

-- so no more than the mesh's triangles and 2
pub sized_room : {m : Mesh} {seen : List ℕ} {z : Zipper} → Sized m seen z → length z.pending + length z.done ≤ length m + 2
sized_room s = omega (arith, s.corners, s.room)

module _ (m : Mesh) (ok : Accepted m) (seen : List ℕ) where
  pub sized_start : {k : ℕ} → k < length m → is_in k seen ≡ false → Sized m seen (start_z k (triangle_at m k))
  unfolding start_z
  sized_start {k} l n = record { corners = omega arith; room = omega (arith, untaken_take k seen n (length m) l, untaken_le (length m) seen) }

  -- a corner done leaves the sum; a triangle taken is one corner more
  pub sized_step : {x : Slot} {rest : List Slot} {z : Zipper} → z.pending ≡ x ∷ rest → Fit m z → Sized m seen z → Sized m seen (step_z m seen x rest z)
  unfolding moved pushed
  sized_step {x} {rest} {z} h f s =
      step_z_by m seen (Sized m seen) x rest z (record { corners = omega (arith, s.corners, ap length h); room = s.room })
      (λ d n j.
      let l : x.across < length m = across_in m ok x _ (top_sided m ok x rest z h f) d in
      let t : length (z.taken ++ (x.across ∷ [])) ≡ length z.taken + 1 = length-append z.taken (x.across ∷ []) in
      record { corners = omega (arith, s.corners, ap length h); room = rw grouped (omega (arith, s.room, untaken_take x.across (seen ++ z.taken) n (length m) l)) })
    where
      grouped : seen ++ (z.taken ++ (x.across ∷ [])) ≡ (seen ++ z.taken) ++ (x.across ∷ [])
      grouped = sym (append_assoc seen z.taken (x.across ∷ []))

-- ---- of a region and its part

-- corners are only dropped
turning_few : (a f : Pt) (l : List Pt) → length (turning a f l) ≤ length l
unfolding turning
turning_few a f [] = omega arith
turning_few a f (b ∷ l) =
    subst (λ k. length k ≤ length (b ∷ l)) (sym (turning_cons a f b l))
    (by_test (eq_z (turn a b (next f l)) (pos 0)) (λ t. rw t (omega (arith, turning_few b f l))) (λ t. rw t (omega (arith, turning_few b f l))))

pub straight_few : (l : List Pt) → length (without_straight l) ≤ length l
unfolding without_straight
straight_few [] = omega arith
straight_few (p ∷ l) = turning_few (last_of p l) p (p ∷ l)

module _ {m : Mesh} (ok : Accepted m) where
  -- three corners for the first triangle, one more for each that joins
  pub region_size : (seen : List ℕ) {k : ℕ} → k < length m → length (region m seen k).contour ≡ length (region m seen k).taken + 2
  region_size seen {k} l =
      sym (length-map (region m seen k).contour (λ c. c.point))
      ∙ contour_keeps m ok (λ t l. length l ≡ length t + 2) (λ t k l h. length_rotate k l ∙ h)
      (λ t j x p b b0 l u h. omega (arith, h, length-append t (j ∷ []))) (λ k h. omega arith) seen k l

  pub part_size : (seen : List ℕ) {k : ℕ} → k < length m → length (contour_of (region m seen k)) ≤ length (region m seen k).taken + 2
  unfolding contour_of
  part_size seen {k} l =
      let c = (region m seen k).contour in
      omega (
        arith,
        straight_few (from_last c),
        length-map (rotate (place_of (length c - 1) c) c) (λ c. c.point),
        length_rotate (place_of (length c - 1) c) c,
        region_size seen l,
      )

  -- ---- of all

  -- each region takes a triangle or more
  counted : All (λ r. (0 < length r.taken) × (length (contour_of r) ≤ length r.taken + 2)) (regions m)
  counted =
      all_regions m (λ r. (0 < length r.taken) × (length (contour_of r) ≤ length r.taken + 2))
      (λ seen k l. (contour_keeps m ok (λ t l. 0 < length t) (λ t k l h. h) (λ t j x p b b0 l u h. omega (arith, h, length-append t (j ∷ []))) (λ k h. omega arith) seen k l, part_size seen l))

  -- Σ over the regions
  few : (R : List Region) → All (λ r. (0 < length r.taken) × (length (contour_of r) ≤ length r.taken + 2)) R
      → (length R ≤ length (flatten (map (λ r. r.taken) R))) × (length (flatten (map contour_of R)) ≤ length (flatten (map (λ r. r.taken) R)) + 2 * length R)
  unfolding flatten
  few [] h = (omega arith, omega arith)
  few (r ∷ R) h =
      let i = few R h.1 in (
        omega (arith, i.0, h.0.0, length-append r.taken (flatten (map (λ r. r.taken) R))),
        omega (arith, i.1, h.0.1, length-append r.taken (flatten (map (λ r. r.taken) R)), length-append (contour_of r) (flatten (map contour_of R))),
      )

  -- no more regions than triangles
  pub regions_few : length (regions m) ≤ length m
  regions_few = omega (arith, (few (regions m) counted).0, length_once (regions_once m ok))

  pub parts_few : length (parts m) ≤ length m
  unfolding parts
  parts_few = omega (arith, length-map (regions m) contour_of, regions_few)

  -- Σ (t + 2) ≤ n + 2 n
  pub parts_size : length (flatten (parts m)) ≤ 3 * length m
  unfolding parts
  parts_size = omega (arith, (few (regions m) counted).1, length_once (regions_once m ok), regions_few)

  -- Σ (t + 2) over the parts
  pub parts_corners : length (flatten (parts m)) ≤ length m + 2 * length (parts m)
  unfolding parts
  parts_corners = omega (arith, (few (regions m) counted).1, length_once (regions_once m ok), length-map (regions m) contour_of)

  -- one list is no longer than all
  each_few : (R : List Region) → All (λ r. length r.taken ≤ length (flatten (map (λ r. r.taken) R))) R
  unfolding flatten
  each_few [] = tt
  each_few (r ∷ R) =
      let e : length (r.taken ++ flatten (map (λ r. r.taken) R)) ≡ length r.taken + length (flatten (map (λ r. r.taken) R)) = length-append r.taken (flatten (map (λ r. r.taken) R)) in
      (omega arith, all_map R (λ q h. omega (arith, h)) (each_few R))

  -- each part has at most two corners more than there are triangles, so 1,026 at the most
  pub parts_within : All (λ l. length l ≤ length m + 2) (parts m)
  unfolding parts
  parts_within =
      (all_image (λ l. length l ≤ length m + 2) contour_of (regions m)).1
      (all_map2 (regions m) (λ r h k. omega (arith, h.1, k, length_once (regions_once m ok))) counted (each_few (regions m)))

  pub parts_short : All (λ l. length l ≤ max_contour) (parts m)
  parts_short = all_map (parts m) (λ l h. omega (arith, h, ok.few)) parts_within
