-- What holds of every region's contour: a property of closed lists, the same from any start, that a
-- triangle has and that a join keeps, holds of the contour with the triangles taken
-- (`contour_keeps`), and so of all regions (`all_regions`).
-- In order: the whole contour of a zipper before and after a step; the far triangle, its doubled
-- area and its corners from another vertex (`far_area`, `far_corners`); the principle. Assumes an
-- accepted mesh where it says so.
use mathlib.Core.Path.{◌≡◌, refl, sym, ◌∙◌, ap, ap₂, subst, subst₂}
use mathlib.Core.Bool.{true}
use mathlib.Core.List.{List, [], ◌∷◌, ◌++◌, map, append_assoc, append-nil}
use Prim.Native.Nat.{ℕ, zero, suc, ◌-◌, ◌≤◌, ◌<◌}
use native.Mathlib.Omega.{arith}
use lib.ListN.{length, get_or}
use Rattle.integers.specs.Lists.{All, up_to, rotate}
use Rattle.integers.proofs.Order.{by_test}
use Rattle.integers.proofs.Rotation.{rotate_one, rotate_back}
use Rattle.integers.proofs.Counting.{all_up_to}
use Rattle.plane.specs.Plane.{Pt, O, area_two}
use Rattle.plane.specs.Contour.{last_of}
use Rattle.plane.proofs.Vectors.{area_cycle}
use Rattle.mesh.specs.Mesh.{Triangle, Mesh, none, vertex, neighbour, after, before, triangle_at, triangle_area}
use Rattle.mesh.proofs.Sides.{opposite_side}
use Rattle.mesh.proofs.Accepted.{Accepted}
use Rattle.convex.specs.Joining.{Region, joins, is_in, region, regions_from, regions}
use Rattle.convex.specs.Zipper.{Slot, Zipper, start_z, ring, moved, pushed, joins_z, step_z, zipped}
use Rattle.convex.proofs.Slots.{whole, ring_cons, far, far_side, far_vertex, step_z_by, Fit, across_in, far_from, far_to, ring_long, top_sided, zipped_ends, zipped_keeps}
use Rattle.convex.proofs.Zipped.{zipped_contour, zipped_taken}

-- ---- before and after a step, with R the ring after the top corner x

-- R x
pub whole_top : {x : Slot} {rest : List Slot} (z : Zipper) → z.pending ≡ x ∷ rest → whole z ≡ rotate 1 (x.corner ∷ ring rest z.done)
whole_top {x} {rest} z h = ap (λ p. ring p z.done) h ∙ ring_cons x rest z.done ∙ sym (rotate_one x.corner (ring rest z.done))

-- R x p
pub whole_pushed : (x : Slot) (rest : List Slot) (u : Triangle) (v : ℕ) (z : Zipper) → whole (pushed x rest u v z) ≡ rotate 2 (x.corner ∷ vertex u v ∷ ring rest z.done)
unfolding pushed rotate
whole_pushed x rest u v z =
    let q : Slot = record { corner = x.corner; inside = x.across; across = neighbour u (after v) } in
    ring_cons (record { corner = vertex u v; inside = x.across; across = neighbour u (before v) }) (q ∷ rest) z.done
    ∙ ap (λ l. l ++ (vertex u v ∷ [])) (ring_cons q rest z.done) ∙ append_assoc (ring rest z.done) (x.corner ∷ []) (vertex u v ∷ [])

-- ---- the far triangle

-- before v, v, after v: the triangle from another vertex
pub far_area : (t : Triangle) (v : ℕ) → v < 3 → area_two (vertex t (before v)) (vertex t v) (vertex t (after v)) ≡ triangle_area t
unfolding vertex after
far_area t zero h = area_cycle t.v1 t.v2 t.v0 ∙ area_cycle t.v0 t.v1 t.v2
far_area t (suc zero) h = refl
far_area t (suc (suc zero)) h = area_cycle t.v0 t.v1 t.v2
far_area t (suc (suc (suc v))) h = absurd (omega arith)

-- as a closed list, from another start
pub far_corners : (t : Triangle) (v : ℕ) → v < 3 → (k : ℕ) × (vertex t (before v) ∷ vertex t v ∷ vertex t (after v) ∷ [] ≡ rotate k (t.v0 ∷ t.v1 ∷ t.v2 ∷ []))
unfolding vertex after rotate
far_corners t zero h = (2, refl)
far_corners t (suc zero) h = (0, refl)
far_corners t (suc (suc zero)) h = (1, refl)
far_corners t (suc (suc (suc v))) h = absurd (omega arith)

last_at : (q : Pt) (l : List Pt) → get_or (q ∷ l) (length l) O ≡ last_of q l
unfolding last_of
last_at q [] = refl
last_at q (p ∷ l) = last_at p l

-- a0, the last of the ring
ring_last : (b b0 : Pt) (l : List Pt) → get_or (b ∷ b0 ∷ l) (length (b ∷ b0 ∷ l) - 1) O ≡ last_of b0 l
ring_last b b0 l = let e : length (b ∷ b0 ∷ l) - 1 ≡ suc (length l) = omega arith in ap (λ k. get_or (b ∷ b0 ∷ l) k O) e ∙ last_at b0 l

-- the first two of a ring of two or more
pub by_ring : {X : Type 0} (r : List Pt) → 2 ≤ length r → ((b b0 : Pt) (l : List Pt) → r ≡ b ∷ b0 ∷ l → X) → X
by_ring [] h f = absurd (omega arith)
by_ring (b ∷ []) h f = absurd (omega arith)
by_ring (b ∷ b0 ∷ l) h f = f b b0 l refl

-- ---- the principle

-- a join puts the far vertex p of triangle j between x and b; a0 is before x, b0 after b
pub record Joint (m : Mesh) (j : ℕ) (a0 x p b b0 : Pt) : Type 0 where
  pub in_mesh : j < length m
  pub area : area_two x p b ≡ triangle_area (triangle_at m j)
  pub corners : (k : ℕ) × (x ∷ p ∷ b ∷ [] ≡ rotate k ((triangle_at m j).v0 ∷ (triangle_at m j).v1 ∷ (triangle_at m j).v2 ∷ []))
  pub allowed : joins a0 x p b b0 ≡ true

module _ (m : Mesh) (ok : Accepted m) where
  -- a step that joins
  module _ (x : Slot) (rest : List Slot) (z : Zipper) (h : z.pending ≡ x ∷ rest) (f : Fit m z) (d : x.across ≡ none → ⊥) where
    -- the far vertex lies between the corner and the first of the ring in the far triangle
    pub joint : {b b0 : Pt} {l : List Pt} → ring rest z.done ≡ b ∷ b0 ∷ l → joins_z x (ring rest z.done) (far m x) (far_side m x) ≡ true
        → Joint m x.across (last_of b0 l) x.corner (far_vertex m x) b b0
    joint {b} {b0} {l} e j =
        let s = top_sided m ok x rest z h f in
        let to : vertex (far m x) (after (far_side m x)) ≡ b = far_to m ok x _ s d ∙ ap (λ r. get_or r 0 O) e in
        record {
          in_mesh = across_in m ok x _ s d;
          area =
              subst₂ (λ y w. area_two y (far_vertex m x) w ≡ triangle_area (far m x)) (far_from m ok x _ s d) to
              (far_area (far m x) (far_side m x) (opposite_side (far m x) x.inside));
          corners =
              let c = far_corners (far m x) (far_side m x) (opposite_side (far m x) x.inside) in
              (c.0, sym (ap₂ (λ y w. y ∷ far_vertex m x ∷ w ∷ []) (far_from m ok x _ s d) to) ∙ c.1);
          allowed = ap (λ a. joins a x.corner (far_vertex m x) b b0) (sym (ring_last b b0 l)) ∙ ap (λ r. joins_z x r (far m x) (far_side m x)) (sym e) ∙ j;
        }

  module _ (P : List ℕ → List Pt → Type 0) (rotated : (t : List ℕ) (k : ℕ) (l : List Pt) → P t l → P t (rotate k l))
      (join : (t : List ℕ) (j : ℕ) (x p b b0 : Pt) (l : List Pt) → Joint m j (last_of b0 l) x p b b0 → P t (x ∷ b ∷ b0 ∷ l) → P (t ++ (j ∷ [])) (x ∷ p ∷ b ∷ b0 ∷ l))
      (triangle : (k : ℕ) → k < length m → P (k ∷ []) ((triangle_at m k).v0 ∷ (triangle_at m k).v1 ∷ (triangle_at m k).v2 ∷ [])) where
    -- P of a zipper
    abbrev Has : Zipper → Type 0
    Has z = P z.taken (whole z)

    step_keeps : (seen : List ℕ) (x : Slot) (rest : List Slot) (z : Zipper) → z.pending ≡ x ∷ rest → Fit m z → Has z → Has (step_z m seen x rest z)
    unfolding moved pushed
    step_keeps seen x rest z h f p =
        step_z_by m seen Has x rest z from_top
        (λ d n j. by_ring R (ring_long m ok x rest z h f)
        (λ b b0 l e.
        let q : P (z.taken ++ (x.across ∷ [])) (x.corner ∷ far_vertex m x ∷ b ∷ b0 ∷ l) =
        join z.taken x.across x.corner (far_vertex m x) b b0 l (joint x rest z h f d e j) (subst (λ r. P z.taken (x.corner ∷ r)) e from_top) in
        subst (P (z.taken ++ (x.across ∷ []))) (sym (whole_pushed x rest (far m x) (far_side m x) z))
        (rotated _ 2 _ (subst (λ r. P (z.taken ++ (x.across ∷ [])) (x.corner ∷ far_vertex m x ∷ r)) (sym e) q))))
      where
        R : List Pt
        R = ring rest z.done

        from_top : P z.taken (x.corner ∷ ring rest z.done)
        from_top = subst (P z.taken) (rotate_back (x.corner ∷ R) (omega arith)) (rotated z.taken _ (rotate 1 (x.corner ∷ R)) (subst (P z.taken) (whole_top z h) p))

    -- P of each region: its triangles and its contour
    pub contour_keeps : (seen : List ℕ) (k : ℕ) → k < length m → P (region m seen k).taken (map (λ c. c.point) (region m seen k).contour)
    unfolding start_z vertex
    contour_keeps seen k l =
        let z = zipped m seen k in
        let e : whole z ≡ z.done = ap (λ p. ring p z.done) (zipped_ends m ok seen l) ∙ append-nil z.done in
        subst₂ P (sym (zipped_taken m ok seen k l)) (e ∙ sym (zipped_contour m ok seen k l)) (zipped_keeps m ok seen (step_keeps seen) l (triangle k l))

-- what holds of each region holds of all
module _ (m : Mesh) (Q : Region → Type 0) (q : (seen : List ℕ) (k : ℕ) → k < length m → Q (region m seen k)) where
  all_from : (seen l : List ℕ) → All (λ i. i < length m) l → All Q (regions_from m seen l)
  unfolding regions_from
  all_from seen [] b = tt
  all_from seen (k ∷ l) b = by_test (is_in k seen) (λ t. rw t (all_from seen l b.1)) (λ t. rw t (q seen k b.0, all_from (seen ++ (region m seen k).taken) l b.1))

  -- in table order, from triangles not yet taken
  pub all_regions : All Q (regions m)
  unfolding regions
  all_regions = all_from [] (up_to (length m)) (all_up_to (length m))
