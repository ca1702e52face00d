-- Every corner of a part is a vertex of the mesh: what holds of each vertex holds of each corner of
-- each part (`parts_vertices`).
-- In order: a step of the zipper; corners of turn 0 dropped; a region; all. Assumes an accepted
-- mesh.
use mathlib.Core.Path.{◌≡◌, sym, subst}
use mathlib.Core.List.Permᴰ
use mathlib.Core.List.{List, [], ◌∷◌}
use Prim.Native.Nat.{ℕ, ◌-◌, ◌<◌}
use lib.ListN.{length}
use lib.IntN.{pos}
use Rattle.integers.specs.Lists.{All}
use Rattle.integers.specs.Test.{eq_z}
use Rattle.integers.proofs.Order.{by_test}
use Rattle.integers.proofs.Elements.{all_image, all_perm}
use Rattle.integers.proofs.Rotation.{perm_rotate}
use Rattle.plane.specs.Plane.{Pt, turn}
use Rattle.plane.specs.Contour.{last_of}
use Rattle.mesh.specs.Mesh.{Mesh, vertex, triangle_at}
use Rattle.mesh.proofs.Accepted.{Accepted}
use Rattle.convex.specs.Joining.{region, regions, turning, without_straight, contour_of, parts}
use Rattle.convex.specs.Zipper.{Slot, Zipper, start_z, moved, pushed, step_z, zipped}
use Rattle.convex.proofs.Slots.{far_side, step_z_by, Fit, across_in, top_sided, zipped_keeps}
use Rattle.convex.proofs.Zipped.{zipped_from_last}
use Rattle.convex.proofs.Whole.{all_regions}
use Rattle.convex.proofs.Straight.{turning_cons, next}

module _ (P : Pt → Type 0) where
  -- corners are only dropped
  all_turning : (a f : Pt) (l : List Pt) → All P l → All P (turning a f l)
  unfolding turning
  all_turning a f [] h = tt
  all_turning a f (b ∷ l) h =
      subst (All P) (sym (turning_cons a f b l))
      (by_test (eq_z (turn a b (next f l)) (pos 0)) (λ t. rw t (all_turning b f l h.1)) (λ t. rw t (h.0, all_turning b f l h.1)))

  all_straight : (l : List Pt) → All P l → All P (without_straight l)
  unfolding without_straight
  all_straight [] h = tt
  all_straight (p ∷ l) h = all_turning (last_of p l) p (p ∷ l) h

  module _ {m : Mesh} (ok : Accepted m) (vertices : (k i : ℕ) → k < length m → P (vertex (triangle_at m k) i)) where
    -- of the corners, pending and done
    abbrev Has : Zipper → Type 0
    Has z = All (λ s. P s.corner) z.pending × All P z.done

    -- a corner done, or the far vertex, of a triangle of the mesh, pending
    step_has : (seen : List ℕ) (x : Slot) (rest : List Slot) (z : Zipper) → z.pending ≡ x ∷ rest → Fit m z → Has z → Has (step_z m seen x rest z)
    unfolding moved pushed
    step_has seen x rest z h f t =
        let q : P x.corner × All (λ s. P s.corner) rest = subst (All (λ s. P s.corner)) h t.0 in
        step_z_by m seen Has x rest z (q.1, (q.0, t.1))
        (λ d n j. ((vertices x.across (far_side m x) (across_in m ok x _ (top_sided m ok x rest z h f) d), q), t.1))

    region_vertices : (seen : List ℕ) (k : ℕ) → k < length m → All P (contour_of (region m seen k))
    unfolding contour_of
    region_vertices seen k l =
        let z : Zipper = zipped m seen k in
        let h : Has z = zipped_keeps m ok seen (step_has seen) l (unfold start_z in ((vertices k 2 l, (vertices k 1 l, (vertices k 0 l, tt))), tt)) in
        all_straight _ (subst (All P) (sym (zipped_from_last m ok seen k l)) (all_perm P (Permᴰ.symm (perm_rotate (length z.done - z.last) z.done)) h.1))

    pub parts_vertices : All (All P) (parts m)
    unfolding parts
    parts_vertices = (all_image (All P) contour_of (regions m)).1 (all_regions m (λ r. All P (contour_of r)) region_vertices)
