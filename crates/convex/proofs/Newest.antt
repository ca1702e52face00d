-- The first corner of a region's contour, read from the last corner added, is never in line
-- (`region_sharp`): it was put before the triangle's doubled area, above 0, as its turn, and no
-- corner was added after it. "Corners whose turn is 0 are dropped, order kept; the first is never
-- one." In order: the list from the last corner added, at each step of the zipper (`NewestAt`); a
-- step keeps it; a region. Assumes an accepted mesh where it says so.
use mathlib.Core.Path.{◌≡◌, refl, sym, ◌∙◌, ap, ap₂, subst}
use mathlib.Core.Bool.{Bool, true, false, cond}
use mathlib.Core.List.{List, [], ◌∷◌, ◌++◌, append-nil, append_assoc}
use Prim.Native.Nat.{ℕ, suc, ◌+◌, ◌-◌, ◌≤◌, ◌<◌}
use native.Mathlib.Omega.{arith}
use lib.ListN.{length}
use lib.IntN.{pos}
use lib.Signed.{◌<ℤ◌}
use Rattle.integers.specs.Lists.{rotate}
use Rattle.integers.proofs.Signs.{pos_is}
use Rattle.integers.proofs.Rotation.{rotate_zero, rotate_rotate, rotate_back, length_rotate}
use Rattle.plane.specs.Plane.{Pt, turn}
use Rattle.plane.specs.Contour.{last_of}
use Rattle.plane.proofs.Vectors.{area_is_turn, area_cycle}
use Rattle.mesh.specs.Mesh.{Mesh, none, vertex, triangle_at}
use Rattle.mesh.proofs.Accepted.{Accepted}
use Rattle.convex.specs.Joining.{region, from_last}
use Rattle.convex.specs.Zipper.{Slot, Zipper, start_z, ring, moved, pushed, joins_z, step_z, zipped, from_last_z}
use Rattle.convex.proofs.Slots.{whole, length_ring, far, far_side, far_vertex, joined_z, step_z_by, Fit, ring_long, zipped_ends, zipped_keeps}
use Rattle.convex.proofs.Zipped.{zipped_from_last}
use Rattle.convex.proofs.Whole.{whole_top, whole_pushed, joint, by_ring}

-- the turn at the first corner is above 0
abbrev pub Sharp : List Pt → Type 0
Sharp [] = ⊥
Sharp (p ∷ []) = ⊥
Sharp (p ∷ c ∷ l) = pos 0 <ℤ turn (last_of c l) p c

-- from the last corner added, the top one while fresh, then `last` from the end of done
abbrev NewestAt : Bool → Zipper → Type 0
NewestAt true z = (0 < length z.pending) × Sharp (rotate (length (whole z) - 1) (whole z))
NewestAt false z = (z.last ≤ length z.done) × Sharp (rotate (length z.done - z.last) (whole z))

last_of_snoc : (q : Pt) (l : List Pt) (x : Pt) → last_of q (l ++ (x ∷ [])) ≡ x
unfolding last_of
last_of_snoc q [] x = refl
last_of_snoc q (p ∷ l) x = last_of_snoc p l x

-- the last of l, and then its others, where l is k one place on
from_top : {l : List Pt} (k : List Pt) → l ≡ rotate 1 k → 0 < length k → rotate (length l - 1) l ≡ k
from_top k e h = ap (λ r. rotate (length r - 1) r) e ∙ ap (λ n. rotate (n - 1) (rotate 1 k)) (length_rotate 1 k) ∙ rotate_back k h

module _ (m : Mesh) (ok : Accepted m) (seen : List ℕ) where
  module _ (x : Slot) (rest : List Slot) (z : Zipper) (h : z.pending ≡ x ∷ rest) (f : Fit m z) where
    abbrev R : List Pt
    R = ring rest z.done

    -- the top corner done: the list stays
    newest_moved : {t : Bool} → z.fresh ≡ t → NewestAt t z → NewestAt false (moved x rest z)
    unfolding moved
    newest_moved {t = true} e n =
        let k : suc (length z.done) - cond z.fresh (suc (length z.done)) z.last ≡ 0 =
        ap (λ t. suc (length z.done) - cond t (suc (length z.done)) z.last) e ∙ omega arith in (
          rw e (omega arith),
          subst Sharp (from_top (x.corner ∷ R) (whole_top z h) (omega arith) ∙ sym (rotate_zero (x.corner ∷ R)) ∙ ap (λ j. rotate j (x.corner ∷ R)) (sym k)) n.1,
        )
    newest_moved {t = false} e n =
        let i : ℕ = length z.done - z.last in
        let k : suc (length z.done) - cond z.fresh (suc (length z.done)) z.last ≡ 1 + i =
        ap (λ t. suc (length z.done) - cond t (suc (length z.done)) z.last) e ∙ omega (arith, n.0) in
        let top : rotate i (whole z) ≡ rotate (1 + i) (x.corner ∷ R) = ap (rotate i) (whole_top z h) ∙ rotate_rotate 1 i (x.corner ∷ R) (omega (arith, length_ring rest z.done)) in (
          rw e (omega (arith, n.0)),
          subst Sharp (top ∙ ap (λ j. rotate j (x.corner ∷ R)) (sym k)) n.1,
        )

    -- p, then the ring, then x
    pushed_top : rotate (length (whole (joined_z m x rest z)) - 1) (whole (joined_z m x rest z)) ≡ far_vertex m x ∷ (R ++ (x.corner ∷ []))
    pushed_top = from_top (far_vertex m x ∷ (R ++ (x.corner ∷ []))) (whole_pushed x rest (far m x) (far_side m x) z ∙ two_steps) (omega arith)
      where
        two_steps : rotate 2 (x.corner ∷ far_vertex m x ∷ R) ≡ rotate 1 (far_vertex m x ∷ (R ++ (x.corner ∷ [])))
        two_steps = unfold rotate in sym (append_assoc R (x.corner ∷ []) (far_vertex m x ∷ []))

    newest_pushed : (x.across ≡ none → ⊥) → joins_z x R (far m x) (far_side m x) ≡ true → NewestAt true (joined_z m x rest z)
    newest_pushed d j = (unfold pushed in omega arith, subst Sharp (sym pushed_top) (by_ring R (ring_long m ok x rest z h f) sharp))
      where
        p : Pt
        p = far_vertex m x

        sharp : (b b0 : Pt) (l : List Pt) → R ≡ b ∷ b0 ∷ l → Sharp (p ∷ (R ++ (x.corner ∷ [])))
        sharp b b0 l e =
            let u = joint m ok x rest z h f d e j in
            let t : pos 0 <ℤ turn x.corner p b = pos_is (sym (area_is_turn x.corner p b)) (pos_is u.area (ok.turns_left x.across u.in_mesh)) in
            subst (λ r. Sharp (p ∷ (r ++ (x.corner ∷ [])))) (sym e) (subst (λ a. pos 0 <ℤ turn a p b) (sym (last_of_snoc b (b0 ∷ l) x.corner)) t)

    newest_step : NewestAt z.fresh z → NewestAt (step_z m seen x rest z).fresh (step_z m seen x rest z)
    unfolding moved pushed
    newest_step n = step_z_by m seen (λ y. NewestAt y.fresh y) x rest z (newest_moved refl n) (λ d i j. newest_pushed d j)

  module _ (k : ℕ) (l : k < length m) where
    newest_start : NewestAt true (start_z k (triangle_at m k))
    unfolding start_z rotate last_of vertex
    newest_start =
        let t = triangle_at m k in
        (omega arith, pos_is (sym (area_is_turn t.v1 t.v2 t.v0) ∙ area_cycle t.v0 t.v1 t.v2) (ok.turns_left k l))

    abbrev z : Zipper
    z = zipped m seen k

    newest_zipped : NewestAt z.fresh z
    newest_zipped = zipped_keeps m ok seen newest_step l (unfold start_z in newest_start)

    -- nothing is pending, so the last corner added is done
    newest_done : (t : Bool) → NewestAt t z → Sharp (from_last_z z)
    newest_done true n = absurd (omega (arith, n.0, ap length (zipped_ends m ok seen l)))
    newest_done false n = subst (λ r. Sharp (rotate (length z.done - z.last) r)) (ap (λ p. ring p z.done) (zipped_ends m ok seen l) ∙ append-nil z.done) n.1

    -- the first corner's turn is above 0
    pub region_sharp : Sharp (from_last (region m seen k).contour)
    region_sharp = subst Sharp (sym (zipped_from_last m ok seen k l)) (newest_done z.fresh newest_zipped)
