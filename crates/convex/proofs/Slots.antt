-- The zipper on an accepted mesh: each pending corner stands with a side of the triangle inside
-- (`Fit`), so the neighbour across shares the edge (`far_from`, `far_to`); each step keeps that
-- (`fit_step`) and leaves less to do (`step_z_less`), so nothing is pending at the end
-- (`zipped_ends`).
-- In order: lists of corners round the zipper; a step by cases (`step_z_by`); what every step keeps
-- holds at the end (`grow_z_keeps`); sides; the end. Assumes an accepted mesh where it says so.
use mathlib.Core.Path.{◌≡◌, refl, sym, ◌∙◌, ap, subst}
use mathlib.Core.Bool.{true, false}
use mathlib.Core.List.{List, [], ◌∷◌, ◌++◌, map, reverse, reverse-cons, append_assoc}
use Prim.Native.Nat.{ℕ, zero, suc, ◌+◌, ◌*◌, ◌≤◌, ◌<◌}
use native.Mathlib.Omega.{arith}
use borrow.Author.Tests.{eqb-false}
use lib.Dec.{eqb}
use lib.ListN.{length, get_or, length-append, length-reverse, length-map, get_or-append}
use Rattle.integers.proofs.Order.{by_test}
use Rattle.plane.specs.Plane.{Pt, O}
use Rattle.mesh.specs.Mesh.{Triangle, Mesh, none, vertex, neighbour, after, before, triangle_at, opposite}
use Rattle.mesh.proofs.Sides.{after_side, opposite_side}
use Rattle.mesh.proofs.Accepted.{Accepted}
use Rattle.convex.specs.Joining.{is_in}
use Rattle.convex.proofs.Taken.{untaken, untaken_le, untaken_take}
use Rattle.convex.specs.Zipper.{Slot, Zipper, start_z, ring, moved, pushed, joins_z, step_z, grow_z, zipped}

-- ---- the whole contour, from the first corner done

-- done, and then pending from the lowest up
abbrev pub whole : Zipper → List Pt
whole z = ring z.pending z.done

-- the top corner is the last
pub ring_cons : (x : Slot) (rest : List Slot) (done : List Pt) → ring (x ∷ rest) done ≡ ring rest done ++ (x.corner ∷ [])
ring_cons x rest done = ap (λ l. done ++ l) (reverse-cons x.corner (map (λ s. s.corner) rest)) ∙ sym (append_assoc done (reverse (map (λ s. s.corner) rest)) (x.corner ∷ []))

-- |done ++ rest backwards| = |done| + |rest|
pub length_ring : (rest : List Slot) (done : List Pt) → length (ring rest done) ≡ length done + length rest
length_ring rest done = omega (arith, length-append done (reverse (map (λ s. s.corner) rest)), length-reverse (map (λ s. s.corner) rest), length-map rest (λ s. s.corner))

-- the first corner of the ring, where the ring has one, is that of the whole
pub ring_head : (x : Slot) (rest : List Slot) (done : List Pt) → 0 < length (ring rest done) → get_or (ring (x ∷ rest) done) 0 O ≡ get_or (ring rest done) 0 O
ring_head x rest done h = ap (λ l. get_or l 0 O) (ring_cons x rest done) ∙ get_or-append (ring rest done) (x.corner ∷ []) O 0 h

-- ---- a step by cases

-- nothing is pending, or x is on top of the rest
pub by_pending {ℓ} : {X : Type ℓ} (z : Zipper) → (z.pending ≡ [] → X) → ((x : Slot) (rest : List Slot) → z.pending ≡ x ∷ rest → X) → X
by_pending {X = X} z f g = at refl
  where
    at : {l : List Slot} → z.pending ≡ l → X
    at {l = []} h = f h
    at {l = x ∷ rest} h = g x rest h

-- the triangle across, and its vertex that is not on the edge
abbrev pub far : Mesh → Slot → Triangle
far m x = triangle_at m x.across

-- the number of that vertex in its triangle
abbrev pub far_side : Mesh → Slot → ℕ
far_side m x = opposite (far m x) x.inside

-- the far vertex p
abbrev pub far_vertex : Mesh → Slot → Pt
far_vertex m x = vertex (far m x) (far_side m x)

-- that vertex put after the top corner
abbrev pub joined_z : Mesh → Slot → List Slot → Zipper → Zipper
joined_z m x rest z = pushed x rest (far m x) (far_side m x) z

module _ (m : Mesh) (seen : List ℕ) where
  -- the top corner is done, or the neighbour across joins: it is one, not yet taken, and the test
  -- allows it
  pub step_z_by : (P : Zipper → Type 0) (x : Slot) (rest : List Slot) (z : Zipper) → P (moved x rest z)
      → ((x.across ≡ none → ⊥) → is_in x.across (seen ++ z.taken) ≡ false → joins_z x (ring rest z.done) (far m x) (far_side m x) ≡ true → P (joined_z m x rest z))
      → P (step_z m seen x rest z)
  unfolding step_z
  step_z_by P x rest z f g = by_test (eqb x.across none) (λ a. rw a f)
      (λ a. rw a (by_test (is_in x.across (seen ++ z.taken)) (λ b. rw b f)
      (λ b. rw b (by_test (joins_z x (ring rest z.done) (far m x) (far_side m x)) (λ c. rw c (g (eqb-false x.across none a) b c)) (λ c. rw c f)))))

  -- ---- steps until nothing is pending

  -- with nothing pending nothing changes
  pub grow_z_done : (n : ℕ) (z : Zipper) → z.pending ≡ [] → grow_z n m seen z ≡ z
  unfolding grow_z
  grow_z_done zero z h = refl
  grow_z_done (suc n) z h = rw h

  -- the top corner first
  pub grow_z_step : (n : ℕ) {x : Slot} {rest : List Slot} (z : Zipper) → z.pending ≡ x ∷ rest → grow_z (suc n) m seen z ≡ grow_z n m seen (step_z m seen x rest z)
  unfolding grow_z
  grow_z_step n z h = rw h

  -- what every step keeps holds at the end
  pub grow_z_keeps : (P : Zipper → Type 0) → ((x : Slot) (rest : List Slot) (z : Zipper) → z.pending ≡ x ∷ rest → P z → P (step_z m seen x rest z))
      → (n : ℕ) {z : Zipper} → P z → P (grow_z n m seen z)
  grow_z_keeps P k zero p = unfold grow_z in p
  grow_z_keeps P k (suc n) {z} p =
      by_pending z (λ h. subst P (sym (grow_z_done (suc n) z h)) p)
      (λ x rest h. subst P (sym (grow_z_step n z h)) (grow_z_keeps P k n (k x rest z h p)))

-- how much is left to do
abbrev pub left_z : Mesh → List ℕ → Zipper → ℕ
left_z m seen z = 2 * untaken (length m) (seen ++ z.taken) + length z.pending

-- 2 (n − taken) + 3 ≤ 2 n + 3
pub start_z_left : (m : Mesh) (seen : List ℕ) (k : ℕ) → left_z m seen (start_z k (triangle_at m k)) ≤ 2 * length m + 3
unfolding start_z
start_z_left m seen k = omega (arith, untaken_le (length m) (seen ++ (k ∷ [])))

-- ---- sides

-- the edge from the slot's corner to b is a side of the triangle inside, and its neighbour is the
-- one across
pub record Sided (m : Mesh) (s : Slot) (b : Pt) : Type 0 where
  pub in_mesh : s.inside < length m
  pub side : ℕ
  pub is_side : side < 3
  pub across_is : neighbour (triangle_at m s.inside) side ≡ s.across
  pub from : vertex (triangle_at m s.inside) (after side) ≡ s.corner
  pub to : vertex (triangle_at m s.inside) (before side) ≡ b

-- each pending corner with the one after it, b after the top
abbrev pub AllSided : Mesh → Pt → List Slot → Type 0
AllSided m b [] = Unit {0}
AllSided m b (s ∷ l) = Sided m s b × AllSided m s.corner l

-- three corners or more, each pending one with its side
pub record Fit (m : Mesh) (z : Zipper) : Type 0 where
  pub long : 3 ≤ length (whole z)
  pub sided : AllSided m (get_or (whole z) 0 O) z.pending

-- three vertices on is the same vertex
pub after_thrice : (i : ℕ) → i < 3 → after (before i) ≡ i
unfolding after
after_thrice zero h = refl
after_thrice (suc zero) h = refl
after_thrice (suc (suc zero)) h = refl
after_thrice (suc (suc (suc i))) h = absurd (omega arith)

module _ (m : Mesh) (ok : Accepted m) where
  module _ (x : Slot) (b : Pt) (s : Sided m x b) (d : x.across ≡ none → ⊥) where
    not_none : neighbour (triangle_at m x.inside) s.side ≡ none → ⊥
    not_none e = d (sym s.across_is ∙ e)

    -- a neighbour that is not none is of the mesh
    pub across_in : x.across < length m
    across_in = rw s.across_is at (ok.in_mesh x.inside s.side s.in_mesh s.is_side not_none)

    -- the side is that of triangle n, the other way round
    abbrev Meets : ℕ → Type 0
    Meets n =
        let t = triangle_at m x.inside in
        let u = triangle_at m n in
        (vertex t (after s.side) ≡ vertex u (before (opposite u x.inside))) × (vertex t (before s.side) ≡ vertex u (after (opposite u x.inside)))

    meets_at : Meets x.across
    meets_at = subst Meets s.across_is (ok.meets x.inside s.side s.in_mesh s.is_side not_none)

    -- the corner and the one after it are the far vertex's neighbours in the far triangle
    pub far_from : vertex (far m x) (before (far_side m x)) ≡ x.corner
    far_from = sym meets_at.0 ∙ s.from

    -- and the corner after it the one after the far vertex
    pub far_to : vertex (far m x) (after (far_side m x)) ≡ b
    far_to = sym meets_at.1 ∙ s.to

    -- the two edges that take its place: from the corner to the far vertex, and from there to b
    module _ (v : ℕ) (e : v ≡ far_side m x) where
      -- from x to p: the side across from the vertex after p
      pub sided_first : Sided m (record { corner = x.corner; inside = x.across; across = neighbour (far m x) (after v) }) (vertex (far m x) v)
      sided_first = record {
        in_mesh = across_in;
        side = after v;
        is_side = after_side v;
        across_is = refl;
        from = ap (λ i. vertex (far m x) (before i)) e ∙ far_from;
        to = ap (vertex (far m x)) (after_thrice v (omega (arith, e, opposite_side (far m x) x.inside)));
      }

      -- from p to b: the side across from the vertex before p
      pub sided_second : Sided m (record { corner = vertex (far m x) v; inside = x.across; across = neighbour (far m x) (before v) }) b
      sided_second =
          let t : after (before v) ≡ v = after_thrice v (omega (arith, e, opposite_side (far m x) x.inside)) in
          record {
            in_mesh = across_in;
            side = before v;
            is_side = after_side (after v);
            across_is = refl;
            from = ap (vertex (far m x)) t;
            to = ap (λ i. vertex (far m x) (after i)) t ∙ ap (λ i. vertex (far m x) (after i)) e ∙ far_to;
          }

  -- ---- each step keeps the sides

  module _ (x : Slot) (rest : List Slot) (z : Zipper) (h : z.pending ≡ x ∷ rest) (f : Fit m z) where
    -- the corners after the top one are two or more
    pub ring_long : 2 ≤ length (ring rest z.done)
    ring_long = omega (arith, f.long, ap (λ p. length (ring p z.done)) h, length_ring (x ∷ rest) z.done, length_ring rest z.done)

    -- the top corner stands with the first of the ring
    pub top_sided : Sided m x (get_or (ring rest z.done) 0 O)
    top_sided = subst (Sided m x) (ring_head x rest z.done (omega (arith, ring_long))) (subst (λ p. AllSided m (get_or (ring p z.done) 0 O) p) h f.sided).0

    rest_sided : AllSided m x.corner rest
    rest_sided = (subst (λ p. AllSided m (get_or (ring p z.done) 0 O) p) h f.sided).1

    fit_moved : Fit m (moved x rest z)
    unfolding moved
    fit_moved = record { long = omega (arith, ring_long); sided = rest_sided }

    fit_pushed : (x.across ≡ none → ⊥) → Fit m (joined_z m x rest z)
    unfolding pushed
    fit_pushed d =
        let v = far_side m x in
        let p : Slot = record { corner = vertex (far m x) v; inside = x.across; across = neighbour (far m x) (before v) } in
        let q : Slot = record { corner = x.corner; inside = x.across; across = neighbour (far m x) (after v) } in
        let b : get_or (ring (p ∷ q ∷ rest) z.done) 0 O ≡ get_or (ring rest z.done) 0 O =
        ring_head p (q ∷ rest) z.done (omega (arith, length_ring (q ∷ rest) z.done)) ∙ ring_head q rest z.done (omega (arith, ring_long)) in
        record {
          long = omega (arith, ring_long, length_ring (p ∷ q ∷ rest) z.done, length_ring rest z.done);
          sided = (subst (Sided m p) (sym b) (sided_second x _ top_sided d v refl), (sided_first x _ top_sided d v refl, rest_sided));
        }

    -- either way each pending corner keeps its side
    pub fit_step : (seen : List ℕ) → Fit m (step_z m seen x rest z)
    fit_step seen = step_z_by m seen (Fit m) x rest z fit_moved (λ d n j. fit_pushed d)

  -- sides 1, 0 and 2 of the first triangle, from the top
  pub fit_start : {k : ℕ} → k < length m → Fit m (start_z k (triangle_at m k))
  unfolding start_z after
  fit_start l = record {
    long = omega arith;
    sided = (
      record { in_mesh = l; side = 1; is_side = omega arith; across_is = refl; from = refl; to = refl },
      (
        record { in_mesh = l; side = 0; is_side = omega arith; across_is = refl; from = refl; to = refl },
        (record { in_mesh = l; side = 2; is_side = omega arith; across_is = refl; from = refl; to = refl }, tt),
      ),
    );
  }

  -- ---- each step leaves less to do

  module _ (seen : List ℕ) where
    -- a corner done is one pending less; a triangle taken is two less and one pending more
    pub step_z_less : {x : Slot} {rest : List Slot} {z : Zipper} → z.pending ≡ x ∷ rest → Fit m z → left_z m seen (step_z m seen x rest z) < left_z m seen z
    unfolding moved pushed
    step_z_less {x} {rest} {z} h f =
        step_z_by m seen (λ y. left_z m seen y < left_z m seen z) x rest z (omega (arith, ap length h))
        (λ d n j.
        let l : x.across < length m = across_in x _ (top_sided x rest z h f) d in
        rw grouped (omega (arith, untaken_take x.across (seen ++ z.taken) n (length m) l, ap length h)))
      where
        grouped : seen ++ (z.taken ++ (x.across ∷ [])) ≡ (seen ++ z.taken) ++ (x.across ∷ [])
        grouped = sym (append_assoc seen z.taken (x.across ∷ []))

    -- so n steps are enough where no more than n are left
    pub grow_z_ends : (n : ℕ) {z : Zipper} → Fit m z → left_z m seen z ≤ n → (grow_z n m seen z).pending ≡ []
    grow_z_ends zero {z} f l =
        by_pending z (λ e. ap (λ t. t.pending) (grow_z_done m seen zero z e) ∙ e) (λ x rest e. absurd (omega (arith, ap length e)))
    grow_z_ends (suc n) {z} f l =
        by_pending z (λ e. ap (λ t. t.pending) (grow_z_done m seen (suc n) z e) ∙ e)
        (λ x rest e. ap (λ t. t.pending) (grow_z_step m seen n z e) ∙ grow_z_ends n (fit_step x rest z e f seen) (omega (arith, step_z_less e f)))

    -- nothing is pending at the end
    pub zipped_ends : {k : ℕ} → k < length m → (zipped m seen k).pending ≡ []
    zipped_ends {k} l = grow_z_ends (2 * length m + 3) (fit_start l) (start_z_left m seen k)

    -- what the start has and every step keeps, the end has
    pub zipped_keeps : {P : Zipper → Type 0} → ((x : Slot) (rest : List Slot) (z : Zipper) → z.pending ≡ x ∷ rest → Fit m z → P z → P (step_z m seen x rest z))
        → {k : ℕ} → k < length m → P (start_z k (triangle_at m k)) → P (zipped m seen k)
    zipped_keeps {P} s {k} l p =
        (grow_z_keeps m seen (λ z. Fit m z × P z) (λ x rest z h t. (fit_step x rest z h t.0 seen, s x rest z h t.0 t.1))
        (2 * length m + 3) (fit_start l, p)).1
