-- The zipper is the paper's region: on an accepted mesh both have the same contour, the same
-- triangles taken, and the same list from the last corner added, and nothing is pending
-- (`zipped_agrees`); so the parts of a mesh are the zippers' (`parts_zipped`).
-- In order: the statement (`Agree`); what holds between a region and a zipper (`Match`): numbers
-- for the corners, each below their count once, such that the contour is pending backwards and
-- done, and the stack the edges out of pending corners that have a neighbour; a step of the zipper
-- over an edge without neighbour leaves the region as it is (`match_idle`), any other is a step of
-- both (`match_step`); the end; all regions. Assumes an accepted mesh where it says so.
use mathlib.Core.Path.{◌≡◌, refl, sym, ◌∙◌, ap, ap₂, subst}
use mathlib.Core.Bool.{Bool, true, false, cond}
use mathlib.Core.List.{List, [], ◌∷◌, ◌++◌, map, map-map, map-append, reverse, reverse_aux, reverse_aux-eq, reverse-cons, append_assoc}
use Prim.Native.Nat.{ℕ, zero, suc, ◌+◌, ◌*◌, ◌-◌, ◌≤◌, ◌<◌}
use native.Mathlib.Omega.{arith}
use borrow.Author.Tests.{eqb-true, eqb-false, eq-eqb, ne_eqb, ltb-true, ltb-false}
use lib.Dec.{eqb, ltb}
use lib.ListN.{length, get_or, length-append, length-reverse, length-map, length-reverse_aux}
use Rattle.integers.specs.Lists.{All, count, up_to, ExactlyOnce, rotate}
use Rattle.integers.proofs.Order.{by_test}
use Rattle.integers.proofs.Counting.{count_cons, count_here, count_append, all_up_to, once_up_to}
use Rattle.integers.proofs.Rotation.{rotate_append, map_rotate, map-reverse}
use Rattle.plane.specs.Plane.{O}
use Rattle.mesh.specs.Mesh.{Triangle, Mesh, none, vertex, neighbour, after, before, triangle_at}
use Rattle.mesh.proofs.Accepted.{Accepted}
use Rattle.convex.specs.Joining.{Corner, Edge, Region, stacked, start, point_numbered, point_after, point_before, put_after, joins, joins_at, joined, is_in, dropped, step, grow, enough, region, regions_from, regions, place_of, from_last, without_straight, contour_of, parts}
use Rattle.convex.proofs.Ends.{left, step_less, grow_done, grow_step, start_left}
use Rattle.convex.specs.Zipper.{Slot, Zipper, start_z, ring, moved, pushed, joins_z, step_z, grow_z, zipped, from_last_z, regions_z, contour_z, parts_z}
use Rattle.convex.proofs.Lookups.{numbers, points, head_number, point_rotate, after_rotate, before_rotate, ring_point, ring_before, ring_first, ring_second, put_after_lem, place_of_lem}
use Rattle.convex.proofs.Slots.{length_ring, far, far_side, grow_z_done, grow_z_step, Fit, fit_step, fit_start, left_z, step_z_less, start_z_left, zipped_ends}

-- a region and a zipper with nothing left to do: the same contour, the same triangles, the same
-- list from the last corner added
pub record Agree (r : Region) (z : Zipper) : Type 0 where
  pub contour : map (λ c. c.point) r.contour ≡ z.done
  pub taken : r.taken ≡ z.taken
  pub pending : z.pending ≡ []
  pub from_last_lem : from_last r.contour ≡ from_last_z z

-- ---- a region and a zipper at work

-- a pending corner with its number
record Numbered : Type 0 where
  number : ℕ
  slot : Slot

abbrev corner_of : Numbered → Corner
corner_of s = record { number = s.number; point = s.slot.corner }

abbrev corners : List Numbered → List Corner
corners l = map corner_of l

abbrev slots_of : List Numbered → List Slot
slots_of l = map (λ s. s.slot) l

-- the edges out of pending corners that have a neighbour, the top first; b is the corner after the
-- top one
abbrev edges_from : ℕ → List Numbered → List Edge
edges_from b [] = []
edges_from b (s ∷ l) = stacked s.slot.inside s.slot.across s.number b (edges_from s.number l)

-- the last corner of n added is the top one while fresh; then it stands in done, `last` from the
-- end
abbrev LastAt : Bool → ℕ → ℕ → List Numbered → List Corner → Type 0
LastAt true n last [] done = ⊥
LastAt true n last (x ∷ rest) done = suc x.number ≡ n
LastAt false n last rest done = (0 < last) × ((last ≤ length done) × (suc (get_or (numbers done) (length done - last) 0) ≡ n))

record Match (r : Region) (z : Zipper) : Type 0 where
  slots : List Numbered
  done : List Corner
  pending_is : slots_of slots ≡ z.pending
  done_is : points done ≡ z.done
  taken_is : r.taken ≡ z.taken
  contour_is : r.contour ≡ reverse_aux (corners slots) done
  stack_is : r.stack ≡ edges_from (head_number (done ++ reverse (corners slots))) slots
  once : ExactlyOnce (length r.contour) (numbers r.contour)
  last_is : LastAt z.fresh (length r.contour) z.last slots done

-- ---- lists

once_le : {n : ℕ} {l : List ℕ} → ExactlyOnce n l → (i : ℕ) → count i l ≤ 1
once_le {n} {l} o i = by_test (ltb i n) (λ t. omega (arith, o.once i (ltb-true i n t))) (λ t. omega (arith, o.others i (ltb-false i n t)))

count_put : (i n : ℕ) (a b : List ℕ) → count i (a ++ n ∷ b) ≡ cond (eqb n i) 1 0 + count i (a ++ b)
count_put i n a b = omega (arith, count_append i a (n ∷ b), count_append i a b, count_cons i n b)

count_split : (i : ℕ) (a b : List Corner) → count i (numbers (a ++ b)) ≡ count i (numbers a) + count i (numbers b)
count_split i a b = ap (count i) (map-append (λ c. c.number) a b) ∙ count_append i (numbers a) (numbers b)

-- n more
once_put : {n : ℕ} (a b : List ℕ) → ExactlyOnce n (a ++ b) → ExactlyOnce (suc n) (a ++ n ∷ b)
once_put {n} a b o = record {
  once = λ i h. count_put i n a b ∙ by_test (eqb n i)
      (λ t. rw t (omega (arith, o.others i (omega (arith, eqb-true n i t)))))
      (λ t. let d : n ≡ i → ⊥ = eqb-false n i t in rw t (omega (arith, o.once i (omega (arith, d)))));
  others = λ i h. count_put i n a b ∙ ap (λ t. cond t 1 0 + count i (a ++ b)) (ne_eqb n i (λ e. omega (arith, e))) ∙ omega (arith, o.others i (omega arith));
}

head_snoc : (l : List Corner) (c : Corner) → 0 < length l → head_number (l ++ (c ∷ [])) ≡ head_number l
head_snoc [] c h = absurd (omega arith)
head_snoc (d ∷ l) c h = refl

-- the corner after the top is the first of the ring
head_top : (done : List Corner) (s : Numbered) (ss : List Numbered) → 0 < length (done ++ reverse (corners ss))
    → head_number (done ++ reverse (corners (s ∷ ss))) ≡ head_number (done ++ reverse (corners ss))
head_top done s ss h =
    ap head_number (ap (λ l. done ++ l) (reverse-cons (corner_of s) (corners ss)) ∙ sym (append_assoc done (reverse (corners ss)) (corner_of s ∷ [])))
    ∙ head_snoc (done ++ reverse (corners ss)) (corner_of s) h

ring_points : (done : List Corner) (ss : List Numbered) → points (done ++ reverse (corners ss)) ≡ ring (slots_of ss) (points done)
ring_points done ss =
    map-append (λ c. c.point) done (reverse (corners ss))
    ∙ ap (λ l. points done ++ l) (map-reverse (λ c. c.point) (corners ss) ∙ ap reverse (map-map (λ c. c.point) corner_of ss ∙ sym (map-map (λ s. s.corner) (λ s. s.slot) ss)))

-- ---- a step: s is the top pending corner, ss the others

module _ (r : Region) (z : Zipper) (s : Numbered) (ss : List Numbered) (done : List Corner)
    (done_is : points done ≡ z.done) (taken_is : r.taken ≡ z.taken) (contour_is : r.contour ≡ reverse_aux (corners ss) (corner_of s ∷ done))
    (once : ExactlyOnce (length r.contour) (numbers r.contour)) (last_is : LastAt z.fresh (length r.contour) z.last (s ∷ ss) done) where
  last_moved : (fresh : Bool) → LastAt fresh (length r.contour) z.last (s ∷ ss) done
      → LastAt false (length r.contour) (cond fresh (suc (length z.done)) z.last) ss (corner_of s ∷ done)
  last_moved true e =
      let l : length z.done ≡ length done = ap length (sym done_is) ∙ length-map done (λ c. c.point) in
      let k : suc (length done) - suc (length z.done) ≡ 0 = omega arith in
      (omega arith, (omega arith, ap (λ j. suc (get_or (numbers (corner_of s ∷ done)) j 0)) k ∙ e))
  last_moved false e =
      let k : suc (length done) - z.last ≡ suc (length done - z.last) = omega (arith, e.1.0) in
      (e.0, (omega (arith, e.1.0), ap (λ j. suc (get_or (numbers (corner_of s ∷ done)) j 0)) k ∙ e.1.1))

  -- the top corner is done, and the region's top edge gone
  match_moved : (q : Region) → q.contour ≡ r.contour → q.taken ≡ r.taken → q.stack ≡ edges_from s.number ss → Match q (moved s.slot (slots_of ss) z)
  unfolding moved
  match_moved q c t k = record {
    slots = ss;
    done = corner_of s ∷ done;
    pending_is = refl;
    done_is = ap (λ l. s.slot.corner ∷ l) done_is;
    taken_is = t ∙ taken_is;
    contour_is = c ∙ contour_is;
    stack_is = k;
    once = subst (λ l. ExactlyOnce (length l) (numbers l)) (sym c) once;
    last_is = subst (λ l. LastAt false (length l) (cond z.fresh (suc (length z.done)) z.last) ss (corner_of s ∷ done)) (sym c) (last_moved z.fresh last_is);
  }

  abbrev front : List Corner
  front = reverse (corners ss)

  split : r.contour ≡ front ++ corner_of s ∷ done
  split = contour_is ∙ reverse_aux-eq (corners ss) (corner_of s ∷ done)

  split_once : (i : ℕ) → count i (numbers (front ++ corner_of s ∷ done)) ≤ 1
  split_once i = subst (λ l. count i (numbers l) ≤ 1) split (once_le once i)

  top_new : count s.number (numbers front) ≡ 0
  top_new = omega (arith, split_once s.number, count_split s.number front (corner_of s ∷ done), count_here {i = s.number} (numbers done) refl)

  abbrev after_top : List Corner
  after_top = done ++ front

  module _ (long : 3 ≤ length r.contour) where
    after_long : 2 ≤ length after_top
    after_long = omega (arith, ap length split, length-append front (corner_of s ∷ done), length-append done front)

    next_is : head_number (done ++ reverse (corners (s ∷ ss))) ≡ head_number after_top
    next_is = head_top done s ss (omega (arith, after_long))

    turned : rotate (length front) r.contour ≡ corner_of s ∷ after_top
    turned = ap (rotate (length front)) split ∙ rotate_append front (corner_of s ∷ done)

    turned_once : (i : ℕ) → count i (numbers (corner_of s ∷ after_top)) ≤ 1
    turned_once i =
        omega (
          arith,
          split_once i,
          count_split i front (corner_of s ∷ done),
          count_split i done front,
          count_cons i s.number (numbers done),
          count_cons i s.number (numbers after_top),
        )

    -- both tests look at the same five corners
    same_test : (e : Edge) (u : Triangle) (v : ℕ) → e.a ≡ s.number → e.b ≡ head_number (done ++ reverse (corners (s ∷ ss)))
        → joins_at e u v r.contour ≡ joins_z s.slot (ring (slots_of ss) z.done) u v
    same_test e u v ea eb = λ i. joins (before_it i) (at_a i) (vertex u v) (at_b i) (after_it i)
      where
        k : ℕ
        k = length front

        b_is : e.b ≡ head_number after_top
        b_is = eb ∙ next_is

        ring_is : points after_top ≡ ring (slots_of ss) z.done
        ring_is = ring_points done ss ∙ ap (ring (slots_of ss)) done_is

        before_it : point_before e.a r.contour ≡ get_or (ring (slots_of ss) z.done) (length (ring (slots_of ss) z.done) - 1) O
        before_it =
            sym (before_rotate e.a k r.contour (once_le once e.a)) ∙ ap₂ point_before ea turned
            ∙ ring_before (corner_of s) after_top after_long (turned_once s.number) ∙ ap (λ l. get_or l (length l - 1) O) ring_is

        at_a : point_numbered e.a r.contour ≡ s.slot.corner
        at_a = sym (point_rotate e.a k r.contour (once_le once e.a)) ∙ ap₂ point_numbered ea turned ∙ ring_point (corner_of s) after_top

        at_b : point_numbered e.b r.contour ≡ get_or (ring (slots_of ss) z.done) 0 O
        at_b =
            sym (point_rotate e.b k r.contour (once_le once e.b)) ∙ ap₂ point_numbered b_is turned
            ∙ ring_first (corner_of s) after_top after_long (turned_once (head_number after_top)) ∙ ap (λ l. get_or l 0 O) ring_is

        after_it : point_after e.b r.contour ≡ get_or (ring (slots_of ss) z.done) 1 O
        after_it =
            sym (after_rotate e.b k r.contour (once_le once e.b)) ∙ ap₂ point_after b_is turned
            ∙ ring_second (corner_of s) after_top after_long (turned_once (head_number after_top)) ∙ ap (λ l. get_or l 1 O) ring_is

    -- p is put after the top corner, and the edges to it and from it take the edge's place
    match_pushed : (e : Edge) (u : Triangle) (v : ℕ) → e.across ≡ s.slot.across → e.a ≡ s.number → e.b ≡ head_number (done ++ reverse (corners (s ∷ ss)))
        → Match (joined e u v (edges_from s.number ss) r.contour r.taken) (pushed s.slot (slots_of ss) u v z)
    unfolding joined pushed
    match_pushed e u v ex ea eb = record {
      slots = p ∷ x ∷ ss;
      done = done;
      pending_is = refl;
      done_is = done_is;
      taken_is = ap₂ (λ t n. t ++ (n ∷ [])) taken_is ex;
      contour_is = put ∙ sym (reverse_aux-eq (corners ss) (corner_of s ∷ c ∷ done));
      stack_is = λ i. stacked (ex i) (neighbour u (before v)) n (same_next i) (stacked (ex i) (neighbour u (after v)) (ea i) n (edges_from s.number ss));
      once = subst (λ l. ExactlyOnce (length l) (numbers l)) (sym put) (subst (λ n. ExactlyOnce n (numbers (front ++ corner_of s ∷ c ∷ done))) (sym one_more) put_once);
      last_is = sym (ap length put ∙ one_more);
    }
      where
        n : ℕ
        n = length r.contour

        c : Corner
        c = record { number = n; point = vertex u v }

        p : Numbered
        p = record { number = n; slot = record { corner = vertex u v; inside = s.slot.across; across = neighbour u (before v) } }

        x : Numbered
        x = record { number = s.number; slot = record { corner = s.slot.corner; inside = s.slot.across; across = neighbour u (after v) } }

        put : put_after e.a c r.contour ≡ front ++ corner_of s ∷ c ∷ done
        put = ap₂ (λ n l. put_after n c l) ea split ∙ put_after_lem c front (corner_of s) done top_new refl

        one_more : length (front ++ corner_of s ∷ c ∷ done) ≡ suc n
        one_more = omega (arith, ap length split, length-append front (corner_of s ∷ done), length-append front (corner_of s ∷ c ∷ done))

        put_once : ExactlyOnce (suc n) (numbers (front ++ corner_of s ∷ c ∷ done))
        put_once =
            subst (ExactlyOnce (suc n)) (append_assoc (numbers front) (s.number ∷ []) (n ∷ numbers done) ∙ sym (map-append (λ c. c.number) front (corner_of s ∷ c ∷ done)))
            (once_put (numbers front ++ (s.number ∷ [])) (numbers done)
            (subst (ExactlyOnce n) (ap numbers split ∙ map-append (λ c. c.number) front (corner_of s ∷ done) ∙ sym (append_assoc (numbers front) (s.number ∷ []) (numbers done))) once))

        same_next : e.b ≡ head_number (done ++ reverse (corners (p ∷ x ∷ ss)))
        same_next = eb ∙ sym (head_top done p (x ∷ ss) (omega (arith, length-append done (reverse (corners (x ∷ ss))), length-reverse (corners (x ∷ ss)))))

-- ---- step by step

module _ (m : Mesh) (seen : List ℕ) (r : Region) (z : Zipper) (t : Match r z) (s : Numbered) (ss : List Numbered) (e : t.slots ≡ s ∷ ss) where
  abbrev x : Slot
  x = s.slot

  abbrev edge : Edge
  edge = record { inside = x.inside; across = x.across; a = s.number; b = head_number (t.done ++ reverse (corners (s ∷ ss))) }

  pending_top : z.pending ≡ x ∷ slots_of ss
  pending_top = sym t.pending_is ∙ ap slots_of e

  contour_top : r.contour ≡ reverse_aux (corners ss) (corner_of s ∷ t.done)
  contour_top = t.contour_is ∙ ap (λ l. reverse_aux (corners l) t.done) e

  stack_top : r.stack ≡ stacked x.inside x.across s.number edge.b (edges_from s.number ss)
  stack_top = t.stack_is ∙ ap (λ l. edges_from (head_number (t.done ++ reverse (corners l))) l) e

  last_top : LastAt z.fresh (length r.contour) z.last (s ∷ ss) t.done
  last_top = subst (λ l. LastAt z.fresh (length r.contour) z.last l t.done) e t.last_is

  contour_long : Fit m z → 3 ≤ length r.contour
  contour_long f =
      let p : length t.slots ≡ length z.pending = sym (length-map t.slots (λ s. s.slot)) ∙ ap length t.pending_is in
      let d : length t.done ≡ length z.done = sym (length-map t.done (λ c. c.point)) ∙ ap length t.done_is in
      let c : length r.contour ≡ length t.slots + length t.done =
      ap length t.contour_is ∙ length-reverse_aux (corners t.slots) t.done ∙ ap (λ n. n + length t.done) (length-map t.slots corner_of) in
      omega (arith, f.long, length_ring z.pending z.done)

  moved_match : (q : Region) → q.contour ≡ r.contour → q.taken ≡ r.taken → q.stack ≡ edges_from s.number ss → Match q (moved x (slots_of ss) z)
  moved_match = match_moved r z s ss t.done t.done_is t.taken_is contour_top t.once last_top

  -- an edge without neighbour is not on the stack
  match_idle : x.across ≡ none → Match r (step_z m seen x (slots_of ss) z)
  unfolding step_z stacked
  match_idle n = rw (eq-eqb x.across none n) (moved_match r refl refl (stack_top ∙ rw (eq-eqb x.across none n)))

  module _ (d : x.across ≡ none → ⊥) where
    top_edge : r.stack ≡ edge ∷ edges_from s.number ss
    unfolding stacked
    top_edge = stack_top ∙ rw (ne_eqb x.across none d)

    match_step : Fit m z → Match (step m seen edge (edges_from s.number ss) r) (step_z m seen x (slots_of ss) z)
    unfolding step step_z
    match_step f =
        let same : is_in x.across (seen ++ r.taken) ≡ is_in x.across (seen ++ z.taken) = ap (λ l. is_in x.across (seen ++ l)) t.taken_is in
        let test : joins_at edge (far m x) (far_side m x) r.contour ≡ joins_z x (ring (slots_of ss) z.done) (far m x) (far_side m x) =
        same_test r z s ss t.done t.done_is t.taken_is contour_top t.once last_top (contour_long f) edge (far m x) (far_side m x) refl refl in
        rw (ne_eqb x.across none d, same, test)
        (by_test (is_in x.across (seen ++ z.taken)) (λ b. rw b (moved_match (dropped (edges_from s.number ss) r) refl refl refl))
        (λ b. rw b (by_test (joins_z x (ring (slots_of ss) z.done) (far m x) (far_side m x))
        (λ j. rw j (match_pushed r z s ss t.done t.done_is t.taken_is contour_top t.once last_top (contour_long f) edge (far m x) (far_side m x) refl refl refl))
        (λ j. rw j (moved_match (dropped (edges_from s.number ss) r) refl refl refl)))))

by_slots : {X : Type 0} {r : Region} {z : Zipper} (t : Match r z) → (t.slots ≡ [] → X) → ((s : Numbered) (ss : List Numbered) → t.slots ≡ s ∷ ss → X) → X
by_slots {X} t f g = at refl
  where
    at : {l : List Numbered} → t.slots ≡ l → X
    at {l = []} h = f h
    at {l = s ∷ ss} h = g s ss h

-- with nothing pending the last corner added stands in done
from_last_is : (fresh : Bool) (last : ℕ) {s : List Numbered} → s ≡ [] → (l : List Corner) → LastAt fresh (length l) last s l → ExactlyOnce (length l) (numbers l)
    → from_last l ≡ rotate (length (points l) - last) (points l)
from_last_is true last {s = []} e l h o = absurd h
from_last_is true last {s = x ∷ s} e l h o = absurd (omega (arith, ap length e))
from_last_is false last e l h o =
    map_rotate (λ c. c.point) (place_of (length l - 1) l) l
    ∙ ap (λ j. rotate j (points l)) (place (ap (λ n. n - last) (length-map l (λ c. c.point))))
  where
    place : {k : ℕ} → k ≡ length l - last → place_of (length l - 1) l ≡ k
    place {k} e =
        let at : suc (get_or (numbers l) k 0) ≡ length l = ap (λ j. suc (get_or (numbers l) j 0)) e ∙ h.1.1 in
        place_of_lem l k (omega (arith, h.0, h.1.0)) (omega arith) (once_le o (length l - 1))

module _ (m : Mesh) (ok : Accepted m) (seen : List ℕ) where
  -- nothing is pending, so nothing is stacked
  match_done : (n f : ℕ) {r : Region} {z : Zipper} (t : Match r z) → t.slots ≡ [] → Match (grow f m seen r) (grow_z n m seen z)
  match_done n f {r} {z} t e =
      subst (λ q. Match q (grow_z n m seen z)) (sym (grow_done f m seen r (t.stack_is ∙ ap (λ l. edges_from (head_number (t.done ++ reverse (corners l))) l) e)))
      (subst (Match r) (sym (grow_z_done m seen n z (sym t.pending_is ∙ ap slots_of e))) t)

  -- a step of both, where what follows keeps the match
  both_step : (n f : ℕ) {r : Region} {z : Zipper} (t : Match r z) {s : Numbered} {ss : List Numbered} → t.slots ≡ s ∷ ss → (s.slot.across ≡ none → ⊥) → Fit m z → left m seen r ≤ f
      → ((f : ℕ) (q : Region) → left m seen q ≤ f → Match q (step_z m seen s.slot (slots_of ss) z) → Match (grow f m seen q) (grow_z n m seen (step_z m seen s.slot (slots_of ss) z)))
      → Match (grow f m seen r) (grow_z n m seen (step_z m seen s.slot (slots_of ss) z))
  both_step n zero {r} {z} t {s} {ss} e d fit k again = absurd (omega (arith, ap length (top_edge m seen r z t s ss e d)))
  both_step n (suc f) {r} {z} t {s} {ss} e d fit k again =
      let h = top_edge m seen r z t s ss e d in
      subst (λ q. Match q (grow_z n m seen (step_z m seen s.slot (slots_of ss) z))) (sym (grow_step f m seen r h))
      (again f _ (omega (arith, step_less m seen r h)) (match_step m seen r z t s ss e d fit))

  grow_match : (n : ℕ) {f : ℕ} {r : Region} {z : Zipper} → Fit m z → left_z m seen z ≤ n → left m seen r ≤ f → Match r z → Match (grow f m seen r) (grow_z n m seen z)
  grow_match zero {f} {r} {z} fit l k t =
      by_slots t (match_done zero f t) (λ s ss e. absurd (omega (arith, ap length (pending_top m seen r z t s ss e))))
  grow_match (suc n) {f} {r} {z} fit l k t =
      by_slots t (match_done (suc n) f t)
      (λ s ss e.
      let y : Zipper = step_z m seen s.slot (slots_of ss) z in
      let h : z.pending ≡ s.slot ∷ slots_of ss = pending_top m seen r z t s ss e in
      let less : left_z m seen y ≤ n = omega (arith, step_z_less m ok seen h fit) in
      let again : (f : ℕ) (q : Region) → left m seen q ≤ f → Match q y → Match (grow f m seen q) (grow_z n m seen y) =
      λ f q k u. grow_match n (fit_step m ok s.slot (slots_of ss) z h fit seen) less k u in
      subst (Match (grow f m seen r)) (sym (grow_z_step m seen n z h))
      (by_test (eqb s.slot.across none)
      (λ a. again f r k (match_idle m seen r z t s ss e (eqb-true s.slot.across none a)))
      (λ a. both_step n f t e (eqb-false s.slot.across none a) fit k again)))

  -- ---- the end

  match_start : (k : ℕ) → Match (start k (triangle_at m k)) (start_z k (triangle_at m k))
  unfolding start start_z
  match_start k = record {
    slots = three 2 2 1 ∷ three 1 1 0 ∷ three 0 0 2 ∷ [];
    done = [];
    pending_is = refl;
    done_is = refl;
    taken_is = refl;
    contour_is = refl;
    stack_is = refl;
    once = unfold up_to in once_up_to 3;
    last_is = refl;
  }
    where
      three : ℕ → ℕ → ℕ → Numbered
      three n i j = record { number = n; slot = record { corner = vertex (triangle_at m k) i; inside = k; across = neighbour (triangle_at m k) j } }

  module _ (k : ℕ) (l : k < length m) where
    abbrev r : Region
    r = region m seen k

    abbrev z : Zipper
    z = zipped m seen k

    zipped_match : Match r z
    zipped_match =
        grow_match (2 * length m + 3)
        (fit_start m ok l) (start_z_left m seen k) (start_left m seen k) (match_start k)

    none_left : zipped_match.slots ≡ []
    none_left = empty zipped_match.slots (zipped_match.pending_is ∙ zipped_ends m ok seen l)
      where
        empty : (l : List Numbered) → slots_of l ≡ [] → l ≡ []
        empty [] e = refl
        empty (s ∷ l) e = absurd (omega (arith, ap length e))

    contour_done : r.contour ≡ zipped_match.done
    contour_done = zipped_match.contour_is ∙ ap (λ l. reverse_aux (corners l) zipped_match.done) none_left

    -- the same contour
    pub zipped_contour : map (λ c. c.point) r.contour ≡ z.done
    zipped_contour = ap points contour_done ∙ zipped_match.done_is

    -- the same triangles
    pub zipped_taken : r.taken ≡ z.taken
    zipped_taken = zipped_match.taken_is

    -- the same list from the last corner added
    pub zipped_from_last : from_last r.contour ≡ from_last_z z
    zipped_from_last =
        ap from_last contour_done
        ∙ from_last_is z.fresh z.last none_left zipped_match.done
        (subst (λ l. LastAt z.fresh (length l) z.last zipped_match.slots zipped_match.done) contour_done zipped_match.last_is)
        (subst (λ l. ExactlyOnce (length l) (numbers l)) contour_done zipped_match.once)
        ∙ ap (λ l. rotate (length l - z.last) l) zipped_match.done_is

    -- the zipper is the paper's region
    pub zipped_agrees : Agree r z
    zipped_agrees = record { contour = zipped_contour; taken = zipped_taken; pending = zipped_ends m ok seen l; from_last_lem = zipped_from_last }

-- ---- all regions

module _ {m : Mesh} (ok : Accepted m) where
  contours_zipped : (seen l : List ℕ) → All (λ i. i < length m) l → map contour_z (regions_z m seen l) ≡ map contour_of (regions_from m seen l)
  unfolding regions_z regions_from contour_of
  contours_zipped seen [] b = refl
  contours_zipped seen (k ∷ l) b = by_test (is_in k seen)
      (λ t. rw t (contours_zipped seen l b.1))
      (λ t. rw t
      (let a = zipped_agrees m ok seen k b.0 in
      ap₂ ◌∷◌ (ap without_straight (sym a.from_last_lem)) (contours_zipped (seen ++ (zipped m seen k).taken) l b.1 ∙ ap (λ s. map contour_of (regions_from m (seen ++ s) l)) (sym a.taken))))

  -- the parts of an accepted mesh are the zippers'
  pub parts_zipped : parts_z m ≡ parts m
  unfolding parts_z parts regions
  parts_zipped = contours_zipped [] (up_to (length m)) (all_up_to (length m))
