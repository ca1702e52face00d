-- One step on the buffers is `step_z` of the zipper that they hold: flags (`free_set`,
-- `marked_set`); what stays sound after a store (`grid_set`, `across_set`); which case of `step_z`
-- applies (`step_stays`, `step_goes`); the top corner done (`moved_step`); a triangle joined
-- (`push_step`), and the same of the code's numbers (`pushed_step`). Assumes nothing.
use mathlib.Core.Path.{◌≡◌, refl, sym, ◌∙◌, ap, ap₂, subst}
use mathlib.Core.Bool.{Bool, true, false, cond}
use mathlib.Core.List.{List, [], ◌∷◌, ◌++◌, append_assoc}
use Prim.Native.Nat.{ℕ, zero, suc, ◌+◌, ◌-◌, ◌≤◌, ◌<◌}
use native.Mathlib.Omega.{arith}
use borrow.Author.Tests.{eqb-true, eqb-false}
use lib.Dec.{eqb}
use lib.ListN.{length, get_or, set, length-set}
use lib.Seq.{get_or-set_same, get_or-set_other}
use lib.IntN.{ℤ}
use Rattle.integers.proofs.Order.{by_test}
use Rattle.integers.proofs.Tests.{differ}
use Rattle.plane.specs.Plane.{Pt, on_grid}
use Rattle.mesh.specs.Mesh.{Triangle, Mesh, none, vertex, neighbour, after, before, triangle_at, opposite}
use Rattle.mesh.proofs.Accepted.{accepted}
use Rattle.mesh.proofs.Sides.{after_side}
use Rattle.convex.specs.Joining.{is_in}
use Rattle.convex.proofs.Taken.{is_in_append, is_in_one}
use Rattle.convex.specs.Zipper.{Slot, Zipper, ring, joins_z, moved, pushed, step_z}
use Rattle.convex_ring.specs.declared.Progress.{Progress}
use Rattle.points.specs.Points.{corner_of, pair_of, Grid}
use Rattle.convex_ring.specs.Buffers.{slot_at, pending_of, free, Marked, Holds, Sound, around}
use Rattle.convex_grow.proofs.Choice.{chosen}
use Rattle.convex_grow.specs.Growing.{moved_by, pushed_by, Stepped}
use Rattle.convex_ring.proofs.Reading.{pending_cons, pending_more, pending_set_corner, pending_set_edge, done_move, done_set, length_done, around_ring}

-- ---- flags

pub free_set : (flags : List Bool) (k : ℕ) → k < length flags → get_or flags k false ≡ false → suc (free (set flags k true)) ≡ free flags
unfolding free
free_set [] k h e = absurd (omega arith)
free_set (true ∷ l) zero h e = differ (sym e)
free_set (false ∷ l) zero h e = omega arith
free_set (b ∷ l) (suc k) h e = omega (arith, free_set l k (omega arith) e)

or_false : (t : Bool) {s : Bool} → s ≡ false → t ≡ cond t true s
or_false true e = refl
or_false false e = sym e

or_true : (t : Bool) {s : Bool} → s ≡ true → true ≡ cond t true s
or_true true e = refl
or_true false e = sym e

-- k is marked, and is put to the list
pub marked_set : {flags : List Bool} {l : List ℕ} {k : ℕ} → k < length flags → Marked flags l → Marked (set flags k true) (l ++ (k ∷ []))
marked_set {flags} {l} {k} h m = record { at = at }
  where
    whole : (j : ℕ) → is_in j (l ++ (k ∷ [])) ≡ cond (is_in j l) true (eqb k j)
    whole j = is_in_append j l (k ∷ []) ∙ ap (λ t. cond (is_in j l) true t) (is_in_one j k)

    at : (j : ℕ) → j < length (set flags k true) → get_or (set flags k true) j false ≡ is_in j (l ++ (k ∷ []))
    at j g =
        by_test (eqb k j)
        (λ e. ap (λ i. get_or (set flags k true) i false) (sym (eqb-true k j e)) ∙ get_or-set_same flags k true false h ∙ or_true (is_in j l) e ∙ sym (whole j))
        (λ e. get_or-set_other flags k j true false (λ q. eqb-false k j e (sym q)) ∙ m.at j (omega (arith, length-set flags k true)) ∙ or_false (is_in j l) e ∙ sym (whole j))

-- ---- stores

-- what holds of every element, and of the one stored
set_all : {A : Type 0} (P : A → Type 0) (l : List A) {i : ℕ} {a : A} (d : A) → i < length l → ((j : ℕ) → P (get_or l j d)) → P a → (j : ℕ) → P (get_or (set l i a) j d)
set_all P l {i} {a} d h f g j =
    by_test (eqb i j)
    (λ e. subst P (sym (ap (λ k. get_or (set l i a) k d) (sym (eqb-true i j e)) ∙ get_or-set_same l i a d h)) g)
    (λ e. subst P (sym (get_or-set_other l i j a d (λ q. eqb-false i j e (sym q)))) (f j))

pub grid_set : {cs : List (List ℤ)} {i : ℕ} (c : List ℤ) → i < length cs → Grid cs → on_grid (corner_of c) ≡ true → Grid (set cs i c)
grid_set {cs} {i} c h g e = record { at = set_all (λ r. on_grid (corner_of r) ≡ true) cs [] h g.at e }

abbrev Within : ℕ → List ℕ → Type 0
Within count e = (get_or e 1 0 ≡ none → ⊥) → get_or e 1 0 < count

pub across_set : {size : ℕ} {count : ℕ} (es : List (List ℕ)) (i : ℕ) (e : List ℕ) → size ≤ length es → ((j : ℕ) → j < size → 0 < count → Within count (get_or es j [])) → Within count e → (j : ℕ) → j < size → 0 < count → Within count (get_or (set es i e) j [])
across_set {count} es i e h f g j k some =
    by_test (eqb i j)
    (λ q. subst (Within count) (sym (ap (λ n. get_or (set es n e) j []) (eqb-true i j q) ∙ get_or-set_same es j e [] (omega arith))) g)
    (λ q. subst (Within count) (sym (get_or-set_other es i j e [] (λ n. eqb-false i j q (sym n)))) (f j k some))

-- ---- the three tests: no neighbour, taken, joins

stays : {Z : Type 0} (t1 t2 t2' t3 : Bool) {a : ℕ} (mv ps : Z) → (t1 ≡ false → t2 ≡ t2') → (t1 ≡ false → a ≡ none → ⊥) → cond t1 none (cond t2 none (cond t3 a none)) ≡ none → cond t1 mv (cond t2' mv (cond t3 ps mv)) ≡ mv
stays true t2 t2' t3 mv ps s n h = refl
stays false true true t3 mv ps s n h = refl
stays false true false t3 mv ps s n h = differ (sym (s refl))
stays false false true t3 mv ps s n h = differ (s refl)
stays false false false false mv ps s n h = refl
stays false false false true mv ps s n h = absurd (n refl h)

goes : {Z : Type 0} (t1 t2 t2' t3 : Bool) (a : ℕ) (mv ps : Z) → (t1 ≡ false → t2 ≡ t2') → (cond t1 none (cond t2 none (cond t3 a none)) ≡ none → ⊥) → cond t1 mv (cond t2' mv (cond t3 ps mv)) ≡ ps
goes true t2 t2' t3 a mv ps s h = absurd (h refl)
goes false true t2' t3 a mv ps s h = absurd (h refl)
goes false false true t3 a mv ps s h = differ (s refl)
goes false false false false a mv ps s h = absurd (h refl)
goes false false false true a mv ps s h = refl

-- what is known of the neighbour that is chosen
found : (t1 t2 t3 : Bool) (a : ℕ) → (cond t1 none (cond t2 none (cond t3 a none)) ≡ none → ⊥) → (cond t1 none (cond t2 none (cond t3 a none)) ≡ a) × ((t1 ≡ false) × (t2 ≡ false))
found true t2 t3 a h = absurd (h refl)
found false true t3 a h = absurd (h refl)
found false false false a h = absurd (h refl)
found false false true a h = (refl, (refl, refl))

-- the place of the last corner added, of n done from d on: right before l, whether it is done now
-- or was before
last_moved : (t : Bool) {size : ℕ} (n zl : ℕ) {d l : ℕ} → n + d ≡ size → (t ≡ true → l ≡ d) → (t ≡ false → zl + l ≡ size + 1) → cond t (suc n) zl + l ≡ size + 1
last_moved true n zl h f g = omega (arith, f refl)
last_moved false n zl h f g = g refl

-- ---- a step

pub stepped_by : {size : ℕ} {m : Mesh} {cs : List (List ℤ)} {es : List (List ℕ)} {flags : List Bool} {p : Progress} {cs1 cs2 : List (List ℤ)} {es1 es2 : List (List ℕ)} {flags1 flags2 : List Bool} {p1 p2 : Progress} → cs2 ≡ cs1 → es2 ≡ es1 → flags2 ≡ flags1 → p2 ≡ p1 → Stepped size m cs es flags p cs1 es1 flags1 p1 → Stepped size m cs es flags p cs2 es2 flags2 p2
stepped_by {size} {m} {cs} {es} {flags} {p} {cs1} {cs2} {es1} {es2} {flags1} {flags2} {p1} {p2} ce ee fe pe h =
    subst (λ c. Stepped size m cs es flags p c es2 flags2 p2) (sym ce)
    (subst (λ e. Stepped size m cs es flags p cs1 e flags2 p2) (sym ee)
    (subst (λ f. Stepped size m cs es flags p cs1 es1 f p2) (sym fe) (subst (λ q. Stepped size m cs es flags p cs1 es1 flags1 q) (sym pe) h)))

module _ (size : ℕ) (m : Mesh) (cs : List (List ℤ)) (es : List (List ℕ)) (flags : List Bool) (p : Progress) (s : Sound size m cs es flags p) (some : 0 < p.pending) where
  abbrev x : Slot
  x = slot_at cs es (p.pending - 1)

  abbrev rest : List Slot
  rest = pending_of cs es (p.pending - 1)

  abbrev r : List Pt
  r = around cs p.pending p.done

  abbrev u : Triangle
  u = triangle_at m x.across

  abbrev v : ℕ
  v = opposite u x.inside

  pub in_mesh : (x.across ≡ none → ⊥) → x.across < length flags
  in_mesh d = omega (arith, s.ready.across (p.pending - 1) (omega (arith, s.room, s.whole)) s.meshed d, s.ready.marks)

  module _ {seen : List ℕ} {z : Zipper} (h : Holds size cs es flags p seen z) where
    same_flag : eqb x.across none ≡ false → get_or flags x.across false ≡ is_in x.across (seen ++ z.taken)
    same_flag e = h.taken.at x.across (in_mesh (eqb-false x.across none e))

    same_ring : ring rest z.done ≡ r
    same_ring = ap (ring rest) h.done ∙ around_ring cs es p.done (omega (arith, s.ready.corners, s.room, s.whole))

    by_ring : step_z m seen x rest z ≡ cond (eqb x.across none) (moved x rest z) (cond (is_in x.across (seen ++ z.taken)) (moved x rest z) (cond (joins_z x r u v) (pushed x rest u v z) (moved x rest z)))
    unfolding step_z
    by_ring = ap (λ q. cond (eqb x.across none) (moved x rest z) (cond (is_in x.across (seen ++ z.taken)) (moved x rest z) (cond (joins_z x q u v) (pushed x rest u v z) (moved x rest z)))) same_ring

    step_stays : chosen m flags x r ≡ none → step_z m seen x rest z ≡ moved x rest z
    unfolding chosen
    step_stays e = by_ring ∙ stays (eqb x.across none) (get_or flags x.across false) (is_in x.across (seen ++ z.taken)) (joins_z x r u v) (moved x rest z) (pushed x rest u v z) same_flag (eqb-false x.across none) e

    step_goes : (chosen m flags x r ≡ none → ⊥) → step_z m seen x rest z ≡ pushed x rest u v z
    unfolding chosen
    step_goes e = by_ring ∙ goes (eqb x.across none) (get_or flags x.across false) (is_in x.across (seen ++ z.taken)) (joins_z x r u v) x.across (moved x rest z) (pushed x rest u v z) same_flag e

  -- ---- the top corner is done

  abbrev top : List ℤ
  top = get_or cs (p.pending - 1) []

  move_sound : Sound size m (set cs (p.done - 1) top) es flags (moved_by p)
  move_sound = record {
    ready = record {
      accepted = s.ready.accepted;
      enough = s.ready.enough;
      corners = length-set cs (p.done - 1) top ∙ s.ready.corners;
      edges = s.ready.edges;
      marks = s.ready.marks;
      grid = grid_set top (omega (arith, s.ready.corners, s.room, s.whole)) s.ready.grid (s.ready.grid.at (p.pending - 1));
      across = s.ready.across;
    };
    meshed = s.meshed;
    room = omega (arith, s.room);
    whole = omega (arith, s.whole);
    three = omega (arith, s.three, s.room);
    placed = omega (arith, s.placed);
    ended = s.ended;
    rested = λ e. omega (arith, s.room, s.placed);
  }

  move_holds : {seen : List ℕ} {z : Zipper} → Holds size cs es flags p seen z → Holds size (set cs (p.done - 1) top) es flags (moved_by p) seen (moved x rest z)
  unfolding moved
  move_holds {z} h = record {
    pending = sym (pending_set_corner cs es (p.pending - 1) top (omega (arith, s.room)));
    done = ap (λ l. x.corner ∷ l) h.done ∙ sym (done_move cs p.done top (omega (arith, s.room)) (omega (arith, s.whole, s.ready.corners)));
    fresh = λ e. differ e;
    last = λ e. last_moved z.fresh (length z.done) z.last (omega (arith, ap length h.done, length_done cs p.done, s.ready.corners, s.whole)) h.fresh h.last;
    taken = h.taken;
  }

  pub moved_step : chosen m flags x r ≡ none → Stepped size m cs es flags p (set cs (p.done - 1) top) es flags (moved_by p)
  moved_step e = record {
    sound = move_sound;
    less = omega arith;
    kept = omega (arith, s.room);
    holds = λ seen z h. subst (Holds size (set cs (p.done - 1) top) es flags (moved_by p) seen) (sym (step_stays h e)) (move_holds h);
  }

  -- ---- a triangle joins

  module _ (d : chosen m flags x r ≡ none → ⊥) where
    across_some : x.across ≡ none → ⊥
    unfolding chosen
    across_some = eqb-false x.across none (found (eqb x.across none) (get_or flags x.across false) (joins_z x r u v) x.across d).1.0

    not_taken : get_or flags x.across false ≡ false
    unfolding chosen
    not_taken = (found (eqb x.across none) (get_or flags x.across false) (joins_z x r u v) x.across d).1.1

    free_less : suc (free (set flags x.across true)) ≡ free flags
    free_less = free_set flags x.across (in_mesh across_some) not_taken

    abbrev first : List ℕ
    first = x.across ∷ neighbour u (after v) ∷ []

    abbrev second : List ℕ
    second = x.across ∷ neighbour u (before v) ∷ []

    abbrev cs' : List (List ℤ)
    cs' = set cs p.pending (pair_of (vertex u v))

    abbrev es' : List (List ℕ)
    es' = set (set es (p.pending - 1) first) p.pending second

    push_sound : Sound size m cs' es' (set flags x.across true) (pushed_by p)
    push_sound =
        let a = accepted m s.ready.accepted in
        let l : x.across < length m = s.ready.across (p.pending - 1) (omega (arith, s.room, s.whole)) s.meshed across_some in
        record {
          ready = record {
            accepted = s.ready.accepted;
            enough = s.ready.enough;
            corners = length-set cs p.pending (pair_of (vertex u v)) ∙ s.ready.corners;
            edges = length-set (set es (p.pending - 1) first) p.pending second ∙ length-set es (p.pending - 1) first ∙ s.ready.edges;
            marks = length-set flags x.across true ∙ s.ready.marks;
            grid = grid_set (pair_of (vertex u v)) (omega (arith, s.ready.corners, s.room, s.whole, free_less)) s.ready.grid (a.on_grid_lem x.across v l);
            across =
                across_set (set es (p.pending - 1) first) p.pending second (omega (arith, length-set es (p.pending - 1) first, s.ready.edges, s.room, s.whole, free_less))
                (across_set es (p.pending - 1) first (omega (arith, s.ready.edges, s.room, s.whole)) s.ready.across (a.in_mesh x.across (after v) l (after_side v)))
                (a.in_mesh x.across (before v) l (after_side (after v)));
          };
          meshed = s.meshed;
          room = omega (arith, s.room, free_less);
          whole = s.whole;
          three = omega (arith, s.three);
          placed = omega arith;
          ended = s.whole;
          rested = λ e. absurd (omega (arith, e));
        }

    push_pending : pending_of cs' es' (p.pending + 1) ≡ record { corner = vertex u v; inside = x.across; across = neighbour u (before v) } ∷ record { corner = x.corner; inside = x.across; across = neighbour u (after v) } ∷ rest
    push_pending =
        let n = p.pending in
        let es1 = set es (n - 1) first in
        pending_more cs' es' n
        ∙ ap₂ ◌∷◌
        (slot_eq (get_or-set_same cs n (pair_of (vertex u v)) [] (omega (arith, s.ready.corners, s.room, s.whole, free_less))) (get_or-set_same es1 n second [] (omega (arith, length-set es (n - 1) first, s.ready.edges, s.room, s.whole, free_less))))
        (pending_cons cs' es' some
        ∙ ap₂ ◌∷◌
        (slot_eq (get_or-set_other cs n (n - 1) (pair_of (vertex u v)) [] (λ e. omega arith)) (get_or-set_other es1 n (n - 1) second [] (λ e. omega arith) ∙ get_or-set_same es (n - 1) first [] (omega (arith, s.ready.edges, s.room, s.whole))))
        (pending_set_edge cs' es1 (n - 1) second (omega arith) ∙ pending_set_edge cs' es (n - 1) first (omega arith) ∙ pending_set_corner cs es (n - 1) (pair_of (vertex u v)) (omega arith)))
      where
        slot_eq : {c c' : List ℤ} {e e' : List ℕ} → c ≡ c' → e ≡ e' → ◌≡◌ {A = Slot} (record { corner = corner_of c; inside = get_or e 0 0; across = get_or e 1 0 }) (record { corner = corner_of c'; inside = get_or e' 0 0; across = get_or e' 1 0 })
        slot_eq f g = λ i. record { corner = corner_of (f i); inside = get_or (g i) 0 0; across = get_or (g i) 1 0 }

    push_holds : {seen : List ℕ} {z : Zipper} → Holds size cs es flags p seen z → Holds size cs' es' (set flags x.across true) (pushed_by p) seen (pushed x rest u v z)
    unfolding pushed
    push_holds {seen} {z} h = record {
      pending = sym push_pending;
      done = h.done ∙ sym (done_set cs p.done (pair_of (vertex u v)) (omega (arith, s.room, free_less)));
      fresh = λ e. refl;
      last = λ e. differ (sym e);
      taken = subst (Marked (set flags x.across true)) (append_assoc seen z.taken (x.across ∷ [])) (marked_set (in_mesh across_some) h.taken);
    }

    push_step : Stepped size m cs es flags p cs' es' (set flags x.across true) (pushed_by p)
    push_step = record {
      sound = push_sound;
      less = omega (arith, free_less);
      kept = omega (arith, free_less);
      holds = λ seen z h. subst (Holds size cs' es' (set flags x.across true) (pushed_by p) seen) (sym (step_goes h d)) (push_holds h);
    }

    pub push_room : p.pending < size
    push_room = omega (arith, s.room, s.whole, free_less)

  -- ---- the same of the code's numbers: far is the far vertex, f and s the neighbours over the new
  -- edges, of the triangle t that stands across

  pub pushed_step : x.across ≡ chosen m flags x r → (x.across ≡ none → ⊥) → {t : Triangle} {far : Pt} {f g : ℕ} {cs2 : List (List ℤ)} {es2 : List (List ℕ)} {p2 : Progress} → t ≡ u → far ≡ vertex u v → f ≡ neighbour t (after (opposite t x.inside)) → g ≡ neighbour t (before (opposite t x.inside)) → cs2 ≡ set cs p.pending (pair_of far) → es2 ≡ set (set es (p.pending - 1) (x.across ∷ f ∷ [])) p.pending (x.across ∷ g ∷ []) → p2 ≡ pushed_by p → Stepped size m cs es flags p cs2 es2 (set flags x.across true) p2
  pushed_step q n tu fe ff ge ce ee pe =
      let d : chosen m flags x r ≡ none → ⊥ = λ e. n (q ∙ e) in
      let f1 = ff ∙ ap (λ t. neighbour t (after (opposite t x.inside))) tu in
      let g1 = ge ∙ ap (λ t. neighbour t (before (opposite t x.inside))) tu in
      stepped_by (ce ∙ ap (λ w. set cs p.pending (pair_of w)) fe) (ee ∙ (λ i. set (set es (p.pending - 1) (x.across ∷ f1 i ∷ [])) p.pending (x.across ∷ g1 i ∷ []))) refl pe (push_step d)
