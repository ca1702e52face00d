-- A region on the buffers: its first triangle (`started`), and steps until nothing is pending
-- (`Going` is the loop's invariant: `going_start`, `going_turn`, `going_end`). Assumes nothing.
use mathlib.Core.Path.{◌≡◌, refl, sym, ◌∙◌, ap, ap₂, subst}
use mathlib.Core.Bool.{Bool, true, false}
use mathlib.Core.List.{List, [], ◌∷◌, map}
use Prim.Native.Nat.{ℕ, zero, suc, ◌+◌, ◌*◌, ◌-◌, ◌≤◌, ◌<◌}
use native.Mathlib.Omega.{arith}
use lib.ListN.{length, get_or, set, length-set, drop_of_length-le}
use lib.IntN.{ℤ}
use Rattle.integers.proofs.Tests.{differ}
use Rattle.mesh.specs.Mesh.{Triangle, Mesh, vertex, neighbour, after, before, triangle_at}
use Rattle.mesh.proofs.Accepted.{accepted}
use Rattle.convex.specs.Zipper.{Slot, Zipper, start_z, step_z, grow_z}
use Rattle.convex_ring.specs.declared.Progress.{Progress}
use Rattle.points.specs.Points.{corner_of, pair_of}
use Rattle.convex_ring.specs.Buffers.{slot_at, pending_of, free, Marked, Holds, RegionBuffers, Sound}
use Rattle.convex_grow.specs.Growing.{Stepped, Started, Ran, Grown}
use Rattle.convex_ring.proofs.Reading.{pending_cons}
use Rattle.mesh.proofs.Sides.{after_side}
use Rattle.convex_grow.proofs.Steps.{free_set, marked_set, grid_set, across_set}

-- ---- the first triangle

three_stores : {A : Type 0} (l : List A) (a b c d : A) → 3 ≤ length l → let l' = set (set (set l 0 a) 1 b) 2 c in (get_or l' 0 d ≡ a) × ((get_or l' 1 d ≡ b) × (get_or l' 2 d ≡ c))
three_stores [] a b c d h = absurd (omega arith)
three_stores (x ∷ []) a b c d h = absurd (omega arith)
three_stores (x ∷ y ∷ []) a b c d h = absurd (omega arith)
three_stores (x ∷ y ∷ z ∷ l) a b c d h = (refl, (refl, refl))

length_three : {A : Type 0} (l : List A) (a b c : A) → length (set (set (set l 0 a) 1 b) 2 c) ≡ length l
length_three l a b c = length-set (set (set l 0 a) 1 b) 2 c ∙ length-set (set l 0 a) 1 b ∙ length-set l 0 a

pub free_le : (flags : List Bool) → free flags ≤ length flags
unfolding free
free_le [] = omega arith
free_le (true ∷ l) = omega (arith, free_le l)
free_le (false ∷ l) = omega (arith, free_le l)

module _ (size : ℕ) (m : Mesh) (cs : List (List ℤ)) (es : List (List ℕ)) (flags : List Bool) (k : ℕ) (s : RegionBuffers size m cs es flags) (l : k < length m) (f : get_or flags k false ≡ false) where
  abbrev t : Triangle
  t = triangle_at m k

  abbrev c : ℕ → List ℤ
  c i = pair_of (vertex t i)

  abbrev e : ℕ → List ℕ
  e i = k ∷ neighbour t (before i) ∷ []

  abbrev cs' : List (List ℤ)
  cs' = set (set (set cs 0 (c 0)) 1 (c 1)) 2 (c 2)

  abbrev es' : List (List ℕ)
  es' = set (set (set es 0 (e 0)) 1 (e 1)) 2 (e 2)

  abbrev p : Progress
  p = record { pending = 3; done = size; last = size }

  less : suc (free (set flags k true)) ≡ free flags
  less = free_set flags k (omega (arith, s.marks)) f

  ready : RegionBuffers size m cs' es' (set flags k true)
  ready =
      let a = accepted m s.accepted in
      record {
        accepted = s.accepted;
        enough = s.enough;
        corners = length_three cs (c 0) (c 1) (c 2) ∙ s.corners;
        edges = length_three es (e 0) (e 1) (e 2) ∙ s.edges;
        marks = length-set flags k true ∙ s.marks;
        grid =
            grid_set (c 2) (omega (arith, length-set (set cs 0 (c 0)) 1 (c 1), length-set cs 0 (c 0), s.corners))
            (grid_set (c 1) (omega (arith, length-set cs 0 (c 0), s.corners)) (grid_set (c 0) (omega (arith, s.corners)) s.grid (a.on_grid_lem k 0 l)) (a.on_grid_lem k 1 l)) (a.on_grid_lem k 2 l);
        across =
            across_set (set (set es 0 (e 0)) 1 (e 1)) 2 (e 2) (omega (arith, length-set (set es 0 (e 0)) 1 (e 1), length-set es 0 (e 0), s.edges))
            (across_set (set es 0 (e 0)) 1 (e 1) (omega (arith, length-set es 0 (e 0), s.edges)) (across_set es 0 (e 0) (omega (arith, s.edges)) s.across (a.in_mesh k (before 0) l (after_side (after 0)))) (a.in_mesh k (before 1) l (after_side (after 1)))) (a.in_mesh k (before 2) l (after_side (after 2)));
      }

  sound : Sound size m cs' es' (set flags k true) p
  sound = record {
    ready = ready;
    meshed = omega arith;
    room = omega (arith, less, free_le flags, s.marks, s.enough);
    whole = omega arith;
    three = omega arith;
    placed = omega arith;
    ended = omega arith;
    rested = λ e. absurd (omega (arith, e));
  }

  slot : (i j : ℕ) → get_or cs' i [] ≡ c j → get_or es' i [] ≡ e j → slot_at cs' es' i ≡ record { corner = vertex t j; inside = k; across = neighbour t (before j) }
  slot i j g h = λ a. record { corner = corner_of (g a); inside = get_or (h a) 0 0; across = get_or (h a) 1 0 }

  slots : (start_z k t).pending ≡ pending_of cs' es' 3
  unfolding start_z pending_of after
  slots =
      let g = three_stores cs (c 0) (c 1) (c 2) [] (omega (arith, s.corners)) in
      let h = three_stores es (e 0) (e 1) (e 2) [] (omega (arith, s.edges)) in
      sym (ap₂ ◌∷◌ (slot 2 2 g.1.1 h.1.1) (ap₂ ◌∷◌ (slot 1 1 g.1.0 h.1.0) (ap₂ ◌∷◌ (slot 0 0 g.0 h.0) refl)))

  holds : (seen : List ℕ) → Marked flags seen → Holds size cs' es' (set flags k true) p seen (start_z k t)
  unfolding start_z
  holds seen h = record {
    pending = slots;
    done = ap (map corner_of) (sym (drop_of_length-le cs' {i = size} (omega (arith, length_three cs (c 0) (c 1) (c 2), s.corners))));
    fresh = λ e. refl;
    last = λ e. differ (sym e);
    taken = marked_set {k = k} (omega (arith, s.marks)) h;
  }

  pub started : Started size m k flags cs' es' (set flags k true) p
  started = record { sound = sound; enough = omega (arith, less, free_le flags, s.marks); kept = omega (arith, less); holds = holds }

  -- the same of what three stores of the code gave, each known by an equation
  pub started_by : {u : Triangle} {C D E : List (List ℤ)} {F G H : List (List ℕ)} → u ≡ t → C ≡ set cs 0 (pair_of (vertex u 0)) → D ≡ set C 1 (pair_of (vertex u 1)) → E ≡ set D 2 (pair_of (vertex u 2)) → F ≡ set es 0 (k ∷ neighbour u (before 0) ∷ []) → G ≡ set F 1 (k ∷ neighbour u (before 1) ∷ []) → H ≡ set G 2 (k ∷ neighbour u (before 2) ∷ []) → Started size m k flags E H (set flags k true) p
  started_by {u} {C} {D} {E} {F} {G} {H} w c0 c1 c2 e0 e1 e2 =
      let ce : E ≡ cs' = c2 ∙ (λ i. set (c1 i) 2 (pair_of (vertex u 2))) ∙ (λ i. set (set (c0 i) 1 (pair_of (vertex u 1))) 2 (pair_of (vertex u 2))) ∙ (λ i. set (set (set cs 0 (pair_of (vertex (w i) 0))) 1 (pair_of (vertex (w i) 1))) 2 (pair_of (vertex (w i) 2))) in
      let ee : H ≡ es' =
      e2 ∙ (λ i. set (e1 i) 2 (k ∷ neighbour u (before 2) ∷ [])) ∙ (λ i. set (set (e0 i) 1 (k ∷ neighbour u (before 1) ∷ [])) 2 (k ∷ neighbour u (before 2) ∷ []))
      ∙ (λ i. set (set (set es 0 (k ∷ neighbour (w i) (before 0) ∷ [])) 1 (k ∷ neighbour (w i) (before 1) ∷ [])) 2 (k ∷ neighbour (w i) (before 2) ∷ [])) in
      subst (λ a. Started size m k flags a H (set flags k true) p) (sym ce) (subst (λ b. Started size m k flags cs' b (set flags k true) p) (sym ee) started)

-- ---- the buffers keep their size, so that it can be read off them

module _ {size : ℕ} {m : Mesh} {cs : List (List ℤ)} {es : List (List ℕ)} {flags : List Bool} {p : Progress} (s : Sound size m cs es flags p) where
  pub sound_here : Sound (length cs) m cs es flags p
  sound_here = subst (λ n. Sound n m cs es flags p) (sym s.ready.corners) s

  stepped_there : {cs' : List (List ℤ)} {es' : List (List ℕ)} {flags' : List Bool} {p' : Progress} → Stepped (length cs) m cs es flags p cs' es' flags' p' → Stepped size m cs es flags p cs' es' flags' p'
  stepped_there {cs'} {es'} {flags'} {p'} = subst (λ n. Stepped n m cs es flags p cs' es' flags' p') s.ready.corners

  ran_there : {cs' : List (List ℤ)} {es' : List (List ℕ)} {flags' : List Bool} {p' : Progress} → Ran (length cs) m cs es flags p cs' es' flags' p' → Ran size m cs es flags p cs' es' flags' p'
  ran_there {cs'} {es'} {flags'} {p'} = subst (λ n. Ran n m cs es flags p cs' es' flags' p') s.ready.corners

-- ---- steps until nothing is pending

grow_turn : (n : ℕ) (m : Mesh) (seen : List ℕ) (z : Zipper) {x : Slot} {rest : List Slot} → z.pending ≡ x ∷ rest → grow_z (suc n) m seen z ≡ grow_z n m seen (step_z m seen x rest z)
unfolding grow_z
grow_turn n m seen z h = ap (λ l. elim l [ [] ↦ z | x ∷ rest ↦ grow_z n m seen (step_z m seen x rest z) ]) h

grow_end : (n : ℕ) (m : Mesh) (seen : List ℕ) (z : Zipper) → z.pending ≡ [] → grow_z n m seen z ≡ z
unfolding grow_z
grow_end zero m seen z h = refl
grow_end (suc n) m seen z h = ap (λ l. elim l [ [] ↦ z | x ∷ rest ↦ grow_z n m seen (step_z m seen x rest z) ]) h

none_left : (cs : List (List ℤ)) (es : List (List ℕ)) {n : ℕ} → n ≡ 0 → pending_of cs es n ≡ []
unfolding pending_of
none_left cs es e = ap (pending_of cs es) e

-- what n₀ steps from z₀ give is what n steps from z give, and the buffers hold z
pub record Left (size : ℕ) (m : Mesh) (cs : List (List ℤ)) (es : List (List ℕ)) (flags : List Bool) (p : Progress) (seen : List ℕ) (z₀ : Zipper) (n₀ : ℕ) : Type 0 where
  pub z : Zipper
  pub n : ℕ
  pub holds : Holds size cs es flags p seen z
  pub enough : p.pending + 2 * free flags ≤ n
  pub same : grow_z n₀ m seen z₀ ≡ grow_z n m seen z

pub record Going (size : ℕ) (m : Mesh) (cs₀ : List (List ℤ)) (es₀ : List (List ℕ)) (flags₀ : List Bool) (p₀ : Progress) (cs : List (List ℤ)) (es : List (List ℕ)) (flags : List Bool) (p : Progress) : Type 0 where
  pub sound : Sound size m cs es flags p
  pub kept : p.pending + free flags + p₀.done ≡ p₀.pending + free flags₀ + p.done
  pub left : (seen : List ℕ) (z₀ : Zipper) (n₀ : ℕ) → Holds size cs₀ es₀ flags₀ p₀ seen z₀ → p₀.pending + 2 * free flags₀ ≤ n₀ → Left size m cs es flags p seen z₀ n₀

module _ (size : ℕ) (m : Mesh) (cs₀ : List (List ℤ)) (es₀ : List (List ℕ)) (flags₀ : List Bool) (p₀ : Progress) where
  pub going_start : Sound size m cs₀ es₀ flags₀ p₀ → Going size m cs₀ es₀ flags₀ p₀ cs₀ es₀ flags₀ p₀
  going_start s = record { sound = s; kept = refl; left = λ seen z n h e. record { z = z; n = n; holds = h; enough = e; same = refl } }

  pub going_turn : {cs : List (List ℤ)} {es : List (List ℕ)} {flags : List Bool} {p : Progress} {cs' : List (List ℤ)} {es' : List (List ℕ)} {flags' : List Bool} {p' : Progress} → 0 < p.pending → Going size m cs₀ es₀ flags₀ p₀ cs es flags p → Stepped (length cs) m cs es flags p cs' es' flags' p' → Going size m cs₀ es₀ flags₀ p₀ cs' es' flags' p'
  going_turn {cs} {es} {flags} {p} {cs'} {es'} {flags'} {p'} some g h = record { sound = t.sound; kept = omega (arith, g.kept, t.kept); left = left }
    where
      t : Stepped size m cs es flags p cs' es' flags' p'
      t = stepped_there g.sound h

      left : (seen : List ℕ) (z₀ : Zipper) (n₀ : ℕ) → Holds size cs₀ es₀ flags₀ p₀ seen z₀ → p₀.pending + 2 * free flags₀ ≤ n₀ → Left size m cs' es' flags' p' seen z₀ n₀
      left seen z₀ n₀ h e =
          let o = g.left seen z₀ n₀ h e in
          let n : o.n ≡ suc (o.n - 1) = omega (arith, o.enough) in
          record {
            z = step_z m seen (slot_at cs es (p.pending - 1)) (pending_of cs es (p.pending - 1)) o.z;
            n = o.n - 1;
            holds = t.holds seen o.z o.holds;
            enough = omega (arith, o.enough, t.less);
            same = o.same ∙ ap (λ i. grow_z i m seen o.z) n ∙ grow_turn (o.n - 1) m seen o.z (o.holds.pending ∙ pending_cons cs es some);
          }

  pub going_end : {cs : List (List ℤ)} {es : List (List ℕ)} {flags : List Bool} {p : Progress} → p.pending ≡ 0 → Going size m cs₀ es₀ flags₀ p₀ cs es flags p → Ran size m cs₀ es₀ flags₀ p₀ cs es flags p
  going_end {cs} {es} {flags} {p} e g = record { sound = g.sound; empty = e; kept = g.kept; holds = holds }
    where
      holds : (seen : List ℕ) (z : Zipper) (n : ℕ) → Holds size cs₀ es₀ flags₀ p₀ seen z → p₀.pending + 2 * free flags₀ ≤ n → Holds size cs es flags p seen (grow_z n m seen z)
      holds seen z n h k = let o = g.left seen z n h k in subst (Holds size cs es flags p seen) (sym (o.same ∙ grow_end o.n m seen o.z (o.holds.pending ∙ none_left cs es e))) o.holds

-- ---- a region, whole

pub grown : {size : ℕ} {m : Mesh} {k : ℕ} {flags : List Bool} {cs : List (List ℤ)} {es : List (List ℕ)} {flags1 : List Bool} {p : Progress} {cs' : List (List ℤ)} {es' : List (List ℕ)} {flags' : List Bool} {p' : Progress} → Started size m k flags cs es flags1 p → Ran (length cs) m cs es flags1 p cs' es' flags' p' → Grown size m k flags cs' es' flags' p'
grown {m} {k} s h =
    let r = ran_there s.sound h in
    record {
      sound = r.sound;
      empty = r.empty;
      kept = omega (arith, s.kept, r.kept, r.empty);
      holds = λ seen h. r.holds seen (start_z k (triangle_at m k)) (2 * length m + 3) (s.holds seen h) s.enough;
    }
