-- The buffers read as a zipper: the pending slots, top first (`pending_cons`, `pending_more`), and
-- after a store (`pending_set_corner`, `pending_set_edge`); the done corners after a move and after
-- a store (`done_move`, `done_set`); the corners after the top one round the contour
-- (`around_ring`) and three of them by their places (`around_near`, `around_far`, `around_below`,
-- `around_back`); what they ask, of sound buffers (`around_of`). Assumes nothing.
use mathlib.Core.Path.{◌≡◌, refl, sym, ◌∙◌, ap, ap₂}
use mathlib.Core.Bool.{Bool}
use mathlib.Core.List.{List, [], ◌∷◌, ◌++◌, map, map-append, reverse, reverse-cons}
use Prim.Native.Nat.{ℕ, zero, suc, ◌+◌, ◌-◌, ◌≤◌, ◌<◌}
use native.Mathlib.Numerals.{add-one}
use native.Mathlib.Omega.{arith}
use lib.ListN.{length, get_or, set, take, drop, length-append, length-drop, length-map, length-set, get_or-append, get_or-map}
use lib.Seq.{take-suc, drop-cons, drop-set-lt, get_or-set_same, get_or-set_other, get_or-take, get_or-drop, get_or-append-add, length-take-le}
use lib.IntN.{ℤ}
use Rattle.plane.specs.Plane.{O}
use Rattle.mesh.specs.Mesh.{Mesh, opposite}
use Rattle.mesh.specs.Rows.{row_triangle}
use Rattle.mesh.proofs.Sides.{opposite_side}
use Rattle.convex.specs.Zipper.{ring}
use Rattle.convex_ring.specs.declared.Progress.{Progress}
use Rattle.points.specs.Points.{corner_of, corner_in}
use Rattle.convex_ring.specs.Buffers.{slot_at, pending_of, done_of, around, Around, Sound}

-- ---- pending

module _ (cs : List (List ℤ)) (es : List (List ℕ)) where
  pending_suc : (n : ℕ) → pending_of cs es (suc n) ≡ slot_at cs es n ∷ pending_of cs es n
  unfolding pending_of
  pending_suc n = refl

  pub pending_cons : {n : ℕ} → 0 < n → pending_of cs es n ≡ slot_at cs es (n - 1) ∷ pending_of cs es (n - 1)
  pending_cons {n} h = let e : n ≡ suc (n - 1) = omega arith in ap (pending_of cs es) e ∙ pending_suc (n - 1)

  pub pending_more : (n : ℕ) → pending_of cs es (n + 1) ≡ slot_at cs es n ∷ pending_of cs es n
  pending_more n = ap (pending_of cs es) (add-one n) ∙ pending_suc n

  -- a store at or past n
  pub pending_set_corner : (n : ℕ) {i : ℕ} (c : List ℤ) → n ≤ i → pending_of (set cs i c) es n ≡ pending_of cs es n
  unfolding pending_of
  pending_set_corner zero {i} c h = refl
  pending_set_corner (suc n) {i} c h =
      ap₂ ◌∷◌ (ap (λ r. record { corner = corner_of r; inside = get_or (get_or es n []) 0 0; across = get_or (get_or es n []) 1 0 }) (get_or-set_other cs i n c [] (λ e. omega arith)))
      (pending_set_corner n c (omega arith))

  pub pending_set_edge : (n : ℕ) {i : ℕ} (e : List ℕ) → n ≤ i → pending_of cs (set es i e) n ≡ pending_of cs es n
  unfolding pending_of
  pending_set_edge zero {i} e h = refl
  pending_set_edge (suc n) {i} e h =
      ap₂ ◌∷◌ (ap (λ r. record { corner = corner_in cs n; inside = get_or r 0 0; across = get_or r 1 0 }) (get_or-set_other es i n e [] (λ k. omega arith)))
      (pending_set_edge n e (omega arith))

  -- the corners of the pending slots, from the first
  pub pending_corners : (n : ℕ) → n ≤ length cs → reverse (map (λ s. s.corner) (pending_of cs es n)) ≡ map corner_of (take n cs)
  unfolding pending_of
  pending_corners zero h = refl
  pending_corners (suc n) h =
      reverse-cons (corner_in cs n) (map (λ s. s.corner) (pending_of cs es n)) ∙ ap (λ l. l ++ (corner_in cs n ∷ [])) (pending_corners n (omega arith)) ∙ sym (ap (map corner_of) (take-suc cs n [] h) ∙ map-append corner_of (take n cs) (get_or cs n [] ∷ []))

  pub around_ring : {n : ℕ} (d : ℕ) → n ≤ length cs → ring (pending_of cs es (n - 1)) (done_of cs d) ≡ around cs n d
  unfolding around
  around_ring {n} d h = ap (λ l. done_of cs d ++ l) (pending_corners (n - 1) (omega arith)) ∙ sym (map-append corner_of (drop d cs) (take (n - 1) cs))

-- ---- done

module _ (cs : List (List ℤ)) where
  -- the corner c is put before those done
  pub done_move : (d : ℕ) (c : List ℤ) → 0 < d → d ≤ length cs → done_of (set cs (d - 1) c) (d - 1) ≡ corner_of c ∷ done_of cs d
  done_move d c h k =
      let t = d - 1 in
      let e : suc t ≡ d = omega arith in
      ap (map corner_of)
      (drop-cons (set cs t c) t [] (omega (arith, length-set cs t c)) ∙ ap₂ ◌∷◌ (get_or-set_same cs t c [] (omega arith)) (drop-set-lt (suc t) cs t c (omega arith) ∙ ap (λ n. drop n cs) e))

  -- a store before d
  pub done_set : (d : ℕ) {i : ℕ} (c : List ℤ) → i < d → done_of (set cs i c) d ≡ done_of cs d
  done_set d {i} c h = ap (map corner_of) (drop-set-lt d cs i c h)

  pub length_done : (d : ℕ) → length (done_of cs d) ≡ length cs - d
  length_done d = length-map (drop d cs) corner_of ∙ length-drop d cs

  -- ---- round the contour

  pub length_around : {n : ℕ} (d : ℕ) → n ≤ length cs → length (around cs n d) ≡ (length cs - d) + (n - 1)
  unfolding around
  length_around {n} d h =
      length-map (drop d cs ++ take (n - 1) cs) corner_of ∙ length-append (drop d cs) (take (n - 1) cs) ∙ ap₂ ◌+◌ (length-drop d cs) (length-take-le (n - 1) cs (omega arith))

  read : (n d i : ℕ) → get_or (around cs n d) i O ≡ corner_of (get_or (drop d cs ++ take (n - 1) cs) i [])
  unfolding around
  read n d i = get_or-map corner_of (drop d cs ++ take (n - 1) cs) i []

  pub around_at : (n d i : ℕ) → d + i < length cs → get_or (around cs n d) i O ≡ corner_in cs (d + i)
  around_at n d i h = read n d i ∙ ap corner_of (get_or-append (drop d cs) (take (n - 1) cs) [] i (omega (arith, length-drop d cs)) ∙ get_or-drop d cs i [])

  pub around_past : (n : ℕ) {d : ℕ} (i : ℕ) {j : ℕ} → d ≤ length cs → j + length cs ≡ d + i → j < n - 1 → get_or (around cs n d) i O ≡ corner_in cs j
  around_past n {d} i {j} h e k =
      read n d i
      ∙ ap corner_of
      (ap (λ q. get_or (drop d cs ++ take (n - 1) cs) q []) (omega (arith, length-drop d cs, e)) ∙ get_or-append-add (drop d cs) (take (n - 1) cs) j [] ∙ get_or-take (n - 1) cs j [] k)

  -- the last: below the top, or the end of those done
  pub around_end_pending : {n d : ℕ} → 1 < n → n ≤ length cs → d ≤ length cs → get_or (around cs n d) (length (around cs n d) - 1) O ≡ corner_in cs (n - 2)
  around_end_pending {n} {d} h k l = around_past n (length (around cs n d) - 1) l (omega (arith, length_around d k)) (omega arith)

  pub around_end_done : {n : ℕ} {d : ℕ} → n ≡ 1 → n ≤ length cs → d < length cs → get_or (around cs n d) (length (around cs n d) - 1) O ≡ corner_in cs (length cs - 1)
  around_end_done {n} {d} h k l =
      around_at n d (length (around cs n d) - 1) (omega (arith, length_around d k)) ∙ ap (corner_in cs) (omega (arith, length_around d k))

-- ---- what `Around` gives

module _ {cs : List (List ℤ)} {n d : ℕ} (a : Around cs n d) where
  pub around_near : (i : ℕ) → d + i < length cs → get_or (around cs n d) i O ≡ corner_in cs (d + i)
  around_near i h = around_at cs n d i h

  pub around_far : {i : ℕ} → i < 2 → length cs ≤ d + i → get_or (around cs n d) i O ≡ corner_in cs (d + i - length cs)
  around_far {i} h k = around_past cs n i a.whole (omega arith) (omega (arith, a.three))

  pub around_below : 1 < n → get_or (around cs n d) (length (around cs n d) - 1) O ≡ corner_in cs (n - 2)
  around_below h = around_end_pending cs h (omega (arith, a.room, a.whole)) a.whole

  pub around_back : n ≤ 1 → get_or (around cs n d) (length (around cs n d) - 1) O ≡ corner_in cs (length cs - 1)
  around_back h = around_end_done cs (omega (arith, a.some)) (omega (arith, a.room, a.whole)) (omega (arith, a.three))

-- the side of a row that names a triangle
pub side_below : {j : ℕ} (t : List ℤ) (k : ℕ) → j ≡ opposite (row_triangle t) k → j < 3
side_below t k e = omega (arith, e, opposite_side (row_triangle t) k)

pub around_of : {size : ℕ} {m : Mesh} {cs : List (List ℤ)} {es : List (List ℕ)} {flags : List Bool} {p : Progress} → Sound size m cs es flags p → 0 < p.pending → Around cs p.pending p.done
around_of s some = record { some = some; room = omega (arith, s.room); whole = omega (arith, s.whole, s.ready.corners); three = omega (arith, s.three, s.ready.corners); grid = s.ready.grid }
