-- The answer: points copied to the lent corners, one a turn (`points_turn`; a start's turn is
-- `copy_turn` of integers/proofs/Overlay.antt); parts handed out or refused for want of room
-- (`starts_refused`, `corners_refused`, `handed`); the same after a mesh's own faults
-- (`mesh_refused`, `mesh_answered`). Assumes nothing.
use mathlib.Core.Path.{◌≡◌, sym, ◌∙◌, ap, subst}
use mathlib.Core.List.{List, [], ◌∷◌, ◌++◌, map, map-append, flatten}
use Prim.Native.Nat.{ℕ, ◌+◌, ◌*◌, ◌/◌, ◌≤◌, ◌<◌}
use native.Mathlib.Numerals.{add-one}
use native.Mathlib.Omega.{arith}
use borrow.Author.Tests.{lt-ltb, le-ltb}
use lib.Dec.{lit<}
use lib.ListN.{length, get_or, take, length-map}
use lib.Seq.{take-suc, length-take-le}
use lib.IntN.{ℤ}
use Rattle.integers.specs.Lists.{overlay}
use Rattle.integers.specs.Faults.{first_fault}
use Rattle.integers.proofs.Overlay.{overlay_two}
use Rattle.plane.specs.Plane.{Pt}
use Rattle.mesh.specs.Mesh.{Mesh, mesh_kinds}
use Rattle.table.specs.declared.Counts.{Counts}
use Rattle.corners.specs.Corners.{points_of, numbers_of, with_corner}
use Rattle.table.specs.Table.{starts_of, corners_of, room_kinds, Answered}
use Rattle.integers.proofs.Faults.{append_some, append_none}
use Rattle.table.proofs.Answers.{refused_counts, refused_buffer, accepted_counts, accepted_buffer}
use Rattle.corners.proofs.Corners.{length_points, length_numbers, numbers_append}
use Rattle.table.proofs.Parts.{length-starts_from}
use Rattle.points.specs.declared.Tally.{Tally}
use Rattle.points.specs.Points.{corner_of, corner_in, first_points}
use Rattle.points.specs.Gathered.{Gathered}
use Rattle.convex_gather.specs.Gather.{HandedOut}

-- ---- copies

length_first : (points : List (List ℤ)) (i : ℕ) → i ≤ length points → length (first_points i points) ≡ i
length_first points i h = length-map (take i points) corner_of ∙ length-take-le i points h

numbers_more : (points : List (List ℤ)) {i : ℕ} → i < length points → numbers_of (first_points (i + 1) points) ≡ numbers_of (first_points i points) ++ ((corner_in points i).x ∷ (corner_in points i).y ∷ [])
unfolding numbers_of
numbers_more points {i} h =
    ap (λ l. numbers_of (map corner_of l)) (ap (λ n. take n points) (add-one i) ∙ take-suc points i [] h) ∙ ap numbers_of (map-append corner_of (take i points) (get_or points i [] ∷ []))
    ∙ numbers_append (first_points i points) (corner_in points i ∷ [])

pub points_turn : (points : List (List ℤ)) (to₀ : List ℤ) {to to' : List ℤ} {i : ℕ} → i < length points → i < length (points_of to₀) → to ≡ overlay (numbers_of (first_points i points)) to₀ → to' ≡ with_corner to i (corner_in points i) → to' ≡ overlay (numbers_of (first_points (i + 1) points)) to₀
points_turn points to₀ {i} h k p e =
    let n = numbers_of (first_points i points) in
    let x = (corner_in points i).x in
    let y = (corner_in points i).y in
    let size : length n ≡ 2 * i = omega (arith, length_numbers (first_points i points), length_first points i (omega arith)) in
    e ∙ overlay_two n to₀ x y p size (omega (arith, k, length_points to₀)) ∙ ap (λ l. overlay l to₀) (sym (numbers_more points h))

-- ---- faults of the room

module _ {ps : List (List Pt)} (s c : ℕ) {starts : List ℕ} {points : List (List ℤ)} {t : Tally} (g : Gathered starts points t ps) where
  starts_count : length (starts_of ps) ≡ t.parts + 1
  unfolding starts_of
  starts_count = omega (arith, length-starts_from 0 ps, g.parts)

  few_starts : s < t.parts + 1 → 22 ≡ first_fault (room_kinds ps s c)
  unfolding first_fault
  few_starts h = sym (rw (lt-ltb s (length (starts_of ps)) (omega (arith, starts_count))))

  module _ (h : t.parts + 1 ≤ s) where
    few_corners : c / 2 < t.corners → 21 ≡ first_fault (room_kinds ps s c)
    unfolding first_fault
    few_corners k = sym (rw (le-ltb s (length (starts_of ps)) (omega (arith, starts_count)), lt-ltb (c / 2) (length (flatten ps)) (omega (arith, g.corners))))

    no_fault : t.corners ≤ c / 2 → 0 ≡ first_fault (room_kinds ps s c)
    unfolding first_fault
    no_fault k = sym (rw (le-ltb s (length (starts_of ps)) (omega (arith, starts_count)), le-ltb (c / 2) (length (flatten ps)) (omega (arith, g.corners))))

-- ---- what a call answers and leaves

-- a refusal: f is the fault number of parts ps
pub refused : (ps : List (List Pt)) (s : List ℕ) (c : List ℤ) {f F : ℕ} {r : Counts} → f ≡ F → (f ≡ 0 → ⊥) → r ≡ record { fault = f; parts = 0; corners = 0 } → Answered F ps s c r s c
refused ps s c {f} {F} e d h =
    let n : F ≡ 0 → ⊥ = λ q. d (e ∙ q) in
    record {
      counts = h ∙ ap (λ k. record { fault = k; parts = 0; corners = 0 }) e ∙ sym (refused_counts n ps);
      starts = sym (refused_buffer n (starts_of ps) s);
      corners = sym (refused_buffer n (corners_of ps) c);
    }

module _ (starts : List ℕ) (points : List (List ℤ)) (t : Tally) (s : List ℕ) (c : List ℤ) where
  pub starts_refused : {r : Counts} → length s < t.parts + 1 → r ≡ record { fault = 22; parts = 0; corners = 0 } → HandedOut starts points t s c r s c
  starts_refused h e = record { answer = λ ps g. refused ps s c (few_starts (length s) (length c) g h) (λ q. omega (arith, q)) e }

  module _ (h : t.parts + 1 ≤ length s) where
    pub corners_refused : {r : Counts} → length c / 2 < t.corners → r ≡ record { fault = 21; parts = 0; corners = 0 } → HandedOut starts points t s c r s c
    corners_refused k e = record { answer = λ ps g. refused ps s c (few_corners (length s) (length c) g h k) (λ q. omega (arith, q)) e }

    pub handed : {s' : List ℕ} {c' : List ℤ} → t.corners ≤ length c / 2 → s' ≡ overlay (take (t.parts + 1) starts) s → c' ≡ overlay (numbers_of (first_points t.corners points)) c → HandedOut starts points t s c (record { fault = 0; parts = t.parts; corners = t.corners }) s' c'
    unfolding corners_of
    handed k p q = record {
      answer = λ ps g.
          let e = sym (no_fault (length s) (length c) g h k) in
          let F = first_fault (room_kinds ps (length s) (length c)) in
          record {
            counts = (λ i. record { fault = 0; parts = g.parts i; corners = g.corners i }) ∙ sym (accepted_counts e ps);
            starts = p ∙ ap (λ l. overlay l s) g.begins ∙ sym (accepted_buffer e (starts_of ps) s);
            corners = q ∙ ap (λ l. overlay (numbers_of l) c) g.gathered ∙ sym (accepted_buffer e (corners_of ps) c);
          };
    }

-- ---- after a mesh's own faults

-- a fault of the mesh is told
pub mesh_refused : (m : Mesh) (ps : List (List Pt)) (s : List ℕ) (c : List ℤ) {f : ℕ} {r : Counts} → f ≡ first_fault (mesh_kinds m) → (f ≡ 0 → ⊥) → r ≡ record { fault = f; parts = 0; corners = 0 } → Answered (first_fault (mesh_kinds m ++ room_kinds ps (length s) (length c))) ps s c r s c
mesh_refused m ps s c e d h = refused ps s c (e ∙ sym (append_some (mesh_kinds m) (room_kinds ps (length s) (length c)) (λ q. d (e ∙ q)))) d h

-- without one the room decides
pub mesh_answered : (m : Mesh) {ps : List (List Pt)} {s : List ℕ} {c : List ℤ} {r : Counts} {s' : List ℕ} {c' : List ℤ} → first_fault (mesh_kinds m) ≡ 0 → Answered (first_fault (room_kinds ps (length s) (length c))) ps s c r s' c' → Answered (first_fault (mesh_kinds m ++ room_kinds ps (length s) (length c))) ps s c r s' c'
mesh_answered m {ps} {s} {c} {r} {s'} {c'} e a = subst (λ f. Answered f ps s c r s' c') (sym (append_none (mesh_kinds m) (room_kinds ps (length s) (length c)) (lit< tt, (lit< tt, (lit< tt, (lit< tt, (lit< tt, (lit< tt, (lit< tt, tt))))))) e)) a
