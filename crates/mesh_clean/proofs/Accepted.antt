-- A clean mesh of at most 1,024 triangles has no fault (`clean_accepted`): its triangles are sound
-- and its areas fit (mesh_sound's `sound_rows`), each edge is shared that is asked for
-- (`linked_rows`), so every edge is (Pairing), and each fault's test follows from Sides. Assumes
-- nothing.
use mathlib.Core.Path.{◌≡◌, refl, sym, ◌∙◌, subst}
use mathlib.Core.Bool.{Bool, true, false}
use mathlib.Core.List.{List, [], ◌∷◌, map}
use Prim.Native.Nat.{ℕ, zero, suc, ◌+◌, ◌<◌, ◌≤◌}
use native.Mathlib.Omega.{arith}
use borrow.Author.Tests.{eqb-true, eqb-false, ne_eqb, lt-leb, lt-ltb, le-ltb}
use lib.Dec.{eqb}
use lib.ListN.{length}
use lib.IntN.{pos, ◌+ℤ◌}
use lib.Signed.{◌≤ℤ◌, le_z}
use Rattle.integers.specs.Faults.{first_fault}
use Rattle.integers.specs.Lists.{sumℤ}
use Rattle.integers.proofs.Faults.{first_next, first_empty}
use Rattle.integers.proofs.Order.{zarith, add_parts, by_test}
use Rattle.integers.proofs.Tests.{differ, both_true, le_z-<, ≤-lt_z}
use Rattle.plane.specs.Plane.{Pt, eq_pt}
use Rattle.plane.proofs.Edges.{eq_pt_true, eq_pt_refl}
use Rattle.mesh.specs.Mesh.{Mesh, Triangle, none, vertex, neighbour, after, before, triangle_at, triangle_area, triangle_off, some_from, some, some_side, shared, max_triangles, too_many, off_grid, strays, stray_neighbour, misnames, misnamed, opposite, runs_oppositely, mismatches, mismatched, flat, mesh_area, too_large, mesh_kinds}
use Rattle.mesh_sound.specs.Sound.{sound_from}
use Rattle.mesh_sound.proofs.Passes.{Sound, sound_rows}
use Rattle.mesh_clean.specs.Clean.{same_edge, shares_back, names_before, names_after, shares_edge, shares_all, linked_from, sides_from, linked, clean}
use Rattle.mesh_clean.proofs.Sides.{Meets, Shared, named_once, named_back, not_self}
use Rattle.mesh_clean.proofs.Pairing.{paired}

-- ---- a side

module _ (u : Triangle) (k : ℕ) (a b : Pt) where
  edge : (p q : Pt) → same_edge p q b a ≡ true → (a ≡ q) × (b ≡ p)
  unfolding same_edge
  edge p q h = let e = both_true (eq_pt p b) (eq_pt q a) h in (sym (eq_pt_true q a e.1), sym (eq_pt_true p b e.0))

  abbrev At : ℕ → Type 0
  At j = (neighbour u j ≡ k) × ((a ≡ vertex u (before j)) × (b ≡ vertex u (after j)))

  shares_back_lem : shares_back u k a b ≡ true → At (opposite u k)
  unfolding shares_back opposite neighbour vertex after
  shares_back_lem h =
      by_test (eqb u.n0 k) (λ x. rw x (eqb-true u.n0 k x, edge u.v1 u.v2 (rw x at h)))
      (λ x. rw x (by_test (eqb u.n1 k) (λ y. rw y (eqb-true u.n1 k y, edge u.v2 u.v0 (rw (x, y) at h)))
      (λ y. rw y (by_test (eqb u.n2 k) (λ z. (eqb-true u.n2 k z, edge u.v0 u.v1 (rw (x, y, z) at h))) (λ z. differ (rw (x, y, z) at h))))))

shares_side : (m : Mesh) (k : ℕ) (t : Triangle) (i : ℕ) → i < 3 → shares_all m k t ≡ true → shares_edge m k (neighbour t i) (vertex t (after i)) (vertex t (before i)) ≡ true
unfolding shares_all neighbour vertex after
shares_side m k t zero l h = (both_true (shares_edge m k t.n0 t.v1 t.v2) _ h).0
shares_side m k t (suc zero) l h = (both_true (shares_edge m k t.n1 t.v2 t.v0) _ (both_true (shares_edge m k t.n0 t.v1 t.v2) _ h).1).0
shares_side m k t (suc (suc i)) l h = (both_true (shares_edge m k t.n1 t.v2 t.v0) _ (both_true (shares_edge m k t.n0 t.v1 t.v2) _ h).1).1

shares_earlier : (m : Mesh) {k n : ℕ} (a b : Pt) → n < k → shares_edge m k n a b ≡ true → shares_back (triangle_at m n) k a b ≡ true
unfolding shares_edge
shares_earlier m {k} {n} a b l h = rw (lt-ltb n k l) at h

-- ---- all triangles

linked_rows : (m : Mesh) (k : ℕ) (l : List Triangle) → linked_from m k l ≡ true → (i : ℕ) → i < length l → shares_all m (k + i) (triangle_at l i) ≡ true
unfolding linked_from
linked_rows m k [] h i g = absurd (omega arith)
linked_rows m k (t ∷ l) h zero g = subst (λ j. shares_all m j t ≡ true) (omega arith) (both_true (shares_all m k t) _ h).0
linked_rows m k (t ∷ l) h (suc i) g = subst (λ j. shares_all m j (triangle_at l i) ≡ true) (omega arith) (linked_rows m (suc k) l (both_true (shares_all m k t) _ h).1 i (omega arith))

-- ---- no triangle and no side passes a test

none_from : (test : ℕ → Triangle → Bool) (j : ℕ) (m : Mesh) → ((k : ℕ) → k < length m → test (j + k) (triangle_at m k) ≡ false) → some_from test j m ≡ false
unfolding some_from
none_from test j [] f = refl
none_from test j (t ∷ m) f =
    let e : test j t ≡ false = subst (λ i. test i t ≡ false) (omega arith) (f 0 (omega arith)) in
    rw e (none_from test (suc j) m (λ k h. subst (λ i. test i (triangle_at m k) ≡ false) (omega arith) (f (suc k) (omega arith))))

none_of : (test : ℕ → Triangle → Bool) (m : Mesh) → ((k : ℕ) → k < length m → test k (triangle_at m k) ≡ false) → some test m ≡ false
none_of test m f = none_from test 0 m (λ k h. subst (λ i. test i (triangle_at m k) ≡ false) (omega arith) (f k h))

no_side : (test : ℕ → Bool) → test 0 ≡ false → test 1 ≡ false → test 2 ≡ false → some_side test ≡ false
no_side test a b c = rw (a, b, c)

none_shared : (test : ℕ → Triangle → ℕ → ℕ → Bool) (m : Mesh) → ((k i : ℕ) → k < length m → i < 3 → (neighbour (triangle_at m k) i ≡ none → ⊥) → test k (triangle_at m k) i (neighbour (triangle_at m k) i) ≡ false)
    → some (λ k t. some_side (shared t (test k t))) m ≡ false
none_shared test m f = none_of (λ k t. some_side (shared t (test k t))) m (λ k l. no_side (shared (triangle_at m k) (test k (triangle_at m k))) (side l (omega arith)) (side l (omega arith)) (side l (omega arith)))
  where
    side : {k : ℕ} {i : ℕ} → k < length m → i < 3 → shared (triangle_at m k) (test k (triangle_at m k)) i ≡ false
    side {k} {i} l h = by_test (eqb (neighbour (triangle_at m k) i) none) (λ e. rw e) (λ e. rw e (f k i l h (eqb-false (neighbour (triangle_at m k) i) none e)))

-- ---- a clean mesh

module _ (m : Mesh) (c : clean m ≡ true) (few : length m ≤ max_triangles) where
  passes : (sound_from (pos 0) m ≡ true) × (linked m ≡ true)
  passes = both_true (sound_from (pos 0) m) (linked m) c

  edges : (linked_from m 0 m ≡ true) × (eqb (sides_from names_before 0 m) (sides_from names_after 0 m) ≡ true)
  edges = both_true (linked_from m 0 m) _ passes.1

  rows : ((k : ℕ) → k < length m → Sound (triangle_at m k)) × ((pos 0 +ℤ sumℤ (map triangle_area m)) ≤ℤ pos 9223372036854775807)
  rows = sound_rows m (omega zarith) passes.0

  links : {k : ℕ} → k < length m → shares_all m k (triangle_at m k) ≡ true
  links {k} h = subst (λ j. shares_all m j (triangle_at m k) ≡ true) (omega arith) (linked_rows m 0 m edges.0 k h)

  earlier : (k i : ℕ) → k < length m → i < 3 → neighbour (triangle_at m k) i < k → Meets k (triangle_at m k) i (triangle_at m (neighbour (triangle_at m k) i))
  earlier k i l h e =
      let t = triangle_at m k in
      let b = shares_back_lem (triangle_at m (neighbour t i)) k (vertex t (after i)) (vertex t (before i)) (shares_earlier m (vertex t (after i)) (vertex t (before i)) e (shares_side m k t i h (links l))) in
      record { names = b.0; begins = b.1.0; ends = b.1.1 }

  sides : Shared m
  sides = paired m few (λ k l. le_z-< (triangle_area (triangle_at m k)) (pos 0) (rows.0 k l).above) earlier (eqb-true _ _ edges.1)

  no_many : too_many m ≡ false
  unfolding too_many
  no_many = le-ltb max_triangles (length m) few

  no_off : off_grid m ≡ false
  unfolding off_grid
  no_off = none_of (λ k t. triangle_off t) m (λ k l. (rows.0 k l).on_grid_lem)

  no_stray : stray_neighbour m ≡ false
  unfolding stray_neighbour
  no_stray =
      none_shared (λ k t i n. strays (length m) k n) m
      (λ k i l h d. rw (ne_eqb (neighbour (triangle_at m k) i) k (not_self m sides k i l h d), lt-leb (length m) (neighbour (triangle_at m k) i) (sides.in_mesh k i l h d)))

  no_misnamed : misnamed m ≡ false
  unfolding misnamed
  no_misnamed = none_shared (λ k t i n. misnames m k t n) m (λ k i l h d. rw (named_once m sides k i l h d, named_back m sides k i l h d))

  no_mismatched : mismatched m ≡ false
  unfolding mismatched runs_oppositely
  no_mismatched = none_shared (λ k t. mismatches m k t) m (λ k i l h d. let e = sides.meets k i l h d in rw (e.begins, e.ends, eq_pt_refl (vertex _ (before (opposite _ k))), eq_pt_refl (vertex _ (after (opposite _ k)))))

  no_flat : flat m ≡ false
  unfolding flat
  no_flat = none_of (λ k t. le_z (triangle_area t) (pos 0)) m (λ k l. (rows.0 k l).above)

  fits : too_large m ≡ false
  unfolding too_large mesh_area
  fits = ≤-lt_z {x = pos 9223372036854775807} {y = sumℤ (map triangle_area m)} (omega (zarith, rows.1, add_parts (pos 0) (sumℤ (map triangle_area m))))

  pub clean_accepted : first_fault (mesh_kinds m) ≡ 0
  clean_accepted =
      first_next 1 _ no_many ∙ first_next 2 _ no_off ∙ first_next 3 _ no_stray ∙ first_next 4 _ no_misnamed ∙ first_next 5 _ no_mismatched ∙ first_next 6 _ no_flat ∙ first_next 11 _ fits ∙ first_empty
