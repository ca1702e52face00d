-- What an accepted mesh has, side by side: where no fault is found, each test's rule holds of every
-- triangle and side (`accepted`). Assumes nothing.
use mathlib.Core.Path.{◌≡◌}
use mathlib.Core.Bool.{true, false, not, cond}
use Prim.Native.Nat.{ℕ, zero, suc, ◌≤◌, ◌<◌}
use borrow.Author.Tests.{eqb-true, eqb-false, ltb-false, leb-false, not-false}
use lib.Dec.{eqb, leb, lit<}
use lib.ListN.{length}
use lib.IntN.{ℤ, pos}
use lib.Signed.{◌≤ℤ◌, ◌<ℤ◌, le_z}
use Rattle.integers.specs.Faults.{first_fault}
use Rattle.integers.proofs.Faults.{first_none}
use Rattle.integers.proofs.Tests.{either_false, both_true, lt_z-≤, le_z-<}
use Rattle.plane.specs.Plane.{eq_pt, on_grid}
use Rattle.plane.proofs.Edges.{eq_pt_true}
use Rattle.mesh.specs.Mesh.{Mesh, none, vertex, neighbour, after, before, triangle_at, triangle_area, too_many, off_grid, stray_neighbour, named, misnamed, opposite, runs_oppositely, mismatched, flat, mesh_area, too_large, mesh_kinds, max_triangles}
use Rattle.mesh.proofs.Sides.{some_false, mesh_side_false}

pub record Accepted (m : Mesh) : Type 0 where
  pub few : length m ≤ max_triangles
  pub on_grid_lem : (k i : ℕ) → k < length m → on_grid (vertex (triangle_at m k) i) ≡ true
  pub in_mesh : (k i : ℕ) → k < length m → i < 3 → (neighbour (triangle_at m k) i ≡ none → ⊥) → neighbour (triangle_at m k) i < length m
  pub not_self : (k i : ℕ) → k < length m → i < 3 → (neighbour (triangle_at m k) i ≡ none → ⊥) → neighbour (triangle_at m k) i ≡ k → ⊥
  pub named_once : (k i : ℕ) → k < length m → i < 3 → (neighbour (triangle_at m k) i ≡ none → ⊥) → named (triangle_at m k) (neighbour (triangle_at m k) i) ≡ 1
  pub named_back : (k i : ℕ) → k < length m → i < 3 → (neighbour (triangle_at m k) i ≡ none → ⊥) → named (triangle_at m (neighbour (triangle_at m k) i)) k ≡ 1
  pub meets : (k i : ℕ) → k < length m → i < 3 → (neighbour (triangle_at m k) i ≡ none → ⊥) →
      let u = triangle_at m (neighbour (triangle_at m k) i) in
      (vertex (triangle_at m k) (after i) ≡ vertex u (before (opposite u k))) × (vertex (triangle_at m k) (before i) ≡ vertex u (after (opposite u k)))
  pub turns_left : (k : ℕ) → k < length m → pos 0 <ℤ triangle_area (triangle_at m k)
  pub fits : mesh_area m ≤ℤ pos 9223372036854775807

module _ (m : Mesh) where
  pub grid_rule : off_grid m ≡ false → {k : ℕ} (i : ℕ) → k < length m → on_grid (vertex (triangle_at m k) i) ≡ true
  unfolding off_grid vertex
  grid_rule h {k} i l = at i
    where
      all : (on_grid (triangle_at m k).v0 ≡ true) × ((on_grid (triangle_at m k).v1 ≡ true) × (on_grid (triangle_at m k).v2 ≡ true))
      all =
          let e = both_true (on_grid (triangle_at m k).v0) (cond (on_grid (triangle_at m k).v1) (on_grid (triangle_at m k).v2) false) (not-false _ (some_false (λ k t. not (cond (on_grid t.v0) (cond (on_grid t.v1) (on_grid t.v2) false) false)) m h l)) in
          (e.0, both_true (on_grid (triangle_at m k).v1) (on_grid (triangle_at m k).v2) e.1)

      at : (i : ℕ) → on_grid (vertex (triangle_at m k) i) ≡ true
      at zero = all.0
      at (suc zero) = all.1.0
      at (suc (suc i)) = all.1.1

  module _ {k i : ℕ} (l : k < length m) (s : i < 3) (d : neighbour (triangle_at m k) i ≡ none → ⊥) where
    abbrev n : ℕ
    n = neighbour (triangle_at m k) i

    pub stray_rule : stray_neighbour m ≡ false → (n ≡ k → ⊥) × (n < length m)
    unfolding stray_neighbour
    stray_rule h =
        let e = either_false (eqb n k) (leb (length m) n) (mesh_side_false (λ k t i n. cond (eqb n k) true (leb (length m) n)) m l s d h) in
        (eqb-false n k e.0, leb-false (length m) n e.1)

    named_rule : misnamed m ≡ false → (named (triangle_at m k) n ≡ 1) × (named (triangle_at m n) k ≡ 1)
    unfolding misnamed
    named_rule h =
        let e =
        both_true (eqb (named (triangle_at m k) n) 1) (eqb (named (triangle_at m n) k) 1)
        (not-false _ (mesh_side_false (λ k t i n. not (cond (eqb (named t n) 1) (eqb (named (triangle_at m n) k) 1) false)) m l s d h)) in
        (eqb-true _ 1 e.0, eqb-true _ 1 e.1)

    meets_rule : mismatched m ≡ false → let u = triangle_at m n in (vertex (triangle_at m k) (after i) ≡ vertex u (before (opposite u k))) × (vertex (triangle_at m k) (before i) ≡ vertex u (after (opposite u k)))
    unfolding mismatched runs_oppositely
    meets_rule h =
        let u = triangle_at m n in
        let e =
        both_true (eq_pt (vertex (triangle_at m k) (after i)) (vertex u (before (opposite u k)))) (eq_pt (vertex (triangle_at m k) (before i)) (vertex u (after (opposite u k))))
        (not-false _ (mesh_side_false (λ k t i n. not (runs_oppositely t i (triangle_at m n) (opposite (triangle_at m n) k))) m l s d h)) in
        (eq_pt_true _ _ e.0, eq_pt_true _ _ e.1)

  pub area_rule : flat m ≡ false → (k : ℕ) → k < length m → pos 0 <ℤ triangle_area (triangle_at m k)
  unfolding flat
  area_rule h k l = le_z-< (triangle_area (triangle_at m k)) (pos 0) (some_false (λ k t. le_z (triangle_area t) (pos 0)) m h l)

  few_rule : too_many m ≡ false → length m ≤ max_triangles
  unfolding too_many
  few_rule h = ltb-false max_triangles (length m) h

  fits_rule : too_large m ≡ false → mesh_area m ≤ℤ pos 9223372036854775807
  unfolding too_large
  fits_rule h = lt_z-≤ (pos 9223372036854775807) (mesh_area m) h

  pub accepted : first_fault (mesh_kinds m) ≡ 0 → Accepted m
  accepted h =
      let f1 = first_none (too_many m) _ (lit< tt) h in
      let f2 = first_none (off_grid m) _ (lit< tt) f1.1 in
      let f3 = first_none (stray_neighbour m) _ (lit< tt) f2.1 in
      let f4 = first_none (misnamed m) _ (lit< tt) f3.1 in
      let f5 = first_none (mismatched m) _ (lit< tt) f4.1 in
      let f6 = first_none (flat m) _ (lit< tt) f5.1 in
      let f11 = first_none (too_large m) _ (lit< tt) f6.1 in
      record {
        few = few_rule f1.0;
        on_grid_lem = λ k i l. grid_rule f2.0 i l;
        in_mesh = λ k i l s d. (stray_rule l s d f3.0).1;
        not_self = λ k i l s d. (stray_rule l s d f3.0).0;
        named_once = λ k i l s d. (named_rule l s d f4.0).0;
        named_back = λ k i l s d. (named_rule l s d f4.0).1;
        meets = λ k i l s d. meets_rule l s d f5.0;
        turns_left = area_rule f6.0;
        fits = fits_rule f11.0;
      }
