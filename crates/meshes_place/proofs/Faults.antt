-- The fault of a place, by the tests that code makes (`too_short`, `off_grid`, `on_grid_lem`), and
-- what none tells (`point_good`); a refusal of the place or of a file (`point_refused`,
-- `files_refused`). Assumes nothing.
use mathlib.Core.Path.{◌≡◌, sym, ◌∙◌, ap}
use mathlib.Core.Bool.{true, false, not}
use mathlib.Core.List.{List, [], ◌∷◌}
use Prim.Native.Nat.{ℕ, ◌<◌, ◌≤◌}
use native.Mathlib.Omega.{arith}
use borrow.Author.Tests.{lt-ltb, le-ltb, ltb-false, eq-eqb, ne_eqb, not-false}
use lib.Dec.{eqb, ltb}
use lib.ListN.{length}
use Rattle.integers.proofs.Faults.{first_this, first_next, first_none, first_empty}
use Rattle.plane.specs.Plane.{on_grid}
use Rattle.plane.specs.declared.IntPoint.{IntPoint}
use Rattle.plane.specs.Machine.{point, OnGrid}
use Rattle.plane.proofs.Size.{on_grid_both}
use Rattle.mesh_pair.specs.Files.{files_fault}
use Rattle.placement.specs.declared.Placed.TheVariants.{Refused}
use Rattle.meshes_place.specs.Placed.{place_of, files_of, point_fault, placed_fault, placed_of}

module _ (bytes : List ℕ) where
  pub too_short : length bytes < 8 → 13 ≡ point_fault bytes
  unfolding point_fault
  too_short h = sym (first_this 13 _ (lt-ltb (length bytes) 8 h))

  module _ (h : 8 ≤ length bytes) where
    pub off_grid : on_grid (place_of bytes) ≡ false → 2 ≡ point_fault bytes
    unfolding point_fault
    off_grid e = sym (first_next 13 _ (le-ltb (length bytes) 8 h) ∙ first_this 2 _ (ap not e))

    pub on_grid_lem : on_grid (place_of bytes) ≡ true → 0 ≡ point_fault bytes
    unfolding point_fault
    on_grid_lem e = sym (first_next 13 _ (le-ltb (length bytes) 8 h) ∙ first_next 2 _ (ap not e) ∙ first_empty)

  pub point_good : point_fault bytes ≡ 0 → (8 ≤ length bytes) × (on_grid (place_of bytes) ≡ true)
  unfolding point_fault
  point_good e =
      let a = first_none (ltb (length bytes) 8) _ (omega arith) e in
      let b = first_none (not (on_grid (place_of bytes))) _ (omega arith) a.1 in
      (ltb-false (length bytes) 8 a.0, not-false (on_grid (place_of bytes)) b.0)

  -- as the machine holds it
  pub grid_point : point_fault bytes ≡ 0 → {z : IntPoint} → point z ≡ place_of bytes → OnGrid z
  grid_point e {z} q =
      let g = on_grid_both (point z) (ap on_grid q ∙ (point_good e).1) in
      record { x_small = g.0; y_small = g.1 }

  refused : {f : ℕ} → f ≡ placed_fault bytes → (f ≡ 0 → ⊥) → Refused f ≡ placed_of bytes
  refused e d = rw (ne_eqb (placed_fault bytes) 0 (λ z. d (e ∙ z))) (ap Refused e)

  pub point_refused : {f : ℕ} → f ≡ point_fault bytes → (f ≡ 0 → ⊥) → Refused f ≡ placed_of bytes
  unfolding placed_fault
  point_refused e d = refused (e ∙ rw (ne_eqb (point_fault bytes) 0 (λ z. d (e ∙ z)))) d

  pub files_refused : {f : ℕ} → point_fault bytes ≡ 0 → f ≡ files_fault (files_of bytes) → (f ≡ 0 → ⊥) → Refused f ≡ placed_of bytes
  unfolding placed_fault
  files_refused p e d = refused (e ∙ rw (eq-eqb (point_fault bytes) 0 p, ne_eqb (files_fault (files_of bytes)) 0 (λ z. d (e ∙ z)))) d
