-- `mesh_faults::mesh_fault` meets its contract: a clean mesh has no fault, and else each kind is
-- told where those before it do not hold. Assumes nothing.
use mathlib.Core.Path.{◌≡◌, sym, ◌∙◌, ap}
use mathlib.Core.Bool.{Bool, true, false}
use mathlib.Core.List.{List, [], ◌∷◌, ◌++◌}
use Prim.Native.Nat.{ℕ, ◌≤◌, ◌<◌}
use native.Mathlib.Omega.{arith}
use borrow.Author.Tests.{lt-ltb, le-ltb}
use lib.Dec.{lit<}
use lib.ListN.{length}
use lib.IntN.{ℤ}
use Rattle.integers.specs.Faults.{Kind, first_fault}
use Rattle.integers.proofs.Faults.{first_this, first_next, first_empty, append_some, append_none}
use Rattle.mesh.specs.Mesh.{Mesh, too_many, off_grid, stray_neighbour, misnamed, mismatched, flat, too_large, mesh_kinds, max_triangles}
use Rattle.mesh.specs.Rows.{rows_mesh}
use Rattle.mesh.proofs.Rows.{length_rows}
use Rattle.mesh_neighbors.specs.Earliest.{neighbour_kinds, neighbour_fault}
use Rattle.mesh_clean.proofs.Accepted.{clean_accepted}
use Rattle.std.proofs.lemmas.Result.{err_from_is_err_and}
use Rattle.faults.specs.Told.{number, told}
use Rattle.faults.proofs.Numbers.{number_above}
use Rattle.mesh_faults.proofs.mesh_fault.Goals as goal

many : (rows : List (List ℤ)) → max_triangles < length rows → too_many (rows_mesh rows) ≡ true
unfolding too_many
many rows h = lt-ltb max_triangles (length (rows_mesh rows)) (omega (arith, length_rows rows))

few : (rows : List (List ℤ)) → length rows ≤ max_triangles → too_many (rows_mesh rows) ≡ false
unfolding too_many
few rows h = le-ltb max_triangles (length (rows_mesh rows)) (omega (arith, length_rows rows))

module _ (m : Mesh) where
  abbrev answer : ℕ
  answer = first_fault (mesh_kinds m)

  abbrev neighbours : List Kind
  neighbours = neighbour_kinds (stray_neighbour m) (misnamed m) (mismatched m)

  abbrev rest : List Kind
  rest = (6, flat m) ∷ (11, too_large m) ∷ []

  one : too_many m ≡ true → 1 ≡ answer
  one a = sym (first_this 1 _ a)

  module _ (a : too_many m ≡ false) where
    two : off_grid m ≡ true → 2 ≡ answer
    two b = sym (first_next 1 _ a ∙ first_this 2 _ b)

    module _ (b : off_grid m ≡ false) {f : ℕ} (e : f ≡ neighbour_fault m) where
      left : answer ≡ first_fault (neighbours ++ rest)
      left = first_next 1 _ a ∙ first_next 2 _ b

      neighbour : (f ≡ 0 → ⊥) → f ≡ answer
      unfolding neighbour_fault
      neighbour d = e ∙ sym (left ∙ append_some neighbours rest (λ q. d (e ∙ q)))

      module _ (z : f ≡ 0) where
        past : answer ≡ first_fault rest
        unfolding neighbour_fault
        past = left ∙ append_none neighbours rest (lit< tt, (lit< tt, (lit< tt, tt))) (sym e ∙ z)

        six : flat m ≡ true → 6 ≡ answer
        six g = sym (past ∙ first_this 6 _ g)

        module _ (g : flat m ≡ false) where
          eleven : too_large m ≡ true → 11 ≡ answer
          eleven h = sym (past ∙ first_next 6 _ g ∙ first_this 11 _ h)

          accepted : too_large m ≡ false → 0 ≡ answer
          accepted h = sym (past ∙ first_next 6 _ g ∙ first_next 11 _ h ∙ first_empty)

-- an answer of a pass, and the branch that it took
read : {r s t : Bool} → r ≡ s → r ≡ t → s ≡ t
read e h = sym e ∙ h

pub returns-then-mesh-gt-MAX_TRIANGLES : goal.returns-then-mesh-gt-MAX_TRIANGLES
returns-then-mesh-gt-MAX_TRIANGLES c = one (rows_mesh c.args.mesh.now) (many _ (omega (arith, c.if-mesh-gt-MAX_TRIANGLES.true)))

pub returns-then-is_clean : goal.returns-then-is_clean
returns-then-is_clean c = let rows = c.args.mesh.now in
    sym (clean_accepted (rows_mesh rows) (read c.is_clean.ensures c.if-is_clean.true) (omega (arith, length_rows rows, c.if-mesh-gt-MAX_TRIANGLES.false)))

pub returns-then-off_grid : goal.returns-then-off_grid
returns-then-off_grid c = let rows = c.args.mesh.now in
    two (rows_mesh rows) (few rows c.if-mesh-gt-MAX_TRIANGLES.false) (read c.off_grid.ensures c.if-off_grid.true)

pub returns-in_err-neighbor_fault : goal.returns-in_err-neighbor_fault
returns-in_err-neighbor_fault c = let rows = c.args.mesh.now in
    let p = err_from_is_err_and c.from_residual.result c.from_residual.ensures.1 in
    let was = ap told c.in_err-neighbor_fault.was in
    ap told p.1 ∙ ap number p.2 ∙ sym was
    ∙ neighbour (rows_mesh rows) (few rows c.if-mesh-gt-MAX_TRIANGLES.false) (read c.off_grid.ensures c.if-off_grid.false) c.neighbor_fault.ensures
    (λ z. absurd (omega (arith, z, was, number_above c.in_err-neighbor_fault.field-0.0)))

pub returns-then-flat : goal.returns-then-flat
returns-then-flat c = let rows = c.args.mesh.now in
    six (rows_mesh rows) (few rows c.if-mesh-gt-MAX_TRIANGLES.false) (read c.off_grid.ensures c.if-off_grid.false) c.neighbor_fault.ensures
    (ap told c.in_ok-neighbor_fault.was) (read c.flat.ensures c.if-flat.true)

pub returns-then-too_large : goal.returns-then-too_large
returns-then-too_large c = let rows = c.args.mesh.now in
    eleven (rows_mesh rows) (few rows c.if-mesh-gt-MAX_TRIANGLES.false) (read c.off_grid.ensures c.if-off_grid.false) c.neighbor_fault.ensures
    (ap told c.in_ok-neighbor_fault.was) (read c.flat.ensures c.if-flat.false) (read c.too_large.ensures c.if-too_large.true)

pub returns : goal.returns
returns c = let rows = c.args.mesh.now in
    accepted (rows_mesh rows) (few rows c.if-mesh-gt-MAX_TRIANGLES.false) (read c.off_grid.ensures c.if-off_grid.false) c.neighbor_fault.ensures
    (ap told c.in_ok-neighbor_fault.was) (read c.flat.ensures c.if-flat.false) (read c.too_large.ensures c.if-too_large.false)
