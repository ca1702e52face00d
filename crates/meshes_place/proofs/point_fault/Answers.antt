-- `meshes_place::point_fault` meets its contract: each refusal in its turn. Assumes nothing.
use mathlib.Core.Path.{sym, ◌∙◌, ap}
use native.Mathlib.Omega.{arith}
use Rattle.plane.specs.Plane.{on_grid}
use Rattle.meshes_place.proofs.Faults.{too_short, off_grid, on_grid_lem}
use borrow.Author.Rules.{rules}
use Rattle.meshes_place.proofs.point_fault.Goals as goal

pub returns-then-bytes : goal.returns-then-bytes
returns-then-bytes c = too_short _ c.if-bytes.true

pub returns-then-not-on_grid : goal.returns-then-not-on_grid
returns-then-not-on_grid c = let h = c.if-bytes.false in
    off_grid _ h (sym (ap on_grid c.place_at.ensures) ∙ sym c.on_grid.ensures ∙ c.if-not-on_grid.true)

pub returns : goal.returns
returns c = let h = c.if-bytes.false in
    on_grid_lem _ h (sym (ap on_grid c.place_at.ensures) ∙ sym c.on_grid.ensures ∙ c.if-not-on_grid.false)
