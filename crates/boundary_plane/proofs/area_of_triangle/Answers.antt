-- `boundary_plane::area_of_triangle` meets its contract: the doubled area, or the refusal. Assumes
-- nothing.
use mathlib.Core.Path.{◌∙◌}
use borrow.Author.Rules.{rules}
use mir.Syntax.{w64}
use Rattle.integers.proofs.Bits.{got}
use Rattle.boundary_plane.specs.Told.{told_area}
use Rattle.boundary_plane.proofs.Answers.{three_on, answered, refused}
use Rattle.boundary_plane.proofs.area_of_triangle.Goals as goal

pub area_two-requires : goal.area_two-requires
area_two-requires c = let on = three_on c.three_on_grid.ensures c.if-three_on_grid.true in
    search rules

pub returns-then-three_on_grid : goal.returns-then-three_on_grid
unfolding told_area
returns-then-three_on_grid c = let r = c.area_two in
    answered c.three_on_grid.ensures c.if-three_on_grid.true
    (got w64 r.result r.type_inv ∙ r.ensures.0)

pub returns : goal.returns
unfolding told_area
returns c = refused _ c.three_on_grid.ensures c.if-three_on_grid.false
