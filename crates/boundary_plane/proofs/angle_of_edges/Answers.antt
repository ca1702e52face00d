-- `boundary_plane::angle_of_edges` meets its contract: the order of two differences as a number, or
-- the refusal. Assumes nothing.
use mathlib.Core.Path.{◌∙◌, ap}
use borrow.Author.Rules.{rules}
use mir.Syntax.{w64}
use Rattle.integers.proofs.Bits.{got}
use Rattle.plane.specs.Plane.{angle_cmp}
use Rattle.boundary_plane.specs.Told.{order_number, told_angle}
use Rattle.boundary_plane.proofs.Answers.{four_on, answered, refused}
use Rattle.boundary_plane.proofs.angle_of_edges.Goals as goal

pub subtract-requires : goal.subtract-requires
subtract-requires c = let on = four_on c.four_on_grid.ensures c.if-four_on_grid.true in
    search rules

pub subtract-requires-then-four_on_grid : goal.subtract-requires-then-four_on_grid
subtract-requires-then-four_on_grid c = let on = four_on c.four_on_grid.ensures c.if-four_on_grid.true in
    search rules

pub returns-then-four_on_grid : goal.returns-then-four_on_grid
unfolding told_angle
returns-then-four_on_grid c = let r = c.order_number in
    let u = c.subtract.ensures.0 in
    let v = c.subtract-then-four_on_grid.ensures.0 in
    answered c.four_on_grid.ensures c.if-four_on_grid.true
    (got w64 r.result r.type_inv ∙ r.ensures ∙ ap order_number c.angle_cmp-order.ensures ∙ (λ i. order_number (angle_cmp (u i) (v i))))

pub returns : goal.returns
unfolding told_angle
returns c = refused _ c.four_on_grid.ensures c.if-four_on_grid.false
