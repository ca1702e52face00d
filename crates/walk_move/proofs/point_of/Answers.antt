-- `walk_move::point_of` meets its contract: the corner, turned where the walk is reflected. Assumes
-- nothing.
use mathlib.Core.Path.{◌≡◌, ◌∙◌, ap}
use mathlib.Core.Bool.{true, false}
use mathlib.Core.List.{List}
use Rattle.plane.specs.Plane.{Pt, negᵖ}
use Rattle.corners.specs.Corners.{points_of}
use Rattle.pair.specs.declared.Place.{Place}
use Rattle.pair.specs.Walk.{corner_at, point_of}
use Rattle.walk.proofs.Answers.{index_inside}
use Rattle.walk_read.proofs.Grid.{not_off}
use Rattle.walk_move.proofs.point_of.Goals as goal

module _ (l : List Pt) (w : Place) {p : Pt} where
  turned_back : w.reflected ≡ true → p ≡ negᵖ (corner_at l w.index) → p ≡ point_of l w
  unfolding point_of
  turned_back h e = rw h e

  straight : w.reflected ≡ false → p ≡ corner_at l w.index → p ≡ point_of l w
  unfolding point_of
  straight h e = rw h e

pub corner_at-p-requires : goal.corner_at-p-requires
corner_at-p-requires c = index_inside _ _ c.requires.0

pub negated-requires : goal.negated-requires
negated-requires c = not_off (points_of c.args.contour.now) c.args.w.index c.requires.1 c.corner_at-p.ensures

pub returns-then-w : goal.returns-then-w
returns-then-w c = (turned_back _ _ c.if-w.true (c.negated.ensures.0 ∙ ap negᵖ c.corner_at-p.ensures), c.negated.ensures.1)

pub returns-else-w : goal.returns-else-w
returns-else-w c = (straight _ _ c.if-w.false c.corner_at-p.ensures, not_off (points_of c.args.contour.now) c.args.w.index c.requires.1 c.corner_at-p.ensures)
