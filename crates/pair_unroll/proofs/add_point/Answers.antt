-- `pair_unroll::add_point` meets its contract: `added_repeated`, `added_straight`, `added_turning`
-- of Buffered. Assumes nothing.
use mathlib.Core.Path.{◌∙◌, ap}
use Rattle.plane.specs.Plane.{eq_pt}
use Rattle.plane.specs.Machine.{point}
use Rattle.pair_unroll.proofs.Buffered.{added_repeated, added_straight, added_turning}
use Rattle.pair_unroll.proofs.add_point.Goals as goal

pub returns-then-same_point : goal.returns-then-same_point
returns-then-same_point c = let a = c.args in
    added_repeated (point a.r) c.requires.0
    (c.same_point.ensures ∙ ap (λ q. eq_pt q (point a.r)) c.point_at.ensures) c.if-same_point.true

pub returns-then-goes_on : goal.returns-then-goes_on
returns-then-goes_on c = let a = c.args in
    added_straight (point a.r) c.requires.0
    (c.same_point.ensures ∙ ap (λ q. eq_pt q (point a.r)) c.point_at.ensures) c.if-same_point.false
    c.goes_on.ensures c.if-goes_on.true c.put_point.ensures

pub returns : goal.returns
returns c = let a = c.args in
    added_turning (point a.r) c.requires.0
    (c.same_point.ensures ∙ ap (λ q. eq_pt q (point a.r)) c.point_at.ensures) c.if-same_point.false
    c.goes_on.ensures c.if-goes_on.false c.put_point-2.ensures
