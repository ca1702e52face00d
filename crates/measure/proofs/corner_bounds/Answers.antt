-- `measure::corner_bounds` meets its contract. The loop's invariant: the bounds of the whole are
-- those so far with the corners that are left brought in. Assumes nothing.
use mathlib.Core.Path.{sym, ◌∙◌}
use native.Mathlib.Omega.{arith}
use Rattle.corners.specs.Corners.{points_of}
use Rattle.mesh_bounds.specs.Bounds.{bounds_of}
use Rattle.measure.proofs.Answers.{bounds_none, bounds_begin, bounds_more, bounds_done}
use Rattle.measure.proofs.corner_bounds.Goals as goal

pub returns-then-n-eq0 : goal.returns-then-n-eq0
unfolding bounds_of
returns-then-n-eq0 c = bounds_none (points_of c.args.corners.now) (omega (arith, c.if-n-eq0.true, c.corner_count-n.ensures))

pub loop-k-init : goal.loop-k-init
loop-k-init c = bounds_begin (points_of c.args.corners.now) (λ z. c.if-n-eq0.false (c.corner_count-n.ensures ∙ z)) c.corner_at.ensures c.bounds_of-b.ensures

pub loop-k-preserved : goal.loop-k-preserved
loop-k-preserved c = let p = points_of c.args.corners.now in
    sym (bounds_more p c.loop-k.b (omega (arith, c.loop-k-test.true, c.corner_count-n.ensures)) c.corner_at-in-loop-k.ensures c.with_point-b.ensures) ∙ c.loop-k.invariant

pub returns : goal.returns
returns c = sym (bounds_done (points_of c.args.corners.now) c.loop-k.b c.loop-k.k (omega (arith, c.loop-k-test.false, c.corner_count-n.ensures))) ∙ c.loop-k.invariant
