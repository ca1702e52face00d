-- `pair_unroll::add_walk` meets its contract: the invariant is `Walking` of Walked, and the measure
-- the steps left. Assumes nothing.
use mathlib.Core.Path.{◌≡◌, sym, ◌∙◌, ap, subst}
use mathlib.Core.Bool.{false}
use native.Mathlib.Omega.{arith}
use Rattle.plane.specs.Machine.{point}
use Rattle.corners.specs.Corners.{points_of}
use Rattle.pair.specs.Walk.{advance}
use Rattle.walk.specs.Calls.{misplaced}
use Rattle.walk.proofs.Answers.{few_corners, index_inside}
use Rattle.walk_read.proofs.Grid.{off_nowhere}
use Rattle.points.specs.Points.{pair_of}
use Rattle.pair_unroll.proofs.Walked.{fewer_steps, walking_placed, walking_start, walking_step, walking_adding, walking_end, onto, stored}
use Rattle.pair_unroll.proofs.add_walk.Goals as goal

pub point_of-requires : goal.point_of-requires
point_of-requires c = (c.requires.placed, off_nowhere c.args.contour.now c.requires.ranged (index_inside _ _ c.requires.placed))

pub loop-w-init : goal.loop-w-init
loop-w-init c = let a = c.args in
    walking_start (points_of a.contour.now) a.start a.from a.points.now c.requires.placed c.point_of.ensures (omega (arith, c.requires.room)) c.put_point.ensures

pub advance_of-w-requires : goal.advance_of-w-requires
advance_of-w-requires c = let l = c.args.contour.now in
    let n = c.corner_count-n.ensures in
    (omega (arith, n, few_corners l c.requires.short), subst (λ k. misplaced k c.loop-w.w ≡ false) (sym n) c.loop-w.invariant.taken.placed, omega (arith, c.loop-w-test.true))

pub point_of-requires-in-loop-w : goal.point_of-requires-in-loop-w
point_of-requires-in-loop-w c = let l = c.args.contour.now in
    let p = walking_placed (points_of l) c.args.start c.args.from c.loop-w.invariant c.corner_count-n.ensures c.advance_of-w.ensures in
    (p, off_nowhere l c.requires.ranged (index_inside _ _ p))

pub add_point-count-requires : goal.add_point-count-requires
add_point-count-requires c = (
  walking_adding (points_of c.args.contour.now) c.args.start c.args.from c.loop-w.invariant
      (omega (
        arith,
        c.requires.room,
        (stored c.args.points.now c.args.from (pair_of (point c.point_of.result)) c.put_point.ensures).0,
      )) (omega (arith, c.loop-w-test.true)),
  c.point_of-in-loop-w.ensures.1,
)

pub loop-w-smaller : goal.loop-w-smaller
loop-w-smaller c = fewer_steps c.corner_count-n.result c.loop-w.w c.advance_of-w.ensures (omega (arith, c.loop-w-test.true))

pub loop-w-preserved : goal.loop-w-preserved
loop-w-preserved c =
    walking_step (points_of c.args.contour.now) c.args.start c.args.from c.loop-w.invariant (omega (arith, c.loop-w-test.true))
    (c.advance_of-w.ensures ∙ ap (λ n. advance n c.loop-w.w) c.corner_count-n.ensures) c.point_of-in-loop-w.ensures
    c.add_point-count.ensures

pub returns : goal.returns
returns c = let a = c.args in
    onto (stored a.points.now a.from (pair_of (point c.point_of.result)) c.put_point.ensures) (walking_end (points_of a.contour.now) a.start a.from c.loop-w.invariant (omega (arith, c.loop-w-test.false)))
