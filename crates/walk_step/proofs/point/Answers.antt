-- `walk_step::point` meets its contract: refused, or the point. Assumes nothing.
use mathlib.Core.Path.{sym, subst}
use Rattle.walk.specs.Clauses.{PointedBy}
use Rattle.walk.proofs.Promises.{pointed_by}
use Rattle.walk_step.proofs.Answers.{point_refused, point_given, point_sound}
use Rattle.walk_step.proofs.point.Goals as goal

pub returns-then-fault-ne0 : goal.returns-then-fault-ne0
returns-then-fault-ne0 c = let l = c.args.contour.now in
    let w = c.args.w in
    subst (PointedBy l w) (sym (point_refused l w c.point_fault-fault.ensures c.if-fault-ne0.true)) (pointed_by l w)

pub point_of-requires : goal.point_of-requires
point_of-requires c = point_sound c.args.contour.now c.args.w c.point_fault-fault.ensures c.if-fault-ne0.false

pub returns : goal.returns
returns c = let l = c.args.contour.now in
    let w = c.args.w in
    subst (PointedBy l w) (sym (point_given l w c.point_fault-fault.ensures c.if-fault-ne0.false c.point_of.ensures.0)) (pointed_by l w)
