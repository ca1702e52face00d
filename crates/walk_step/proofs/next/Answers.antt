-- `walk_step::next` meets its contract: refused and as it came, or the edge and one step on.
-- Assumes nothing.
use mathlib.Core.Path.{sym, ◌∙◌, ap, subst}
use Rattle.pair.specs.Walk.{advance}
use Rattle.walk.specs.Clauses.{SteppedBy}
use Rattle.walk.proofs.Answers.{few_corners, accepted}
use Rattle.walk.proofs.Promises.{stepped_by}
use Rattle.walk_step.proofs.Answers.{step_refused, step_given}
use Rattle.walk_step.proofs.next.Goals as goal

pub returns-then-fault-ne0 : goal.returns-then-fault-ne0
returns-then-fault-ne0 c = let l = c.args.contour.now in
    let w = c.args.w in
    subst (SteppedBy l w) (sym (step_refused l w c.step_fault-fault.ensures c.if-fault-ne0.true)) (stepped_by l w)

pub edge_of-e-requires : goal.edge_of-e-requires
edge_of-e-requires c = let a = accepted c.args.contour.now c.args.w (sym c.step_fault-fault.ensures ∙ c.if-fault-ne0.false) in
    (a.short, a.placed, a.here, a.there)

pub advance_of-requires : goal.advance_of-requires
advance_of-requires c = let l = c.args.contour.now in
    let a = accepted l c.args.w (sym c.step_fault-fault.ensures ∙ c.if-fault-ne0.false) in
    rw c.corner_count.ensures (few_corners l a.short, a.placed, a.left)

pub returns : goal.returns
returns c = let l = c.args.contour.now in
    let w = c.args.w in
    subst (SteppedBy l w) (sym (step_given l w c.step_fault-fault.ensures c.if-fault-ne0.false c.edge_of-e.ensures.0 (c.advance_of.ensures ∙ ap (λ n. advance n w) c.corner_count.ensures))) (stepped_by l w)
