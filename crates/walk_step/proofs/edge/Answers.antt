-- `walk_step::edge` meets its contract: refused, or the edge. Assumes nothing.
use mathlib.Core.Path.{sym, ◌∙◌, subst}
use Rattle.walk.specs.Clauses.{EdgedBy}
use Rattle.walk.proofs.Answers.{accepted}
use Rattle.walk.proofs.Promises.{edged_by}
use Rattle.walk_step.proofs.Answers.{edge_refused, edge_given}
use Rattle.walk_step.proofs.edge.Goals as goal

pub returns-then-fault-ne0 : goal.returns-then-fault-ne0
returns-then-fault-ne0 c = let l = c.args.contour.now in
    let w = c.args.w in
    subst (EdgedBy l w) (sym (edge_refused l w c.step_fault-fault.ensures c.if-fault-ne0.true)) (edged_by l w)

pub edge_of-requires : goal.edge_of-requires
edge_of-requires c = let a = accepted c.args.contour.now c.args.w (sym c.step_fault-fault.ensures ∙ c.if-fault-ne0.false) in
    (a.short, a.placed, a.here, a.there)

pub returns : goal.returns
returns c = let l = c.args.contour.now in
    let w = c.args.w in
    subst (EdgedBy l w) (sym (edge_given l w c.step_fault-fault.ensures c.if-fault-ne0.false c.edge_of.ensures.0)) (edged_by l w)
