-- `walk_step::advance` meets its contract: refused and as it came, or one step on. Assumes nothing.
use mathlib.Core.Path.{sym, ◌∙◌, ap, subst}
use Rattle.pair.specs.Walk.{advance}
use Rattle.walk.specs.Clauses.{AdvancedBy}
use Rattle.walk.proofs.Answers.{few_corners, accepted}
use Rattle.walk.proofs.Promises.{advanced_by}
use Rattle.walk_step.proofs.Answers.{advance_refused, advance_given}
use Rattle.walk_step.proofs.advance.Goals as goal

pub returns-then-fault-ne0 : goal.returns-then-fault-ne0
returns-then-fault-ne0 c = let l = c.args.contour.now in
    let w = c.args.w in
    subst (AdvancedBy l w) (sym (advance_refused l w c.step_fault-fault.ensures c.if-fault-ne0.true)) (advanced_by l w)

pub advance_of-requires : goal.advance_of-requires
advance_of-requires c = let l = c.args.contour.now in
    let a = accepted l c.args.w (sym c.step_fault-fault.ensures ∙ c.if-fault-ne0.false) in
    rw c.corner_count.ensures (few_corners l a.short, a.placed, a.left)

pub returns : goal.returns
returns c = let l = c.args.contour.now in
    let w = c.args.w in
    subst (AdvancedBy l w) (sym (advance_given l w c.step_fault-fault.ensures c.if-fault-ne0.false (c.advance_of.ensures ∙ ap (λ n. advance n w) c.corner_count.ensures))) (advanced_by l w)
