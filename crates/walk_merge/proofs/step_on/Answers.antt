-- `walk_merge::step_on` meets its contract: none is left, an edge that belongs is taken, or one
-- that does not is left. Assumes nothing.
use mathlib.Core.Path.{sym, ◌∙◌, ap}
use Rattle.corners.specs.Corners.{points_of}
use Rattle.walk_pick.specs.Picking.{pick_of}
use Rattle.walk_pick.proofs.Picks.{first_left, second_left}
use Rattle.walk_merge.proofs.Runs.{stopped, took_first, took_second, left_first, left_second}
use Rattle.walk_merge.proofs.step_on.Goals as goal

pub step_first-requires : goal.step_first-requires
step_first-requires c = let p = (ap pick_of (sym c.in-First.is) ∙ c.next_step.ensures.0) in
    let j = c.requires.judged in
    (j.left_short, j.left_placed_lem, (first_left (points_of c.args.left.now) (points_of c.args.right.now) c.args.g.at p).0)

pub returns-then-belongs : goal.returns-then-belongs
returns-then-belongs c = let l = c.args.left.now in
    let r = c.args.right.now in
    let g = c.args.g in
    took_first l r g c.requires (ap pick_of (sym c.in-First.is) ∙ c.next_step.ensures.0)
    (sym c.belongs.ensures ∙ c.if-belongs.true) c.step_first.ensures c.take.ensures

pub step_second-requires : goal.step_second-requires
step_second-requires c = let p = (ap pick_of (sym c.in-Second.is) ∙ c.next_step.ensures.0) in
    let j = c.requires.judged in
    (j.right_short, j.right_placed_lem, (second_left (points_of c.args.left.now) (points_of c.args.right.now) c.args.g.at p).0)

pub returns-then-belongs-2 : goal.returns-then-belongs-2
returns-then-belongs-2 c = let l = c.args.left.now in
    let r = c.args.right.now in
    let g = c.args.g in
    took_second l r g c.requires (ap pick_of (sym c.in-Second.is) ∙ c.next_step.ensures.0)
    (sym c.belongs-in-Second.ensures ∙ c.if-belongs-2.true) c.step_second.ensures c.take-then-belongs-2.ensures

pub returns-in-Neither : goal.returns-in-Neither
returns-in-Neither c = stopped c.args.left.now c.args.right.now c.args.g c.requires (ap pick_of (sym c.in-Neither.is) ∙ c.next_step.ensures.0)

pub returns-else-belongs : goal.returns-else-belongs
returns-else-belongs c = left_first c.args.left.now c.args.right.now c.args.g c.requires (ap pick_of (sym c.in-First.is) ∙ c.next_step.ensures.0)
    (sym c.belongs.ensures ∙ c.if-belongs.false)

pub returns-else-belongs-2 : goal.returns-else-belongs-2
returns-else-belongs-2 c = left_second c.args.left.now c.args.right.now c.args.g c.requires (ap pick_of (sym c.in-Second.is) ∙ c.next_step.ensures.0)
    (sym c.belongs-in-Second.ensures ∙ c.if-belongs-2.false)
