-- `walk_step::point_fault` meets its contract: each kind is told where those before it do not hold.
-- Assumes nothing.
use mathlib.Core.Path.{sym, ◌∙◌, ap}
use Rattle.walk.specs.Calls.{misplaced}
use Rattle.walk.proofs.Answers.{index_inside}
use Rattle.walk_step.proofs.Faults.{point_7, point_23, point_2, point_0}
use Rattle.walk_step.proofs.point_fault.Goals as goal

pub returns-then-length_broken : goal.returns-then-length_broken
returns-then-length_broken c = point_7 _ _ (sym c.length_broken.ensures ∙ c.if-length_broken.true)

pub returns-then-misplaced : goal.returns-then-misplaced
returns-then-misplaced c = let placed = ap (λ n. misplaced n c.args.w) (sym c.corner_count.ensures) ∙ sym c.misplaced.ensures ∙ c.if-misplaced.true in
    point_23 _ _ (sym c.length_broken.ensures ∙ c.if-length_broken.false) placed

pub off_at-requires : goal.off_at-requires
off_at-requires c = index_inside _ _ (ap (λ n. misplaced n c.args.w) (sym c.corner_count.ensures) ∙ sym c.misplaced.ensures ∙ c.if-misplaced.false)

pub returns-then-off_at : goal.returns-then-off_at
returns-then-off_at c = let placed = ap (λ n. misplaced n c.args.w) (sym c.corner_count.ensures) ∙ sym c.misplaced.ensures ∙ c.if-misplaced.false in
    point_2 _ _ (sym c.length_broken.ensures ∙ c.if-length_broken.false) placed (sym c.off_at.ensures ∙ c.if-off_at.true)

pub returns : goal.returns
returns c = let placed = ap (λ n. misplaced n c.args.w) (sym c.corner_count.ensures) ∙ sym c.misplaced.ensures ∙ c.if-misplaced.false in
    point_0 _ _ (sym c.length_broken.ensures ∙ c.if-length_broken.false) placed (sym c.off_at.ensures ∙ c.if-off_at.false)
