-- `walk_step::step_fault` meets its contract: each kind is told where those before it do not hold.
-- Assumes nothing.
use mathlib.Core.Path.{sym, ◌∙◌, ap}
use native.Mathlib.Omega.{arith}
use lib.ListN.{length}
use Rattle.corners.specs.Corners.{points_of}
use Rattle.pair.specs.Walk.{next_index}
use Rattle.walk.specs.Calls.{misplaced, off_at}
use Rattle.walk.proofs.Answers.{few_corners, index_inside, next_inside}
use Rattle.walk_step.proofs.Faults.{step_7, step_done, step_23, step_here, step_there, step_0}
use Rattle.walk_step.proofs.step_fault.Goals.{then-w-eq0-via-then-w-eq0, then-w-eq0-via-else-w-eq0+then-misplaced, then-off_at-via-then-off_at, then-off_at-via-else-off_at+then-off_at-2}
use Rattle.walk_step.proofs.step_fault.Goals as goal

pub returns-then-length_broken : goal.returns-then-length_broken
returns-then-length_broken c = step_7 _ _ (sym c.length_broken.ensures ∙ c.if-length_broken.true)

pub returns-then-w-eq0 : goal.returns-then-w-eq0
returns-then-w-eq0 c =
    let short = sym c.length_broken.ensures ∙ c.if-length_broken.false in
    elim c.then-w-eq0.branch [
      | then-w-eq0-via-then-w-eq0 w ↦ step_done _ _ short w.if-w-eq0.true
      | then-w-eq0-via-else-w-eq0+then-misplaced w ↦ step_23 _ _ short w.if-w-eq0.false
          (ap (λ n. misplaced n c.args.w) (sym c.corner_count-n.ensures) ∙ sym w.misplaced.ensures ∙ w.if-misplaced.true)
    ]

pub off_at-requires : goal.off_at-requires
off_at-requires c = index_inside _ _ (ap (λ n. misplaced n c.args.w) (sym c.corner_count-n.ensures) ∙ sym c.misplaced.ensures ∙ c.if-misplaced.false)

pub next_index-requires : goal.next_index-requires
next_index-requires c = rw c.corner_count-n.ensures (
  few_corners c.args.contour.now (sym c.length_broken.ensures ∙ c.if-length_broken.false),
  ap (λ n. misplaced n c.args.w) (sym c.corner_count-n.ensures) ∙ sym c.misplaced.ensures ∙ c.if-misplaced.false,
)

pub off_at-requires-else-off_at : goal.off_at-requires-else-off_at
off_at-requires-else-off_at c = let l = points_of c.args.contour.now in
    let w = c.args.w in
    omega (
      arith,
      c.next_index.ensures ∙ ap (λ n. next_index n w) c.corner_count-n.ensures,
      next_inside (length l) w
          (ap (λ n. misplaced n c.args.w) (sym c.corner_count-n.ensures) ∙ sym c.misplaced.ensures ∙ c.if-misplaced.false),
    )

pub returns-then-off_at : goal.returns-then-off_at
returns-then-off_at c =
    let short = sym c.length_broken.ensures ∙ c.if-length_broken.false in
    let placed = ap (λ n. misplaced n c.args.w) (sym c.corner_count-n.ensures) ∙ sym c.misplaced.ensures ∙ c.if-misplaced.false in
    elim c.then-off_at.branch [
      | then-off_at-via-then-off_at w ↦ step_here _ _ short c.if-w-eq0.false placed (sym c.off_at.ensures ∙ w.if-off_at.true)
      | then-off_at-via-else-off_at+then-off_at-2 w ↦ step_there _ _ short c.if-w-eq0.false placed (sym c.off_at.ensures ∙ w.if-off_at.false)
          (ap (λ i. off_at (points_of c.args.contour.now) i) (sym (w.next_index.ensures ∙ ap (λ n. next_index n c.args.w) c.corner_count-n.ensures)) ∙ sym w.off_at-else-off_at.ensures ∙ w.if-off_at-2.true)
    ]

pub returns : goal.returns
returns c = step_0 _ _ (sym c.length_broken.ensures ∙ c.if-length_broken.false) c.if-w-eq0.false
    (ap (λ n. misplaced n c.args.w) (sym c.corner_count-n.ensures) ∙ sym c.misplaced.ensures ∙ c.if-misplaced.false)
    (sym c.off_at.ensures ∙ c.if-off_at.false)
    (ap (λ i. off_at (points_of c.args.contour.now) i)
    (sym (c.next_index.ensures ∙ ap (λ n. next_index n c.args.w) c.corner_count-n.ensures))
    ∙ sym c.off_at-else-off_at.ensures
    ∙ c.if-off_at-2.false)
