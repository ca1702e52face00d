-- `walk_next::pair_fault` meets its contract: each kind is told where those before it do not hold.
-- Assumes nothing.
use mathlib.Core.Path.{sym, ◌∙◌, ap}
use Rattle.walk.specs.Calls.{misplaced}
use Rattle.walk_next.proofs.Promises.{fault_left_7, fault_right_7, fault_left_23, fault_right_23, fault_left_2, fault_right_2, fault_none}
use Rattle.walk_next.proofs.pair_fault.Goals as goal
use Rattle.walk_next.proofs.pair_fault.Goals.{then-length_broken-via-then-length_broken, then-length_broken-via-else-length_broken+then-length_broken-2, then-misplaced-via-then-misplaced, then-misplaced-via-else-misplaced+then-misplaced-2, then-off_range-via-then-off_range, then-off_range-via-else-off_range+then-off_range-2}

pub returns-then-length_broken : goal.returns-then-length_broken
returns-then-length_broken c =
    elim c.then-length_broken.branch [
      | then-length_broken-via-then-length_broken w ↦ fault_left_7 c.args.left.now c.args.right.now c.args.s (sym c.length_broken.ensures ∙ w.if-length_broken.true)
      | then-length_broken-via-else-length_broken+then-length_broken-2 w ↦ fault_right_7 c.args.left.now c.args.right.now c.args.s (sym c.length_broken.ensures ∙ w.if-length_broken.false)
          (sym w.length_broken-else-length_broken.ensures ∙ w.if-length_broken-2.true)
    ]

pub returns-then-misplaced : goal.returns-then-misplaced
returns-then-misplaced c =
    let left = sym c.length_broken.ensures ∙ c.if-length_broken.false in
    let right = sym c.length_broken-else-length_broken.ensures ∙ c.if-length_broken-2.false in
    elim c.then-misplaced.branch [
      | then-misplaced-via-then-misplaced w ↦ fault_left_23 c.args.left.now c.args.right.now c.args.s left right
          (ap (λ n. misplaced n c.args.s.a) (sym c.corner_count.ensures) ∙ sym c.misplaced.ensures ∙ w.if-misplaced.true)
      | then-misplaced-via-else-misplaced+then-misplaced-2 w ↦ fault_right_23 c.args.left.now c.args.right.now c.args.s left right
          (ap (λ n. misplaced n c.args.s.a) (sym c.corner_count.ensures) ∙ sym c.misplaced.ensures ∙ w.if-misplaced.false)
          (ap (λ n. misplaced n c.args.s.b) (sym w.corner_count-else-misplaced.ensures) ∙ sym w.misplaced-else-misplaced.ensures ∙ w.if-misplaced-2.true)
    ]

pub returns-then-off_range : goal.returns-then-off_range
returns-then-off_range c =
    let left = sym c.length_broken.ensures ∙ c.if-length_broken.false in
    let right = sym c.length_broken-else-length_broken.ensures ∙ c.if-length_broken-2.false in
    let first = ap (λ n. misplaced n c.args.s.a) (sym c.corner_count.ensures) ∙ sym c.misplaced.ensures ∙ c.if-misplaced.false in
    let second = ap (λ n. misplaced n c.args.s.b) (sym c.corner_count-else-misplaced.ensures) ∙ sym c.misplaced-else-misplaced.ensures ∙ c.if-misplaced-2.false in
    elim c.then-off_range.branch [
      | then-off_range-via-then-off_range w ↦ fault_left_2 c.args.left.now c.args.right.now c.args.s left right first second (sym c.off_range.ensures ∙ w.if-off_range.true)
      | then-off_range-via-else-off_range+then-off_range-2 w ↦ fault_right_2 c.args.left.now c.args.right.now c.args.s left right first second
          (sym c.off_range.ensures ∙ w.if-off_range.false) (sym w.off_range-else-off_range.ensures ∙ w.if-off_range-2.true)
    ]

pub returns : goal.returns
returns c = fault_none c.args.left.now c.args.right.now c.args.s (sym c.length_broken.ensures ∙ c.if-length_broken.false)
    (sym c.length_broken-else-length_broken.ensures ∙ c.if-length_broken-2.false)
    (ap (λ n. misplaced n c.args.s.a) (sym c.corner_count.ensures) ∙ sym c.misplaced.ensures ∙ c.if-misplaced.false)
    (ap (λ n. misplaced n c.args.s.b) (sym c.corner_count-else-misplaced.ensures) ∙ sym c.misplaced-else-misplaced.ensures ∙ c.if-misplaced-2.false)
    (sym c.off_range.ensures ∙ c.if-off_range.false) (sym c.off_range-else-off_range.ensures ∙ c.if-off_range-2.false)
