-- `pairs_work::begin_shaped` meets its contract: the fronts of the places hold the job's operands.
-- Assumes nothing.
use mathlib.Core.Path.{◌∙◌, ap}
use native.Mathlib.Omega.{arith}
use lib.Dec.{eqb}
use Rattle.corners.proofs.Corners.{whole_corners}
use Rattle.pairs_work.proofs.Reading.{long_enough, left_in, left_table, right_after, right_in, right_table, front, front_fits, front_length, starts_count, numbers_count, left_read, right_read, begun_job}
use Rattle.pairs_job.specs.Job.{starts_at, corners_at}
use Rattle.pairs_work.proofs.begin_shaped.Goals as goal

pub right_place-place-requires : goal.right_place-place-requires
right_place-place-requires c = omega (arith, long_enough _ c.requires.shape)

pub word_at-l-requires : goal.word_at-l-requires
word_at-l-requires c = omega (arith, long_enough _ c.requires.shape)

pub word_at-m-requires : goal.word_at-m-requires
word_at-m-requires c = omega (arith, long_enough _ c.requires.shape)

pub word_at-r-requires : goal.word_at-r-requires
word_at-r-requires c = let a = right_after _ c.requires.shape c.right_place-place.ensures.place in
    omega (arith, a.0, a.1)

pub word_at-n-requires : goal.word_at-n-requires
word_at-n-requires c = let a = right_after _ c.requires.shape c.right_place-place.ensures.place in
    omega (arith, a.0, a.1)

pub read_operand-requires : goal.read_operand-requires
read_operand-requires c = left_table _ c.requires.shape c.requires.left_starts c.requires.left_corners

pub read_operand-requires-2 : goal.read_operand-requires-2
read_operand-requires-2 c = right_table _ c.requires.shape c.right_place-place.ensures.place c.requires.right_starts c.requires.right_corners

pub word_at-requires : goal.word_at-requires
word_at-requires c = omega (arith, long_enough _ c.requires.shape)

pub bounds_at-requires : goal.bounds_at-requires
bounds_at-requires c = omega (arith, long_enough _ c.requires.shape)

pub overflow_sub-place : goal.overflow_sub-place
overflow_sub-place c = let a = right_after _ c.requires.shape c.right_place-place.ensures.place in
    omega (arith, a.0, a.1)

pub bounds_at-requires-2 : goal.bounds_at-requires-2
bounds_at-requires-2 c = let a = right_after _ c.requires.shape c.right_place-place.ensures.place in
    omega (arith, a.0, a.1)

pub slice_bounds-begin_operands-end : goal.slice_bounds-begin_operands-end
slice_bounds-begin_operands-end c = let B = c.args.bytes.now in
    let h = left_in B c.requires.shape in
    front_fits (starts_at B 5) c.args.left_starts.now c.read_operand.ensures.starts (starts_count B 5 h c.word_at-l.ensures)

pub slice_bounds-begin_operands-end-2 : goal.slice_bounds-begin_operands-end-2
slice_bounds-begin_operands-end-2 c = let B = c.args.bytes.now in
    let h = left_in B c.requires.shape in
    front_length (starts_at B 5) c.args.left_starts.now c.read_operand.ensures.starts (starts_count B 5 h c.word_at-l.ensures)

pub front-requires : goal.front-requires
front-requires c = let B = c.args.bytes.now in
    let h = left_in B c.requires.shape in
    whole_corners _ _ (front_fits (corners_at B 5) c.args.left_corners.now c.read_operand.ensures.corners (numbers_count B 5 h c.word_at-m.ensures))

pub slice_bounds-begin_operands-end-3 : goal.slice_bounds-begin_operands-end-3
slice_bounds-begin_operands-end-3 c = let B = c.args.bytes.now in
    let k = c.right_place-place.result in
    let h = right_in B c.requires.shape c.right_place-place.ensures.place in
    front_fits (starts_at B k) c.args.right_starts.now c.read_operand-2.ensures.starts (starts_count B k h c.word_at-r.ensures)

pub slice_bounds-begin_operands-end-4 : goal.slice_bounds-begin_operands-end-4
slice_bounds-begin_operands-end-4 c = let B = c.args.bytes.now in
    let k = c.right_place-place.result in
    let h = right_in B c.requires.shape c.right_place-place.ensures.place in
    front_length (starts_at B k) c.args.right_starts.now c.read_operand-2.ensures.starts (starts_count B k h c.word_at-r.ensures)

pub front-requires-2 : goal.front-requires-2
front-requires-2 c = let B = c.args.bytes.now in
    let k = c.right_place-place.result in
    let h = right_in B c.requires.shape c.right_place-place.ensures.place in
    whole_corners _ _ (front_fits (corners_at B k) c.args.right_corners.now c.read_operand-2.ensures.corners (numbers_count B k h c.word_at-n.ensures))

pub returns : goal.returns
returns c = let B = c.args.bytes.now in
    let q = c.right_place-place.ensures.place in
    let k = c.right_place-place.result in
    let h = left_in B c.requires.shape in
    let l =
    left_read B
    (front (starts_at B 5) c.args.left_starts.now c.read_operand.ensures.starts (starts_count B 5 h c.word_at-l.ensures))
    (c.front.ensures.numbers ∙ front (corners_at B 5) c.args.left_corners.now c.read_operand.ensures.corners (numbers_count B 5 h c.word_at-m.ensures)) c.bounds_at.ensures in
    let h = right_in B c.requires.shape q in
    let r =
    right_read B q
    (front (starts_at B k) c.args.right_starts.now c.read_operand-2.ensures.starts (starts_count B k h c.word_at-r.ensures))
    (c.front-2.ensures.numbers ∙ front (corners_at B k) c.args.right_corners.now c.read_operand-2.ensures.corners (numbers_count B k h c.word_at-n.ensures)) c.bounds_at-2.ensures in
    begun_job B c.requires.shape (ap (λ w. eqb w 1) c.word_at.ensures) l r c.begin_operands.ensures
