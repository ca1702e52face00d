-- `minkowski_work::pairs_over` meets its contract: a refusal, or the answer of `hand_out`, which is
-- that for the operands. Assumes nothing.
use mathlib.Core.Path.{sym, ◌∙◌, ap}
use native.Mathlib.Omega.{arith}
use borrow.Author.Rules.{rules}
use lib.ListN.{length}
use Rattle.table.proofs.Rules.{sound}
use Rattle.minkowski.specs.Pairs.{result_bounds, pair_contours}
use Rattle.minkowski_answer.proofs.Answer.{refused}
use Rattle.minkowski_work.specs.Scratch.{call_of}
use Rattle.minkowski_work.proofs.Faults.{walks_refused, room_decides}
use Rattle.minkowski_work.proofs.Walked.{left_judged, right_judged, unrolleds, answered}
use Rattle.faults.specs.Told.{told}
use Rattle.faults.proofs.Numbers.{not_0}
use Rattle.minkowski_work.proofs.pairs_over.Goals as goal

pub returns-in-Err : goal.returns-in-Err
returns-in-Err c = let g = c.args in
    let x = call_of g.operation g.left_starts.now g.left_corners.now g.right_starts.now g.right_corners.now in
    let e = walks_refused x.reflected x.left x.right (length g.starts.now) (length g.corners.now) c.requires.accepted (c.number.ensures ∙ ap told (sym c.in-Err.is) ∙ c.walks_fault-judged.ensures.told) (not_0 c.in-Err.fault c.number.ensures) in
    refused (pair_contours x.reflected x.left x.right) (result_bounds x.reflected x.left.bounds x.right.bounds) g.starts.now g.corners.now e (not_0 c.in-Err.fault c.number.ensures) c.refusal.ensures

pub result_bounds-bounds-requires : goal.result_bounds-bounds-requires
result_bounds-bounds-requires c = let g = c.args in
    let x = call_of g.operation g.left_starts.now g.left_corners.now g.right_starts.now g.right_corners.now in
    ((left_judged x c.requires.accepted).bounded, (right_judged x c.requires.accepted).bounded)

pub most_corners-most-requires : goal.most_corners-most-requires
most_corners-most-requires c = let g = c.args in
    let x = call_of g.operation g.left_starts.now g.left_corners.now g.right_starts.now g.right_corners.now in
    ((left_judged x c.requires.accepted).sound, (right_judged x c.requires.accepted).sound)

pub overflow_sub-left : goal.overflow_sub-left
overflow_sub-left c = let g = c.args in
    let x = call_of g.operation g.left_starts.now g.left_corners.now g.right_starts.now g.right_corners.now in
    omega (arith, (sound x.left.starts x.left.corners (left_judged x c.requires.accepted).sound).some)

pub overflow_sub-right : goal.overflow_sub-right
overflow_sub-right c = let g = c.args in
    let x = call_of g.operation g.left_starts.now g.left_corners.now g.right_starts.now g.right_corners.now in
    omega (arith, (sound x.right.starts x.right.corners (right_judged x c.requires.accepted).sound).some)

pub hand_out-requires : goal.hand_out-requires
hand_out-requires c = let g = c.args in
    let x = call_of g.operation g.left_starts.now g.left_corners.now g.right_starts.now g.right_corners.now in
    unrolleds x (c.walks_fault-judged.ensures.walked (ap told c.in_default.is)) c.requires.accepted c.most_corners-most.ensures

pub returns : goal.returns
returns c = let g = c.args in
    let x = call_of g.operation g.left_starts.now g.left_corners.now g.right_starts.now g.right_corners.now in
    let w = c.walks_fault-judged.ensures in
    let n = ap told c.in_default.is in
    let d = room_decides x.reflected x.left x.right (length g.starts.now) (length g.corners.now) c.requires.accepted (sym w.told ∙ n) in
    answered x (w.walked n) d c.result_bounds-bounds.ensures c.hand_out.ensures
