-- `minkowski_work::walks_fault` meets its contract: each refusal in its turn, and the walks of both
-- operands where there is none. Assumes nothing.
use mathlib.Core.Path.{sym, ◌∙◌}
use native.Mathlib.Omega.{arith}
use borrow.Author.Rules.{rules}
use Rattle.table.proofs.Rules.{sound}
use Rattle.minkowski_work.specs.Scratch.{call_of}
use Rattle.minkowski_work.proofs.Faults.{left_leaves, right_leaves, result_decides, result_kinds_lem}
use Rattle.minkowski_work.proofs.Walked.{settled, left_judged, right_judged, some_firsts, left_unrollable, right_unrollable, walked}
use Rattle.minkowski_work.proofs.walks_fault.Goals as goal

pub put_start-requires : goal.put_start-requires
put_start-requires c = let g = c.args in
    let x = call_of g.operation g.left_starts.now g.left_corners.now g.right_starts.now g.right_corners.now in
    (some_firsts x c.requires.accepted c.requires.room, omega arith)

pub unroll_all-requires : goal.unroll_all-requires
unroll_all-requires c = let g = c.args in
    let x = call_of g.operation g.left_starts.now g.left_corners.now g.right_starts.now g.right_corners.now in
    left_unrollable x c.requires.accepted c.requires.room c.put_start.ensures

pub returns-then-unroll_all : goal.returns-then-unroll_all
returns-then-unroll_all c = let g = c.args in
    let x = call_of g.operation g.left_starts.now g.left_corners.now g.right_starts.now g.right_corners.now in
    record { told = left_leaves x.reflected x.left x.right (sym c.unroll_all.ensures.told ∙ c.if-unroll_all.true); walked = λ q. absurd (omega (arith, q)) }

pub overflow_sub-left : goal.overflow_sub-left
overflow_sub-left c = let g = c.args in
    let x = call_of g.operation g.left_starts.now g.left_corners.now g.right_starts.now g.right_corners.now in
    omega (arith, (sound x.left.starts x.left.corners (left_judged x c.requires.accepted).sound).some)

pub unroll_all-requires-2 : goal.unroll_all-requires-2
unroll_all-requires-2 c = let g = c.args in
    let x = call_of g.operation g.left_starts.now g.left_corners.now g.right_starts.now g.right_corners.now in
    right_unrollable x c.requires.accepted c.requires.room c.put_start.ensures (settled c.unroll_all.ensures c.if-unroll_all.false)

pub returns-then-unroll_all-2 : goal.returns-then-unroll_all-2
returns-then-unroll_all-2 c = let g = c.args in
    let x = call_of g.operation g.left_starts.now g.left_corners.now g.right_starts.now g.right_corners.now in
    record {
      told = right_leaves x.reflected x.left x.right (sym c.unroll_all.ensures.told ∙ c.if-unroll_all.false) (sym c.unroll_all-2.ensures.told ∙ c.if-unroll_all-2.true);
      walked = λ q. absurd (omega (arith, q));
    }

pub result_bounds-bounds-requires : goal.result_bounds-bounds-requires
result_bounds-bounds-requires c = let g = c.args in
    let x = call_of g.operation g.left_starts.now g.left_corners.now g.right_starts.now g.right_corners.now in
    ((left_judged x c.requires.accepted).bounded, (right_judged x c.requires.accepted).bounded)

pub returns : goal.returns
returns c = let g = c.args in
    let x = call_of g.operation g.left_starts.now g.left_corners.now g.right_starts.now g.right_corners.now in
    let u = c.unroll_all.ensures in
    let v = c.unroll_all-2.ensures in
    let a = c.if-unroll_all.false in
    let b = c.if-unroll_all-2.false in
    record {
      told = c.result_fault.ensures ∙ result_kinds_lem x.reflected x.left x.right c.result_bounds-bounds.ensures ∙ sym (result_decides x.reflected x.left x.right (sym u.told ∙ a) (sym v.told ∙ b));
      walked = λ q. walked x c.requires.accepted c.requires.room c.put_start.ensures (settled u a) (settled v b);
    }
