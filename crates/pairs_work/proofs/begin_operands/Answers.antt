-- `pairs_work::begin_operands` meets its contract: a refusal, or the walks of both operands with
-- their numbers. Assumes nothing.
use mathlib.Core.Path.{sym, ◌∙◌, ap}
use mathlib.Core.List.{[]}
use native.Mathlib.Omega.{arith}
use Rattle.table.proofs.Rules.{sound}
use Rattle.minkowski_work.specs.Scratch.{call_of}
use Rattle.minkowski_work.proofs.Faults.{operands_none, past_operands}
use Rattle.minkowski_work.proofs.Walked.{left_judged, right_judged}
use Rattle.minkowski_keyed.proofs.Numbers.{numberable, keyed}
use Rattle.pairs_work.proofs.Answer.{begun_refused, begun_accepted}
use Rattle.faults.specs.Told.{told}
use Rattle.faults.proofs.Numbers.{not_0}
use Rattle.pairs_work.proofs.begin_operands.Goals as goal

pub returns-in-Err : goal.returns-in-Err
returns-in-Err c = let g = c.args in
    let x = call_of g.operation g.left_starts.now g.left_corners.now g.right_starts.now g.right_corners.now in
    let t = c.number.ensures ∙ ap told (sym c.in-Err.is) ∙ c.pairs_fault-judged.ensures.told in
    let d = not_0 c.in-Err.fault c.number.ensures in
    record { answer = begun_refused x t d c.refused.ensures; walked = λ q. absurd (d (t ∙ q)); keyed = λ q. absurd (d (t ∙ q)) }

pub overflow_sub-left : goal.overflow_sub-left
overflow_sub-left c = let g = c.args in
    let x = call_of g.operation g.left_starts.now g.left_corners.now g.right_starts.now g.right_corners.now in
    let e = operands_none x.reflected x.left x.right (sym c.pairs_fault-judged.ensures.told ∙ (ap told c.in_default.is)) in
    omega (arith, (sound x.left.starts x.left.corners (left_judged x e).sound).some)

pub overflow_sub-right : goal.overflow_sub-right
overflow_sub-right c = let g = c.args in
    let x = call_of g.operation g.left_starts.now g.left_corners.now g.right_starts.now g.right_corners.now in
    let e = operands_none x.reflected x.left x.right (sym c.pairs_fault-judged.ensures.told ∙ (ap told c.in_default.is)) in
    omega (arith, (sound x.right.starts x.right.corners (right_judged x e).sound).some)

pub number_walks-requires : goal.number_walks-requires
number_walks-requires c = let g = c.args in
    let x = call_of g.operation g.left_starts.now g.left_corners.now g.right_starts.now g.right_corners.now in
    let e = operands_none x.reflected x.left x.right (sym c.pairs_fault-judged.ensures.told ∙ (ap told c.in_default.is)) in
    let w = c.pairs_fault-judged.ensures.walked (ap told c.in_default.is) in
    let p = c.requires in
    let same = c.points-1.given in
    numberable x e w (omega (arith, p.large.for_points, same)) (omega (arith, p.for_numbers, same))

pub result_bounds-bounds-requires : goal.result_bounds-bounds-requires
result_bounds-bounds-requires c = let g = c.args in
    let x = call_of g.operation g.left_starts.now g.left_corners.now g.right_starts.now g.right_corners.now in
    let e = operands_none x.reflected x.left x.right (sym c.pairs_fault-judged.ensures.told ∙ (ap told c.in_default.is)) in
    ((left_judged x e).bounded, (right_judged x e).bounded)

pub returns : goal.returns
returns c = let g = c.args in
    let x = call_of g.operation g.left_starts.now g.left_corners.now g.right_starts.now g.right_corners.now in
    let e = operands_none x.reflected x.left x.right (sym c.pairs_fault-judged.ensures.told ∙ (ap told c.in_default.is)) in
    let w = c.pairs_fault-judged.ensures.walked (ap told c.in_default.is) in
    let p = c.requires in
    let same = c.points-1.given in
    let n = ap told c.in_default.is in
    let t = c.pairs_fault-judged.ensures.told in
    let m = c.number_walks.ensures in
    record {
      answer = begun_accepted x (sym t ∙ n) c.result_bounds-bounds.ensures;
      walked = λ _. w;
      keyed = λ q. keyed x e w (omega (arith, p.large.for_points, same)) (sym (past_operands x.reflected x.left x.right [] e) ∙ q) (omega (arith, p.for_numbers, same, m.size)) m.numbered;
    }
