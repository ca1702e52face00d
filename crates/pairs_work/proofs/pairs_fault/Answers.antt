-- `pairs_work::pairs_fault` meets its contract: the kinds that need no walk, and then those that
-- walks decide. Assumes nothing.
use mathlib.Core.Path.{sym, ◌∙◌, ap}
use mathlib.Core.List.{[]}
use Rattle.minkowski_work.specs.Scratch.{call_of}
use Rattle.minkowski_work.proofs.Faults.{operands_first, past_operands}
use Rattle.minkowski_work.proofs.Walked.{large}
use Rattle.std.proofs.lemmas.Result.{err_from_is_err_and}
use Rattle.faults.specs.Told.{number, told}
use Rattle.faults.proofs.Numbers.{not_0}
use Rattle.pairs_work.proofs.pairs_fault.Goals as goal

pub returns-in_err-operands_fault : goal.returns-in_err-operands_fault
returns-in_err-operands_fault c = let g = c.args in
    let x = call_of g.operation g.left_starts.now g.left_corners.now g.right_starts.now g.right_corners.now in
    let p = err_from_is_err_and c.from_residual.result c.from_residual.ensures.1 in
    let was = ap told c.in_err-operands_fault.was in
    let e = ap told p.1 ∙ ap number p.2 in
    let d = not_0 c.in_err-operands_fault.field-0.0 was in
    record { told = e ∙ sym was ∙ operands_first x.reflected x.left x.right [] c.operands_fault.ensures d; walked = λ q. absurd (d (was ∙ sym e ∙ q)) }

pub walks_fault-requires : goal.walks_fault-requires
walks_fault-requires c = let g = c.args in
    let x = call_of g.operation g.left_starts.now g.left_corners.now g.right_starts.now g.right_corners.now in
    large (sym c.operands_fault.ensures ∙ ap told c.in_ok-operands_fault.was) c.requires.for_points c.requires.for_firsts

pub returns : goal.returns
returns c = let g = c.args in
    let x = call_of g.operation g.left_starts.now g.left_corners.now g.right_starts.now g.right_corners.now in
    let w = c.walks_fault.ensures in
    record { told = w.told ∙ sym (past_operands x.reflected x.left x.right [] (sym c.operands_fault.ensures ∙ ap told c.in_ok-operands_fault.was)); walked = w.walked }
