-- `minkowski_sizes::large_pairs` meets its contract: 7, 2 and 9 first, and the rest in buffers that
-- hold the operands' points. Assumes nothing.
use mathlib.Core.Path.{sym, ◌∙◌, ap}
use Rattle.minkowski_work.specs.Scratch.{call_of}
use Rattle.minkowski_work.proofs.Walked.{call_refused}
use Rattle.minkowski_sizes.proofs.Sizes.{few_asked, any_room}
use borrow.Author.Rules.{rules}
use Rattle.faults.specs.Told.{told}
use Rattle.faults.proofs.Numbers.{not_0}
use Rattle.minkowski_sizes.proofs.large_pairs.Goals as goal

pub returns-in-Err : goal.returns-in-Err
returns-in-Err c = let g = c.args in
    call_refused (call_of g.operation g.left_starts.now g.left_corners.now g.right_starts.now g.right_corners.now) g.starts.now g.corners.now (c.number.ensures ∙ ap told (sym c.in-Err.is) ∙ c.operands_fault-judged.ensures) (not_0 c.in-Err.fault c.number.ensures) c.refusal.ensures

pub few_pairs-requires : goal.few_pairs-requires
few_pairs-requires c = let g = c.args in
    let x = (call_of g.operation g.left_starts.now g.left_corners.now g.right_starts.now g.right_corners.now) in
    few_asked x (sym c.operands_fault-judged.ensures ∙ (ap told c.in_default.is))

pub pairs_in-requires-clause-room : goal.pairs_in-requires-clause-room
pairs_in-requires-clause-room c = let g = c.args in
    let x = (call_of g.operation g.left_starts.now g.left_corners.now g.right_starts.now g.right_corners.now) in
    any_room x (sym c.operands_fault-judged.ensures ∙ (ap told c.in_default.is))

pub keyed_in-requires-else-both_fit-clause-room : goal.keyed_in-requires-else-both_fit-clause-room
keyed_in-requires-else-both_fit-clause-room c = let g = c.args in
    let x = (call_of g.operation g.left_starts.now g.left_corners.now g.right_starts.now g.right_corners.now) in
    any_room x (sym c.operands_fault-judged.ensures ∙ (ap told c.in_default.is))
