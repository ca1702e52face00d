-- `minkowski_sizes::small_pairs` meets its contract: 7, 2 and 9 first, and the rest in buffers for
-- small operands. Assumes nothing.
use mathlib.Core.Path.{sym, ◌∙◌, ap}
use Rattle.minkowski_work.specs.Scratch.{call_of}
use Rattle.minkowski_work.proofs.Walked.{call_refused}
use borrow.Author.Rules.{rules}
use Rattle.faults.specs.Told.{told}
use Rattle.faults.proofs.Numbers.{not_0}
use Rattle.minkowski_sizes.proofs.small_pairs.Goals as goal

pub returns-in-Err : goal.returns-in-Err
returns-in-Err c = let g = c.args in
    call_refused (call_of g.operation g.left_starts.now g.left_corners.now g.right_starts.now g.right_corners.now) g.starts.now g.corners.now (c.number.ensures ∙ ap told (sym c.in-Err.is) ∙ c.operands_fault-judged.ensures) (not_0 c.in-Err.fault c.number.ensures) c.refusal.ensures
