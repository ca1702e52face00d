-- `boundary_pairs::bezinkwolu_difference_parts` meets its contract: `difference_parts`, its answer
-- laid out for C. Assumes nothing.
use mathlib.Core.Bool.{true}
use Rattle.boundary_pairs.proofs.Answer.{as_told}
use Rattle.boundary_pairs.proofs.bezinkwolu_difference_parts.Goals as goal

pub returns : goal.returns
returns c = let s = c.args in
    let e = c.difference_parts-answer.ensures in
    as_told true s.left_starts.now s.left_corners.now s.right_starts.now s.right_corners.now s.starts.now s.corners.now
    c.rect-left.ensures c.rect-right.ensures c.told.ensures e.0 e.1 e.2
