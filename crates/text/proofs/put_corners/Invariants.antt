-- `text::put_corners` meets its contract. The loop's invariant: the first k corners are put.
-- Assumes nothing.
use mathlib.Core.Path.{◌≡◌}
use lib.ListN.{length, take}
use Rattle.corners.specs.Corners.{points_of}
use Rattle.text.specs.Text.{corners_text}
use Rattle.text.specs.Put.{PutText}
use Rattle.text.proofs.put_corners.Given as goal

abbrev pub invariant-loop-k : goal.invariant-loop-k
invariant-loop-k l = (length l.out ≡ length l.initial.out) × PutText (corners_text (take l.k (points_of l.corners))) l.at l.initial.out l.out l.after
