-- `split_ears::fill_ring` meets its contract: the first i entries are filled. Assumes nothing.
use mathlib.Core.Path.{◌≡◌}
use lib.ListN.{length}
use Rattle.split_ears.proofs.Ringing.{Filled}
use Rattle.split_ears.proofs.fill_ring.Given as goal

abbrev pub invariant-loop-i : goal.invariant-loop-i
invariant-loop-i l = (length l.ring ≡ length l.initial.ring) × Filled l.ring l.i
