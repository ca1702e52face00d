-- `convex_gather::copy_starts` meets its contract. Assumes nothing.
use mathlib.Core.Path.{◌≡◌}
use lib.ListN.{length, take}
use Rattle.integers.specs.Lists.{overlay}
use Rattle.convex_gather.proofs.copy_starts.Given as goal

abbrev pub invariant-loop-i : goal.invariant-loop-i
invariant-loop-i l = (length l.to ≡ length l.initial.to) × (l.to ≡ overlay (take l.i l.from) l.initial.to)
