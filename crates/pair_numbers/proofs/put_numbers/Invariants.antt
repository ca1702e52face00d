-- `pair_numbers::put_numbers` meets its contract. The loop's invariant: the points passed have
-- their numbers. Assumes nothing.
use mathlib.Core.Path.{◌≡◌}
use Prim.Native.Nat.{ℕ, ◌<◌}
use lib.ListN.{get_or}
use Rattle.pair_merge.specs.Putting.{points_in}
use Rattle.pair_numbers.specs.Numbers.{number_of}
use Rattle.pair_numbers.proofs.put_numbers.Given as goal

abbrev pub invariant-loop-i : goal.invariant-loop-i
invariant-loop-i l = (k : ℕ) → k < l.i → get_or l.out k 0 ≡ number_of l.first (points_in l.a) k
