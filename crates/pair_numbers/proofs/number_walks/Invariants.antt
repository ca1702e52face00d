-- `pair_numbers::number_walks` meets its contract. The loop's invariant: the walks passed have
-- their numbers. Assumes nothing.
use mathlib.Core.Path.{◌≡◌}
use Prim.Native.Nat.{◌+◌}
use lib.ListN.{length}
use Rattle.pair_walks.specs.Walks.{walks_in}
use Rattle.pair_numbers.specs.Numbers.{NumberedTo}
use Rattle.pair_numbers.proofs.number_walks.Given as goal

abbrev pub invariant-loop-n : goal.invariant-loop-n
invariant-loop-n l = (length l.numbers ≡ length l.initial.numbers) × NumberedTo l.n (walks_in l.firsts l.points (l.left + l.right)) l.firsts l.numbers l.left
