-- `table_words::read_numbers` meets its contract. The loop's invariant: the first i numbers stand
-- on the buffer's front. Assumes nothing.
use mathlib.Core.Path.{◌≡◌}
use mathlib.Core.List.{map}
use lib.ListN.{length, take, drop}
use Rattle.integers.specs.Lists.{overlay}
use Rattle.table.specs.Stored.{words_of, signed}
use Rattle.table_words.proofs.read_numbers.Given as goal

abbrev pub invariant-loop-i : goal.invariant-loop-i
invariant-loop-i l = (length l.to ≡ length l.initial.to) × (l.to ≡ overlay (map signed (take l.i (drop l.from (words_of l.bytes)))) l.initial.to)
