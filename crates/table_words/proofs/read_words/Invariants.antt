-- `table_words::read_words` meets its contract. The loop's invariant: the first i words stand on
-- the buffer's front. Assumes nothing.
use mathlib.Core.Path.{◌≡◌}
use lib.ListN.{length, take, drop}
use Rattle.integers.specs.Lists.{overlay}
use Rattle.table.specs.Stored.{words_of}
use Rattle.table_words.proofs.read_words.Given as goal

abbrev pub invariant-loop-i : goal.invariant-loop-i
invariant-loop-i l = (length l.to ≡ length l.initial.to) × (l.to ≡ overlay (take l.i (drop l.from (words_of l.bytes))) l.initial.to)
