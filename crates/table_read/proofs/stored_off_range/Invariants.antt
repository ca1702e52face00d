-- `table_read::stored_off_range` meets its contract. The loop's invariant: the answer is that for
-- the words from i on. Assumes nothing.
use mathlib.Core.Path.{◌≡◌}
use mathlib.Core.List.{map}
use lib.ListN.{drop}
use Rattle.corners.specs.Corners.{off_range}
use Rattle.table.specs.Stored.{words_of, signed}
use Rattle.table_read.proofs.stored_off_range.Given as goal

abbrev pub invariant-loop-i : goal.invariant-loop-i
invariant-loop-i l = off_range (map signed (drop l.from (words_of l.bytes))) ≡ off_range (map signed (drop l.i (words_of l.bytes)))
