-- `table_read::stored_starts_broken` meets its contract. The loop's invariant: the answer for all
-- starts is that for those from i on, after `last`. Assumes nothing.
use mathlib.Core.Path.{◌≡◌}
use lib.ListN.{drop}
use Rattle.table.specs.Table.{steps_broken, starts_broken, max_contour}
use Rattle.table.specs.Stored.{stored_starts}
use Rattle.table_read.proofs.stored_starts_broken.Given as goal

abbrev pub invariant-loop-i : goal.invariant-loop-i
invariant-loop-i l = (starts_broken max_contour l.count (stored_starts l.bytes) ≡ steps_broken max_contour l.count l.last (drop l.i (stored_starts l.bytes)))
