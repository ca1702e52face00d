-- `table::starts_broken` meets its contract. The loop's invariant: the answer for all starts is
-- that for those from i on, after `last`. Assumes nothing.
use mathlib.Core.Path.{◌≡◌}
use lib.ListN.{drop}
use Rattle.table.specs.Table.{steps_broken, starts_broken}
use Rattle.table.proofs.starts_broken.Given as goal

abbrev pub invariant-loop-start : goal.invariant-loop-start
invariant-loop-start l = starts_broken l.limit l.count l.starts ≡ steps_broken l.limit l.count l.last (drop l.start-index l.rest)
