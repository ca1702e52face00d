-- `records::rows` meets its contract. The loop's invariant: the first k rows stand on the front of
-- `to`. Assumes nothing.
use mathlib.Core.Path.{◌≡◌}
use lib.ListN.{length}
use Rattle.integers.specs.Lists.{overlay}
use Rattle.records.specs.Record.{rows_in}
use Rattle.records.proofs.rows.Given as goal

abbrev pub invariant-loop-k : goal.invariant-loop-k
invariant-loop-k l = (length l.to ≡ length l.initial.to) × (l.to ≡ overlay (rows_in l.bytes l.k) l.initial.to)
