-- `tables_job::extreme` meets its contract. The loop's invariant: the word is the extreme one of
-- the first k. Assumes nothing.
use mathlib.Core.Path.{◌≡◌}
use Rattle.tables_job.specs.Tables.{extreme_of}
use Rattle.tables_job.proofs.extreme.Given as goal

abbrev pub invariant-loop-k : goal.invariant-loop-k
invariant-loop-k l = l.word ≡ extreme_of l.greatest l.bytes l.from l.k
