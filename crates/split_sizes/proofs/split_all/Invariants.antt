-- `split_sizes::split_all` meets its contract: after k turns the parts of the first k contours are
-- appended. Assumes nothing.
use lib.ListN.{take}
use Rattle.points.specs.Gathered.{PartsAppended}
use Rattle.split_sizes.specs.Parts.{parts_in, split_each}
use Rattle.split_sizes.proofs.split_all.Given as goal

abbrev pub invariant-loop-k : goal.invariant-loop-k
invariant-loop-k l = PartsAppended (split_each l.strategy l.limit (take l.k (parts_in l.begins l.joined l.u))) l.initial.starts l.initial.points l.initial.t l.starts l.points l.t
