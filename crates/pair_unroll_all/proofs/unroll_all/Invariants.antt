-- `pair_unroll_all::unroll_all` meets its contract: the invariant is `Unrolling` of Parts. Assumes
-- nothing.
use Rattle.table.specs.Table.{table_parts}
use Rattle.pair_unroll_all.proofs.Parts.{Unrolling}
use Rattle.pair_unroll_all.proofs.unroll_all.Given as goal

abbrev pub invariant-loop-p : goal.invariant-loop-p
invariant-loop-p l = Unrolling l.reflected (table_parts l.starts l.corners) l.done l.initial.points l.initial.firsts l.points l.firsts l.count l.p
