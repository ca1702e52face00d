-- `measure::part_fault` meets its contract: the table's faults before 12. Assumes nothing.
use mathlib.Core.Path.{sym, ◌∙◌}
use native.Mathlib.Omega.{arith}
use Rattle.measure.proofs.Answers.{part_before, part_12, part_none}
use Rattle.measure.proofs.part_fault.Goals as goal

pub returns-then-fault-ne0 : goal.returns-then-fault-ne0
returns-then-fault-ne0 c = c.table_fault-fault.ensures ∙ part_before _ _ _ (λ e. c.if-fault-ne0.true (c.table_fault-fault.ensures ∙ e))

pub returns-then-k-starts : goal.returns-then-k-starts
returns-then-k-starts c = part_12 _ _ _ (sym c.table_fault-fault.ensures ∙ c.if-fault-ne0.false) (omega (arith, c.if-k-starts.true))

pub returns : goal.returns
returns c = part_none _ _ _ (sym c.table_fault-fault.ensures ∙ c.if-fault-ne0.false) (omega (arith, c.if-k-starts.false))
