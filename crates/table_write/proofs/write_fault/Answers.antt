-- `table_write::write_fault` meets its contract: the code's tests are the definition's, in its
-- order. Assumes nothing.
use mathlib.Core.Path.{sym, ◌∙◌}
use native.Mathlib.Omega.{arith}
use Rattle.table.proofs.Rules.{sound}
use Rattle.table_write.proofs.Writing.{fault_7, fault_2, fault_21, no_fault_write}
use Rattle.table_write.proofs.write_fault.Goals as goal

pub returns-then-rules_broken : goal.returns-then-rules_broken
returns-then-rules_broken c = sym (fault_7 _ _ _ (sym c.rules_broken.ensures ∙ c.if-rules_broken.true))

pub returns-then-off_range : goal.returns-then-off_range
returns-then-off_range c = sym (fault_2 _ _ _ (sym c.rules_broken.ensures ∙ c.if-rules_broken.false) (sym c.off_range.ensures ∙ c.if-off_range.true))

pub overflow_add-starts-2 : goal.overflow_add-starts-2
overflow_add-starts-2 c = let t = sound _ _ (sym c.rules_broken.ensures ∙ c.if-rules_broken.false) in
    omega arith

pub returns-then-room-starts : goal.returns-then-room-starts
returns-then-room-starts c = sym (fault_21 _ _ _ (sym c.rules_broken.ensures ∙ c.if-rules_broken.false) (sym c.off_range.ensures ∙ c.if-off_range.false) c.if-room-starts.true)

pub returns : goal.returns
returns c = sym (no_fault_write _ _ _ (sym c.rules_broken.ensures ∙ c.if-rules_broken.false) (sym c.off_range.ensures ∙ c.if-off_range.false) c.if-room-starts.false)
