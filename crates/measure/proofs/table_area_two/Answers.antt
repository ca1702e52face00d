-- `measure::table_area_two` meets its contract: refused by its fault, or its area told. Assumes
-- nothing.
use mathlib.Core.Path.{sym, ◌∙◌, ap}
use Rattle.measure.specs.Measured.{area_told, table_measured}
use Rattle.measure.proofs.Answers.{table_accepted, behind_refused, behind_told}
use Rattle.measure.proofs.table_area_two.Goals as goal

pub returns-then-fault-ne0 : goal.returns-then-fault-ne0
unfolding table_measured
returns-then-fault-ne0 c = behind_refused _ c.table_fault-fault.ensures c.if-fault-ne0.true c.refused.ensures

pub total_area-requires : goal.total_area-requires
total_area-requires c = table_accepted _ _ (sym c.table_fault-fault.ensures ∙ c.if-fault-ne0.false)

pub returns : goal.returns
unfolding table_measured
returns c = behind_told _ c.table_fault-fault.ensures c.if-fault-ne0.false (c.told.ensures ∙ ap area_told c.total_area.ensures)
