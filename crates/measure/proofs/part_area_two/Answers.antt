-- `measure::part_area_two` meets its contract: refused by its fault, or its area told. Assumes
-- nothing.
use mathlib.Core.Path.{sym, ◌∙◌, ap}
use Rattle.measure.specs.Measured.{area_told, part_measured}
use Rattle.measure.proofs.Answers.{part_accepted, behind_refused, behind_told}
use Rattle.measure.proofs.part_area_two.Goals as goal

pub returns-then-fault-ne0 : goal.returns-then-fault-ne0
unfolding part_measured
returns-then-fault-ne0 c = behind_refused _ c.part_fault-fault.ensures c.if-fault-ne0.true c.refused.ensures

pub area_at-requires : goal.area_at-requires
area_at-requires c = part_accepted _ _ _ (sym c.part_fault-fault.ensures ∙ c.if-fault-ne0.false)

pub returns : goal.returns
unfolding part_measured
returns c = behind_told _ c.part_fault-fault.ensures c.if-fault-ne0.false (c.told.ensures ∙ ap area_told c.area_at.ensures.sum)
