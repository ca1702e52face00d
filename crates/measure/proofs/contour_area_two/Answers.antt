-- `measure::contour_area_two` meets its contract: refused by its fault, or its area told. Assumes
-- nothing.
use mathlib.Core.Path.{sym, ◌∙◌, ap}
use Rattle.measure.specs.Measured.{area_told, contour_measured}
use Rattle.measure.proofs.Answers.{contour_ranged, behind_refused, behind_told}
use Rattle.measure.proofs.contour_area_two.Goals as goal

pub returns-then-fault-ne0 : goal.returns-then-fault-ne0
unfolding contour_measured
returns-then-fault-ne0 c = behind_refused _ c.contour_fault-fault.ensures c.if-fault-ne0.true c.refused.ensures

pub contour_area-requires : goal.contour_area-requires
contour_area-requires c = contour_ranged _ (sym c.contour_fault-fault.ensures ∙ c.if-fault-ne0.false)

pub returns : goal.returns
unfolding contour_measured
returns c = behind_told _ c.contour_fault-fault.ensures c.if-fault-ne0.false (c.told.ensures ∙ ap area_told c.contour_area.ensures.sum)
