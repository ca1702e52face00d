-- `listing_areas::area_at` meets its contract: part k can be measured. Assumes nothing.
use Rattle.std.proofs.Common.{sym, ap, ◌∙◌, subst}
use Rattle.corners.specs.Corners.{points_of}
use Rattle.table.proofs.Shown.{part_is}
use Rattle.listing.specs.Listing.{area_of}
use Rattle.listing_areas.specs.Areas.{Measurable}
use Rattle.listing_areas.proofs.Totals.{part_measurable}
use Rattle.listing_areas.proofs.area_at.Goals as goal

pub part_area-requires : goal.part_area-requires
part_area-requires c = subst Measurable (sym c.part_of.ensures.numbers) (part_measurable c.requires.0 c.requires.1)

pub returns : goal.returns
returns c = c.part_area.ensures ∙ ap (λ l. area_of (points_of l)) c.part_of.ensures.numbers ∙ ap area_of (part_is _ _ c.requires.1)
