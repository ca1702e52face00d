-- Where a place lies, laid out for C: the fault number, 0 for none, and the placement's number, 0
-- where there is a fault. Assumes nothing.
use Rattle.placement.specs.declared.Placed.{Placed}
use Rattle.placement.specs.declared.Placed.TheVariants.{At, Refused}
use Rattle.placement.specs.Placement.{contact_number}
use Rattle.boundary_place.specs.declared.ToldPlacement.{ToldPlacement}

abbrev pub told_placed : Placed → ToldPlacement
told_placed (At p) = record { fault = 0; placement = contact_number p }
told_placed (Refused f) = record { fault = f; placement = 0 }
