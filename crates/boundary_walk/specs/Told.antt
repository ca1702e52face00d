-- What the calls on walks tell at the boundary: each answer laid out for C, with its fault number,
-- 0 for none, and 0 for a value that it does not have. Assumes nothing.
use Rattle.std.specs.Prelude.{false, pos}
use Rattle.pair.specs.declared.Place.{Place}
use Rattle.walk.specs.declared.Begun.{Begun}
use Rattle.walk.specs.declared.Begun.TheVariants as begun
use Rattle.walk.specs.declared.Pointed.{Pointed}
use Rattle.walk.specs.declared.Pointed.TheVariants as pointed
use Rattle.walk.specs.declared.Edged.{Edged}
use Rattle.walk.specs.declared.Edged.TheVariants as edged
use Rattle.walk.specs.declared.Advanced.{Advanced}
use Rattle.walk.specs.declared.Advanced.TheVariants as advanced
use Rattle.walk.specs.declared.Stepped.{Stepped}
use Rattle.walk.specs.declared.Stepped.TheVariants as stepped
use Rattle.walk.specs.declared.Paired.{Paired}
use Rattle.walk.specs.declared.Paired.TheVariants as paired
use Rattle.walk.specs.declared.Next.{Next}
use Rattle.walk.specs.declared.Next.TheVariants as next
use Rattle.boundary_walk.specs.declared.ToldPlace.{ToldPlace}
use Rattle.boundary_walk.specs.declared.ToldPoint.{ToldPoint}
use Rattle.boundary_walk.specs.declared.ToldEdge.{ToldEdge}
use Rattle.boundary_walk.specs.declared.ToldStep.{ToldStep}
use Rattle.boundary_walk.specs.declared.ToldPair.{ToldPair}
use Rattle.boundary_walk.specs.declared.ToldNext.{ToldNext}

-- stands for a place where there is none
abbrev pub nowhere : Place
nowhere = record { index = 0; remaining = 0; reverse = false; reflected = false; segment = false; start = 0; end = 0 }

abbrev pub told_begun : Begun → ToldPlace
told_begun (begun.At w) = record { fault = 0; place = w }
told_begun (begun.Refused f) = record { fault = f; place = nowhere }

abbrev pub told_pointed : Pointed → ToldPoint
told_pointed (pointed.Point p) = record { fault = 0; x = p.x; y = p.y }
told_pointed (pointed.Refused f) = record { fault = f; x = pos 0; y = pos 0 }

abbrev pub told_edged : Edged → ToldEdge
told_edged (edged.Edge e) = record { fault = 0; x = e.x; y = e.y }
told_edged (edged.Refused f) = record { fault = f; x = pos 0; y = pos 0 }

abbrev pub told_advanced : Advanced → ToldPlace
told_advanced (advanced.At w) = record { fault = 0; place = w }
told_advanced (advanced.Refused f w) = record { fault = f; place = w }

abbrev pub told_stepped : Stepped → ToldStep
told_stepped (stepped.Edge e w) = record { fault = 0; x = e.x; y = e.y; place = w }
told_stepped (stepped.Refused f w) = record { fault = f; x = pos 0; y = pos 0; place = w }

abbrev pub told_paired : Paired → ToldPair
told_paired (paired.At s) = record { fault = 0; places = s }
told_paired (paired.Refused f) = record { fault = f; places = record { a = nowhere; b = nowhere } }

-- `corners` tells a corner from the end
abbrev pub told_next : Next → ToldNext
told_next (next.Corner p s) = record { fault = 0; corners = 1; x = p.x; y = p.y; places = s }
told_next (next.End s) = record { fault = 0; corners = 0; x = pos 0; y = pos 0; places = s }
told_next (next.Refused f s) = record { fault = f; corners = 0; x = pos 0; y = pos 0; places = s }
