-- `split_contour::append_centroid_parts` meets its contract: the sectors where the centre serves,
-- else the fan. Assumes nothing.
use mathlib.Core.Path.{sym, ◌∙◌}
use native.Mathlib.Omega.{arith}
use lib.ListN.{length-map}
use Rattle.points.specs.Points.{corner_of}
use Rattle.split_centre.proofs.Reading.{grid_of}
use Rattle.split_contour.proofs.Contour.{centre_at, centre_grid, centre_unserved, same_room, same_parts}
use Rattle.split_contour.proofs.append_centroid_parts.Goals as goal

pub append_sectors-requires : goal.append_sectors-requires
append_sectors-requires c = let g = c.args in
    let k = g.contour.now in
    let e = sym c.centre_of.ensures ∙ c.in-Some.is in
    (c.requires.0, c.requires.1, omega (arith, c.requires.2.size, length-map k corner_of), grid_of k c.requires.2.grid, centre_grid k (omega (arith, c.requires.1)) c.requires.2 e, same_room (centre_at g.limit k (omega (arith, c.requires.1)) e) c.requires.3)

pub append_fan_parts-requires : goal.append_fan_parts-requires
append_fan_parts-requires c = let g = c.args in
    let k = g.contour.now in
    let e = sym c.centre_of.ensures ∙ c.in-None.is in
    (c.requires.0, c.requires.1, omega (arith, c.requires.2.size, length-map k corner_of), same_room (centre_unserved g.limit k (omega (arith, c.requires.1)) e) c.requires.3)

pub returns-in-Some : goal.returns-in-Some
returns-in-Some c = let g = c.args in
    let e = sym c.centre_of.ensures ∙ c.in-Some.is in
    same_parts (sym (centre_at g.limit g.contour.now (omega (arith, c.requires.1)) e)) c.append_sectors.ensures

pub returns-in-None : goal.returns-in-None
returns-in-None c = let g = c.args in
    let e = sym c.centre_of.ensures ∙ c.in-None.is in
    same_parts (sym (centre_unserved g.limit g.contour.now (omega (arith, c.requires.1)) e)) c.append_fan_parts.ensures
