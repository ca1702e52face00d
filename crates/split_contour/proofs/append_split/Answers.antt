-- `split_contour::append_split` meets its contract: the contour whole, or the parts that its
-- strategy gives. Assumes nothing.
use mathlib.Core.Path.{sym, ◌∙◌, ap}
use native.Mathlib.Omega.{arith}
use lib.ListN.{length-map}
use Rattle.points.specs.Points.{corner_of, corners_in}
use Rattle.split.specs.Splitting.{split_by}
use Rattle.split_contour.proofs.Contour.{split_whole, split_past, same_room, same_parts}
use Rattle.split_contour.proofs.append_split.Goals as goal

pub append_whole-requires : goal.append_whole-requires
append_whole-requires c = let g = c.args in
    same_room (split_whole g.strategy g.limit g.contour.now (omega (arith, c.if-contour-limit.true))) c.requires.2

pub returns-then-contour-limit : goal.returns-then-contour-limit
returns-then-contour-limit c = let g = c.args in
    same_parts (sym (split_whole g.strategy g.limit g.contour.now (omega (arith, c.if-contour-limit.true)))) c.append_whole.ensures

pub append_ear_clipping_parts-requires : goal.append_ear_clipping_parts-requires
append_ear_clipping_parts-requires c = let g = c.args in
    let e = split_past g.strategy g.limit g.contour.now c.if-contour-limit.false ∙ ap (λ how. split_by how g.limit (corners_in g.contour.now)) c.in-EarClipping.is in
    (c.requires.0, c.if-contour-limit.false, omega (arith, c.requires.1.size, length-map g.contour.now corner_of), same_room e c.requires.2)

pub append_fan_parts-requires : goal.append_fan_parts-requires
append_fan_parts-requires c = let g = c.args in
    let e = split_past g.strategy g.limit g.contour.now c.if-contour-limit.false ∙ ap (λ how. split_by how g.limit (corners_in g.contour.now)) c.in-Fan.is in
    (c.requires.0, c.if-contour-limit.false, omega (arith, c.requires.1.size, length-map g.contour.now corner_of), same_room e c.requires.2)

pub append_centroid_parts-requires : goal.append_centroid_parts-requires
append_centroid_parts-requires c = let g = c.args in
    let e = split_past g.strategy g.limit g.contour.now c.if-contour-limit.false ∙ ap (λ how. split_by how g.limit (corners_in g.contour.now)) c.in-Centroid.is in
    (c.requires.0, c.if-contour-limit.false, c.requires.1, same_room e c.requires.2)

pub returns-in-EarClipping : goal.returns-in-EarClipping
returns-in-EarClipping c = let g = c.args in
    let e = split_past g.strategy g.limit g.contour.now c.if-contour-limit.false ∙ ap (λ how. split_by how g.limit (corners_in g.contour.now)) c.in-EarClipping.is in
    same_parts (sym e) c.append_ear_clipping_parts.ensures

pub returns-in-Fan : goal.returns-in-Fan
returns-in-Fan c = let g = c.args in
    let e = split_past g.strategy g.limit g.contour.now c.if-contour-limit.false ∙ ap (λ how. split_by how g.limit (corners_in g.contour.now)) c.in-Fan.is in
    same_parts (sym e) c.append_fan_parts.ensures

pub returns-in-Centroid : goal.returns-in-Centroid
returns-in-Centroid c = let g = c.args in
    let e = split_past g.strategy g.limit g.contour.now c.if-contour-limit.false ∙ ap (λ how. split_by how g.limit (corners_in g.contour.now)) c.in-Centroid.is in
    same_parts (sym e) c.append_centroid_parts.ensures
