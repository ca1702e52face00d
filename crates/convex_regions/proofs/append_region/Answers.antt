-- `convex_regions::append_region` meets its contract: `joined` of Regions. Assumes nothing.
use native.Mathlib.Omega.{arith}
use Rattle.convex_regions.proofs.Regions.{start_room, corners_few, joined}
use Rattle.convex_regions.proofs.append_region.Goals as goal

pub put_start-requires : goal.put_start-requires
put_start-requires c = let g = c.args in
    let e = c.grow-p.ensures in
    (start_room c.requires.3 e, omega (arith, corners_few c.requires.3 e c.append_contour-count.ensures))

pub returns : goal.returns
returns c = let g = c.args in
    joined c.requires.3
    c.grow-p.ensures c.append_contour-count.ensures c.put_start.ensures
