-- `split_contour::append_whole` meets its contract: the contour is one run of its corners. Assumes
-- nothing.
use mathlib.Core.List.{[], flatten}
use native.Mathlib.Omega.{arith}
use lib.ListN.{length-append, length-map}
use Rattle.points.specs.Points.{corner_of, corners_in}
use Rattle.split_chords.proofs.Appending.{part_ended}
use Rattle.split_contour.proofs.Contour.{whole_run}
use Rattle.split_contour.proofs.append_whole.Goals as goal

pub append_run-count-requires : goal.append_run-count-requires
unfolding flatten
append_run-count-requires c = let k = c.args.contour.now in
    (omega arith, omega (arith, c.requires.for_points, length-append (corners_in k) [], length-map k corner_of))

pub returns : goal.returns
returns c = let g = c.args in
    let k = g.contour.now in
    let a = whole_run k c.append_run-count.ensures in
    part_ended c.requires a c.end_part.ensures
