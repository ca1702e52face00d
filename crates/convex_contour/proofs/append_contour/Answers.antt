-- `convex_contour::append_contour` meets its contract: the two runs are one round (`ran_whole` of
-- Contours). Assumes nothing.
use native.Mathlib.Omega.{arith}
use Rattle.convex_contour.proofs.Contours.{before_below, near_room, ran_whole}
use Rattle.convex_contour.proofs.append_contour.Goals as goal

pub point_at-a-requires : goal.point_at-a-requires
point_at-a-requires c = let g = c.args in
    (omega (arith, before_below c.requires.0 c.place_before.ensures), c.requires.0.grid)

pub append_run-u-requires : goal.append_run-u-requires
append_run-u-requires c = let g = c.args in
    let w = c.requires.0 in
    record {
      ordered = omega (arith, w.placed);
      within = omega (arith, w.ended);
      grid = w.grid;
      room = omega (arith, near_room w c.append_run-t.ensures c.requires.1);
      corner_on = c.append_run-t.ensures.corner_on;
      way_short = c.append_run-t.ensures.way_short;
    }

pub returns : goal.returns
returns c = let g = c.args in
    ran_whole c.requires.0 c.append_run-t.ensures c.place_before.ensures c.point_at-a.ensures.0 c.point_at-b.ensures.0 c.subtract.ensures.0 c.append_run-u.ensures
