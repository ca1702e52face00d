-- The starred examples hold, by computation. Assumes nothing.
use mathlib.Core.Path.{◌≡◌, refl}
use mathlib.Core.List.{flatten}
use Rattle.integers.specs.Lists.{sumℤ, up_to, rotate, links, neighbours}
use Rattle.integers.specs.Faults.{first_fault}
use Rattle.plane.specs.Plane.{in_range, on_grid, is_zero, lower, by_cross, angle_cmp}
use Rattle.plane.specs.Contour.{last_of, contour_area}
use Rattle.mesh.specs.Mesh.{vertex, neighbour, after, some_from, too_many, off_grid, stray_neighbour, named, misnamed, opposite, runs_oppositely, mismatched, flat, mesh_area, too_large}
use Rattle.convex.specs.Joining.{stacked, start, point_numbered, after_in, before_in, put_after, joins, joined, is_in, step, grow, regions_from, regions, place_of, turning, without_straight, contour_of, parts}
use Rattle.split.specs.Splitting.{shares_from, clipped, fanned, fan_parts, rounded, moment_x, moment_y, centre_of, left_of_all, centre_serves, taking, group_parts, sectors, centred_parts, split_contour, split_parts}
use Rattle.pair.specs.Walk.{below, least_from, greatest_from, least_at, greatest_at, start_at, end_at, winding_terms, winding, begin, next_index, edge_of, advance}
use Rattle.pair.specs.Walk as walk
use Rattle.pair.specs.Pair.{lesser, next_step, belongs, headed, run, pair_step, emit, pair_contour}
use Rattle.examples.specs.Starred.{starred, StarredHold}

pub starred_hold : StarredHold
unfolding starred sumℤ up_to rotate links neighbours first_fault in_range on_grid is_zero lower by_cross angle_cmp last_of contour_area vertex neighbour after some_from too_many off_grid stray_neighbour named misnamed opposite runs_oppositely mismatched flat mesh_area too_large stacked start point_numbered after_in before_in put_after joins joined is_in step grow regions_from regions place_of turning without_straight contour_of parts shares_from clipped fanned fan_parts rounded moment_x moment_y centre_of left_of_all centre_serves taking group_parts sectors centred_parts split_contour split_parts below least_from greatest_from least_at greatest_at start_at end_at winding_terms winding begin next_index walk.point_of edge_of advance lesser next_step belongs headed run pair_step emit pair_contour flatten
starred_hold = (refl, (refl, (refl, (refl, (refl, (refl, (refl, (refl, (refl, (refl, (refl, (refl, (refl, tt)))))))))))))
