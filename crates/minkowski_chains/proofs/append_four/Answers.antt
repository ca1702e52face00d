-- `minkowski_chains::append_four` meets its contract: four contours put one after another. Assumes
-- nothing.
use mathlib.Core.Path.{◌≡◌}
use mathlib.Core.List.{[], ◌∷◌}
use Prim.Native.Nat.{ℕ, ◌+◌}
use native.Mathlib.Omega.{arith}
use lib.ListN.{get_or}
use Rattle.pair_walks.specs.Walks.{contours_in}
use Rattle.minkowski_rows.proofs.Pairs.{pairs_one, pairs_then, room_next}
use Rattle.minkowski_chains.proofs.Contours.{put_on, first_room, first_small, work_size, copied_room, copied_put}
use Rattle.minkowski_order.proofs.Order.{place_with}
use Rattle.minkowski_order.proofs.Pairs.{as_fits, as_put, as_work}
use Rattle.minkowski_chains.proofs.append_four.Goals as goal

two : (n : ℕ) → n + 1 + 1 ≡ n + 2
two n = omega arith

three : (n : ℕ) → n + 2 + 1 ≡ n + 3
three n = omega arith

four : (n : ℕ) → n + 3 + 1 ≡ n + 4
four n = omega arith

pub merge_four-r-requires : goal.merge_four-r-requires
merge_four-r-requires c = let g = c.args in
    let all = contours_in g.firsts.now g.points.now g.left g.right in
    let n = g.s.n in
    let f = c.four_next-f.ensures in
    let c0 = get_or all n [] in
    let c1 = get_or all (n + 1) [] in
    let c2 = get_or all (n + 2) [] in
    let c3 = get_or all (n + 3) [] in (
      c.requires.0.buffers,
      record {
        first = as_fits f.first (first_room c.requires.3);
        second = as_fits f.second (as_work f.second g.wb.now c.requires.2.second);
        third = as_fits f.third (as_work f.third g.wc.now c.requires.2.third);
        fourth = as_fits f.fourth (as_work f.fourth g.wd.now c.requires.2.fourth);
      },
    )

pub put_start-requires : goal.put_start-requires
put_start-requires c = let g = c.args in
    let all = contours_in g.firsts.now g.points.now g.left g.right in
    let n = g.s.n in
    let f = c.four_next-f.ensures in
    let c0 = get_or all n [] in
    let c1 = get_or all (n + 1) [] in
    let c2 = get_or all (n + 2) [] in
    let c3 = get_or all (n + 3) [] in
    let m = c.merge_four-r.ensures in
    (omega (arith, c.requires.3.for_starts), first_small c.requires.3 (as_put f.first m.0))

pub append_copied-b-requires : goal.append_copied-b-requires
append_copied-b-requires c = let g = c.args in
    let all = contours_in g.firsts.now g.points.now g.left g.right in
    let n = g.s.n in
    let f = c.four_next-f.ensures in
    let c0 = get_or all n [] in
    let c1 = get_or all (n + 1) [] in
    let c2 = get_or all (n + 2) [] in
    let c3 = get_or all (n + 3) [] in
    let m = c.merge_four-r.ensures in
    let p1 = pairs_one g.starts.now n (omega (arith, c.requires.3.for_starts)) (as_put f.first m.0) c.put_start.ensures in
    (work_size (as_put f.second m.1) (as_work f.second g.wb.now c.requires.2.second), copied_room (as_put f.second m.1) (room_next (c1 ∷ []) (c2 ∷ c3 ∷ []) c.requires.3 p1))

pub append_copied-c-requires : goal.append_copied-c-requires
append_copied-c-requires c = let g = c.args in
    let all = contours_in g.firsts.now g.points.now g.left g.right in
    let n = g.s.n in
    let f = c.four_next-f.ensures in
    let c0 = get_or all n [] in
    let c1 = get_or all (n + 1) [] in
    let c2 = get_or all (n + 2) [] in
    let c3 = get_or all (n + 3) [] in
    let m = c.merge_four-r.ensures in
    let p1 = pairs_one g.starts.now n (omega (arith, c.requires.3.for_starts)) (as_put f.first m.0) c.put_start.ensures in
    let p2 = pairs_then p1 (copied_put (as_put f.second m.1) c.append_copied-b.ensures (two n)) in
    (work_size (as_put f.third m.2) (as_work f.third g.wc.now c.requires.2.third), copied_room (as_put f.third m.2) (room_next (c2 ∷ []) (c3 ∷ []) c.requires.3 p2))

pub append_copied-d-requires : goal.append_copied-d-requires
append_copied-d-requires c = let g = c.args in
    let all = contours_in g.firsts.now g.points.now g.left g.right in
    let n = g.s.n in
    let f = c.four_next-f.ensures in
    let c0 = get_or all n [] in
    let c1 = get_or all (n + 1) [] in
    let c2 = get_or all (n + 2) [] in
    let c3 = get_or all (n + 3) [] in
    let m = c.merge_four-r.ensures in
    let p1 = pairs_one g.starts.now n (omega (arith, c.requires.3.for_starts)) (as_put f.first m.0) c.put_start.ensures in
    let p2 = pairs_then p1 (copied_put (as_put f.second m.1) c.append_copied-b.ensures (two n)) in
    let p3 = pairs_then p2 (copied_put (as_put f.third m.2) c.append_copied-c.ensures (three n)) in
    (work_size (as_put f.fourth m.3) (as_work f.fourth g.wd.now c.requires.2.fourth), copied_room (as_put f.fourth m.3) (room_next (c3 ∷ []) ([]) c.requires.3 p3))

pub returns : goal.returns
returns c = let g = c.args in
    let all = contours_in g.firsts.now g.points.now g.left g.right in
    let n = g.s.n in
    let f = c.four_next-f.ensures in
    let c0 = get_or all n [] in
    let c1 = get_or all (n + 1) [] in
    let c2 = get_or all (n + 2) [] in
    let c3 = get_or all (n + 3) [] in
    let m = c.merge_four-r.ensures in
    let p1 = pairs_one g.starts.now n (omega (arith, c.requires.3.for_starts)) (as_put f.first m.0) c.put_start.ensures in
    let p2 = pairs_then p1 (copied_put (as_put f.second m.1) c.append_copied-b.ensures (two n)) in
    let p3 = pairs_then p2 (copied_put (as_put f.third m.2) c.append_copied-c.ensures (three n)) in
    let p4 = pairs_then p3 (copied_put (as_put f.fourth m.3) c.append_copied-d.ensures (four n)) in
    put_on (place_with f.place) p4
