-- `minkowski_chains::append_used` meets its contract. The loop's invariant: as much more is put as
-- the place has gone on. Assumes nothing.
use Prim.Native.Nat.{◌+◌, ◌*◌, ◌≤◌, ◌<◌, ◌^◌}
use native.Mathlib.Omega.{arith}
use Rattle.pair_walks.specs.Walks.{contours_in}
use Rattle.minkowski_order.proofs.Pairs.{contours_length}
use Rattle.minkowski_chains.proofs.Contours.{one_piece, to_more, to_room, to_next, to_end, room_started}
use Rattle.minkowski_chains.proofs.append_used.Goals as goal

pub overflow_mul-all : goal.overflow_mul-all
overflow_mul-all c = omega (arith, contours_length c.requires.0.keyed, c.requires.2.for_starts)

pub append_next-s-requires : goal.append_next-s-requires
append_next-s-requires c = let g = c.args in
    let all = contours_in g.firsts.now g.points.now g.left g.right in
    let e = contours_length c.requires.0.keyed in
    let l = c.loop-s in
    let z = c.put_start.ensures in
    let a = l.invariant.to c.append_fours-s.ensures in
    let w : g.left * g.right < 2 ^ 64 = omega (arith, e, c.requires.2.for_starts) in
    let h : l.s.n + 1 ≤ g.left * g.right = omega (arith, c.loop-s-test.true) in
    let p = one_piece {ps = all} {n = l.s.n} (omega (arith, e, h)) in
    (c.requires.0, to_more e w a h, to_room e w a p (room_started z c.requires.2))

pub loop-s-preserved : goal.loop-s-preserved
loop-s-preserved c = let g = c.args in
    let all = contours_in g.firsts.now g.points.now g.left g.right in
    let e = contours_length c.requires.0.keyed in
    let l = c.loop-s in
    let w : g.left * g.right < 2 ^ 64 = omega (arith, e, c.requires.2.for_starts) in
    let h : l.s.n + 1 ≤ g.left * g.right = omega (arith, c.loop-s-test.true) in
    record { to = λ o. to_next e w (l.invariant.to o) (one_piece (omega (arith, e, h))) h c.append_next-s.ensures }

pub returns : goal.returns
returns c = let g = c.args in
    let all = contours_in g.firsts.now g.points.now g.left g.right in
    let e = contours_length c.requires.0.keyed in
    let l = c.loop-s in
    let z = c.put_start.ensures in
    let a = l.invariant.to c.append_fours-s.ensures in
    let w : g.left * g.right < 2 ^ 64 = omega (arith, e, c.requires.2.for_starts) in
    to_end e w a (omega (arith, c.loop-s-test.false)) (omega (arith, c.requires.2.for_starts)) z
