-- `minkowski_chains::append_fours` meets its contract. The loop's invariant: the contours before
-- the place are put. Assumes nothing.
use mathlib.Core.Path.{refl, ◌∙◌}
use Prim.Native.Nat.{◌+◌, ◌*◌, ◌≤◌, ◌<◌, ◌^◌}
use native.Mathlib.Omega.{arith}
use Rattle.pair_walks.specs.Walks.{contours_in}
use Rattle.minkowski_order.proofs.Pairs.{contours_length}
use Rattle.minkowski_chains.proofs.Contours.{four_piece, to_start, to_more, to_room, to_next, rooms_same}
use Rattle.minkowski_chains.proofs.append_fours.Goals as goal

pub overflow_mul-all : goal.overflow_mul-all
overflow_mul-all c = let g = c.args in
    omega (arith, contours_length c.requires.0.keyed, c.requires.2.for_starts)

pub loop-s-init : goal.loop-s-init
loop-s-init c = let g = c.args in
    (to_start g.left g.right (contours_in g.firsts.now g.points.now g.left g.right) g.starts.now g.out.now, refl, refl, refl)

pub append_four-s-requires : goal.append_four-s-requires
append_four-s-requires c = let g = c.args in
    let all = contours_in g.firsts.now g.points.now g.left g.right in
    let e = contours_length c.requires.0.keyed in
    let l = c.loop-s in
    let w : g.left * g.right < 2 ^ 64 = omega (arith, e, c.requires.2.for_starts) in
    let h : l.s.n + 4 ≤ g.left * g.right = omega (arith, c.loop-s-test.true) in
    let p = four_piece all l.s.n (omega (arith, e, h)) in
    (c.requires.0, to_more e w l.invariant.0 h, rooms_same c.requires.1 l.invariant.1 l.invariant.2 l.invariant.3, to_room e w l.invariant.0 p c.requires.2)

pub loop-s-preserved : goal.loop-s-preserved
loop-s-preserved c = let g = c.args in
    let all = contours_in g.firsts.now g.points.now g.left g.right in
    let e = contours_length c.requires.0.keyed in
    let l = c.loop-s in
    let w : g.left * g.right < 2 ^ 64 = omega (arith, e, c.requires.2.for_starts) in
    let h : l.s.n + 4 ≤ g.left * g.right = omega (arith, c.loop-s-test.true) in
    let p = four_piece all l.s.n (omega (arith, e, h)) in
    (to_next e w l.invariant.0 p h c.append_four-s.ensures, c.wb-1.given ∙ l.invariant.1, c.wc-1.given ∙ l.invariant.2, c.wd-1.given ∙ l.invariant.3)
