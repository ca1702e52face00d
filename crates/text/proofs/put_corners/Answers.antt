-- `text::put_corners` meets its contract. The loop's invariant: the first k corners are put.
-- Assumes nothing.
use mathlib.Core.Path.{refl, subst}
use Prim.Native.Nat.{◌<◌}
use native.Mathlib.Omega.{arith}
use Rattle.text.proofs.Corners.{corner_room, corner_put, corners_start}
use Rattle.corners.specs.Corners.{points_of}
use Rattle.text.proofs.put_corners.Goals as goal

pub loop-k-init : goal.loop-k-init
loop-k-init c = (refl, corners_start (points_of c.args.corners.now) c.args.out.now (omega arith))

pub put_corner-after-requires : goal.put_corner-after-requires
put_corner-after-requires c = let l = c.loop-k in
    let s = points_of c.args.corners.now in
    omega (arith, corner_room s (subst (λ n. l.k < n) c.corner_count-k-end.ensures c.loop-k-test.true) c.corner_at-p.ensures, l.invariant.1.after)

pub loop-k-preserved : goal.loop-k-preserved
loop-k-preserved c = let l = c.loop-k in
    let s = points_of c.args.corners.now in
    let here = subst (λ n. l.k < n) c.corner_count-k-end.ensures c.loop-k-test.true in
    (omega arith, corner_put s here c.corner_at-p.ensures (omega arith) l.invariant.1 c.put_corner-after.ensures)
