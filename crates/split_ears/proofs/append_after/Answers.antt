-- `split_ears::append_after` meets its contract: the first k corners are appended. Assumes nothing.
use mathlib.Core.Path.{sym, ◌∙◌, ap}
use native.Mathlib.Omega.{arith}
use lib.ListN.{get_or}
use Rattle.split_ears.proofs.Ringing.{stepped_none, stepped_more, after_none, after_turn}
use Rattle.split_ears.proofs.append_after.Goals as goal

pub loop-k-init : goal.loop-k-init
loop-k-init c = let g = c.args in
    (sym (stepped_none g.ring.now g.start), c.requires.0, after_none g.contour.now g.ring.now g.start g.points.now g.count)

pub loop-k-preserved : goal.loop-k-preserved
loop-k-preserved c = let l = c.loop-k in
    let g = c.args in
    let f = c.next_of-end.ensures in
    let e = f ∙ ap (λ i. get_or g.ring.now i 0) l.invariant.0 ∙ sym (stepped_more g.ring.now g.start l.k) in
    (e, omega (arith, f, c.requires.1.below l.end l.invariant.1), after_turn g.contour.now g.ring.now g.start l.k e l.invariant.2 c.append_point.ensures)
