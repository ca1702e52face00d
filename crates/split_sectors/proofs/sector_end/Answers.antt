-- `split_sectors::sector_end` meets its contract: the part reaches corner end, and ends where it
-- would from there. Assumes nothing.
use mathlib.Core.Path.{sym, ◌∙◌}
use Rattle.plane.specs.Machine.{point}
use Rattle.split_sectors.specs.Arcs.{closed_of}
use Rattle.split_sectors.proofs.Arcing.{closed_near, length_closed}
use Rattle.split_sectors.proofs.Turns.{taking_start, taking_more, taking_stop, taking_none}
use native.Mathlib.Omega.{arith}
use Rattle.split_sectors.proofs.sector_end.Goals as goal

pub loop-end-init : goal.loop-end-init
loop-end-init c = let g = c.args in
    (omega (arith, c.requires.0), taking_start (point g.centre) (closed_of g.contour.now) g.target g.start (c.point_at-a.ensures.0 ∙ sym (closed_near g.contour.now {i = g.start} (omega (arith, c.requires.0, c.requires.1)))))

pub loop-end-preserved : goal.loop-end-preserved
loop-end-preserved c = let g = c.args in
    let l = c.loop-end in
    let h = c.loop-end-test.true in (
      omega (arith, h),
      taking_more (point g.centre) (closed_of g.contour.now) g.target (point c.point_at-a.result) l.end h
          (omega (arith, h, c.requires.1, length_closed g.contour.now)) c.corner_round.ensures.0
          (sym c.turns_left.ensures ∙ c.if-turns_left.true)
          ∙ l.invariant.1,
    )

pub returns-else-turns_left : goal.returns-else-turns_left
returns-else-turns_left c = let g = c.args in
    let l = c.loop-end in
    let h = c.loop-end-test.true in
    taking_stop (point g.centre) (closed_of g.contour.now) g.target (point c.point_at-a.result) l.end h (omega (arith, h, c.requires.1, length_closed g.contour.now)) c.corner_round.ensures.0 (sym c.turns_left.ensures ∙ c.if-turns_left.false) ∙ l.invariant.1

pub returns-after-loop-end : goal.returns-after-loop-end
returns-after-loop-end c = let g = c.args in
    taking_none (point g.centre) (closed_of g.contour.now) g.target (point c.point_at-a.result) c.loop-end.end c.loop-end-test.false ∙ c.loop-end.invariant.1
