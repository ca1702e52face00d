-- `walk_extremes::extreme_at` meets its contract. The loop's invariant: the search goes on from the
-- best corner so far. Assumes nothing.
use mathlib.Core.Bool.{not}
use mathlib.Core.Path.{sym, ◌∙◌}
use lib.Dec.{eqb}
use native.Mathlib.Omega.{arith}
use borrow.Author.Rules.{rules}
use Rattle.corners.specs.Corners.{points_of}
use Rattle.pair.specs.Walk.{corner_at, below}
use Rattle.walk_extremes.proofs.Searches.{extreme_begins, extreme_turn, extreme_ends, better_inside}
use Rattle.walk_extremes.proofs.extreme_at.Goals as goal

pub loop-i-init : goal.loop-i-init
loop-i-init g c = (search rules, extreme_begins (not (eqb g.row.GREATEST 0)) _)

pub loop-i-preserved : goal.loop-i-preserved
loop-i-preserved g c = let l = points_of c.args.contour.now in
    let greatest = not (eqb g.row.GREATEST 0) in (
      better_inside greatest (below (corner_at l c.loop-i.i) (corner_at l c.loop-i.best)) c.better_of-best.ensures (omega arith) (omega arith),
      c.loop-i.invariant.1 ∙ extreme_turn greatest l c.loop-i.best (omega (arith, c.corner_count-i-end.ensures)) c.better_of-best.ensures,
    )

pub returns : goal.returns
returns g c = sym (c.loop-i.invariant.1 ∙ extreme_ends (not (eqb g.row.GREATEST 0)) (points_of c.args.contour.now) c.loop-i.best (omega (arith, c.corner_count-i-end.ensures)))
