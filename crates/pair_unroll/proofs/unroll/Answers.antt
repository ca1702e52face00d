-- `pair_unroll::unroll` meets its contract: an empty contour, a winding that leaves, and the walk,
-- by Contours. Assumes nothing.
use mathlib.Core.Path.{sym, ◌∙◌}
use borrow.Author.Tests.{eqb-true, eqb-false}
use Rattle.corners.specs.Corners.{points_of}
use Rattle.walk.proofs.Answers.{some_corner}
use Rattle.pair_unroll.proofs.Contours.{told_to, told_leaves, none_unrolled, begun_at, begun_refused, walk_unrolled, walkable}
use Rattle.pair_unroll.proofs.unroll.Goals as goal

pub returns-then-is_empty : goal.returns-then-is_empty
returns-then-is_empty c = let a = c.args in told_to (none_unrolled a.reflected a.contour.now a.points.now a.from (eqb-true _ _ (sym c.is_empty.ensures ∙ c.if-is_empty.true)))

pub returns-in-Refused : goal.returns-in-Refused
returns-in-Refused c =
    let some = eqb-false _ _ (sym c.is_empty.ensures ∙ c.if-is_empty.false) in
    told_leaves (begun_refused c.args.reflected c.args.contour.now c.requires.short c.requires.ranged some (sym c.begin_checked.ensures ∙ c.in-Refused.is))

pub add_walk-requires : goal.add_walk-requires
add_walk-requires c =
    let l = c.args.contour.now in
    let some = eqb-false _ _ (sym c.is_empty.ensures ∙ c.if-is_empty.false) in
    let q = begun_at c.args.reflected l c.requires.short c.requires.ranged some (sym c.begin_checked.ensures ∙ c.in-At.is) in
    walkable c.args.reflected some q.1 c.requires

pub returns-in-At : goal.returns-in-At
returns-in-At c =
    let a = c.args in
    let l = a.contour.now in
    let some = eqb-false _ _ (sym c.is_empty.ensures ∙ c.if-is_empty.false) in
    let q = begun_at a.reflected l c.requires.short c.requires.ranged some (sym c.begin_checked.ensures ∙ c.in-At.is) in
    told_to (record { stays = q.0; appended = walk_unrolled a.reflected (points_of l) (some_corner l c.requires.short some) q.1 c.add_walk.ensures })
