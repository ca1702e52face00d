-- `walk_begin::begin_checked` meets its contract: `begin_20`, `begin_8`, `begin_at` of Begins.
-- Assumes nothing.
use mathlib.Core.Path.{sym, ◌∙◌, ap}
use borrow.Author.Tests.{eqb-true, eqb-false}
use mir.Syntax.{w64}
use Rattle.integers.proofs.Bits.{kept}
use Rattle.corners.specs.Corners.{points_of}
use Rattle.walk.specs.declared.Begun.TheVariants.{At}
use Rattle.walk.proofs.Answers.{some_corner}
use Rattle.walk_begin.proofs.Begins.{begin_8, begin_20, begin_at, start_below, leaves_by, total_by, place_is}
use borrow.Author.Rules.{rules}
use Rattle.walk_begin.proofs.begin_checked.Goals as goal

pub returns-then-is_empty : goal.returns-then-is_empty
returns-then-is_empty c = begin_20 c.args.contour.now c.args.reflected c.requires.0 c.requires.1 (eqb-true _ _ (sym c.is_empty.ensures ∙ c.if-is_empty.true))

pub winding-requires : goal.winding-requires
winding-requires c = let l = c.args.contour.now in
    (c.requires.1, start_below _ (points_of l) c.start_at-s.ensures (some_corner l c.requires.0 (eqb-false _ _ (sym c.is_empty.ensures ∙ c.if-is_empty.false))))

pub returns-in_default : goal.returns-in_default
returns-in_default c = let l = c.args.contour.now in
    let reflected = c.args.reflected in
    begin_8 l reflected c.requires.0 c.requires.1 (leaves_by reflected (points_of l) c.start_at-s.ensures (sym c.winding.ensures ∙ c.in_default.is))

pub place_by-requires : goal.place_by-requires
place_by-requires c = let l = c.args.contour.now in
    (c.requires.0, start_below _ (points_of l) c.start_at-s.ensures (some_corner l c.requires.0 (eqb-false _ _ (sym c.is_empty.ensures ∙ c.if-is_empty.false))))

pub returns : goal.returns
returns c = let l = c.args.contour.now in
    let reflected = c.args.reflected in
    let e = c.start_at-s.ensures in
    let q = total_by reflected (points_of l) e (sym c.winding.ensures ∙ c.in-Some.is) in
    ap At (c.place_by.ensures ∙ place_is reflected (points_of l) e (kept {w = w64} (search rules) ∙ q.1)) ∙ begin_at l reflected c.requires.0 c.requires.1 q.0 (eqb-false _ _ (sym c.is_empty.ensures ∙ c.if-is_empty.false))
