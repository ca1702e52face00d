-- `path::told` meets its contract: the code's tests are the definition's, in its order. Assumes
-- nothing.
use mathlib.Core.Path.{◌∙◌, sym, ap}
use mathlib.Core.Bool.{not}
use borrow.Author.Tests.{eq-eqb, ne_eqb}
use Rattle.corners.proofs.Corners.{length_points}
use Rattle.path.proofs.Tests.{both_hold, first_fails, first_holds, told_path, told_long, told_off, told_narrow, told_none}
use Rattle.path.proofs.told.Goals as goal

pub returns-then-not-framed : goal.returns-then-not-framed
returns-then-not-framed c = c.refusal.ensures ∙ told_path _ _ _ _ (first_fails _ c.framed.ensures c.if-not-framed.true)

pub returns-then-not-is_closed : goal.returns-then-not-is_closed
returns-then-not-is_closed c = c.refusal-then-not-is_closed.ensures ∙ told_path _ _ _ _ (first_holds c.framed.ensures c.if-not-framed.false (first_fails _ c.is_closed.ensures c.if-not-is_closed.true))

pub returns-then-items-eq0 : goal.returns-then-items-eq0
returns-then-items-eq0 c = c.refusal-then-items-eq0.ensures
    ∙ told_path _ _ _ _ (first_holds c.framed.ensures c.if-not-framed.false (first_holds c.is_closed.ensures c.if-not-is_closed.false (sym (ap not (eq-eqb _ 0 c.if-items-eq0.true)))))

pub returns-then-count-gt-MAX_CONTOUR : goal.returns-then-count-gt-MAX_CONTOUR
returns-then-count-gt-MAX_CONTOUR c = let p = both_hold c.framed.ensures c.if-not-framed.false (both_hold c.is_closed.ensures c.if-not-is_closed.false (sym (ap not (ne_eqb _ 0 c.if-items-eq0.false)))) in
    c.refusal-then-count-gt-MAX_CONTOUR.ensures ∙ told_long _ _ _ _ p c.if-count-gt-MAX_CONTOUR.true

pub returns-then-judged : goal.returns-then-judged
returns-then-judged c = let p = both_hold c.framed.ensures c.if-not-framed.false (both_hold c.is_closed.ensures c.if-not-is_closed.false (sym (ap not (ne_eqb _ 0 c.if-items-eq0.false)))) in
    c.refusal-then-judged.ensures ∙ told_off _ _ _ _ p c.if-count-gt-MAX_CONTOUR.false c.if-judged.true

pub returns-then-corner_count-count : goal.returns-then-corner_count-count
returns-then-corner_count-count c = let p = both_hold c.framed.ensures c.if-not-framed.false (both_hold c.is_closed.ensures c.if-not-is_closed.false (sym (ap not (ne_eqb _ 0 c.if-items-eq0.false)))) in
    c.refusal-then-corner_count-count.ensures ∙ told_narrow _ _ _ _ p c.if-count-gt-MAX_CONTOUR.false (c.corner_count.ensures ∙ length_points _) c.if-judged.false c.if-corner_count-count.true

pub returns : goal.returns
returns c = let p = both_hold c.framed.ensures c.if-not-framed.false (both_hold c.is_closed.ensures c.if-not-is_closed.false (sym (ap not (ne_eqb _ 0 c.if-items-eq0.false)))) in
    told_none _ _ _ _ p c.if-count-gt-MAX_CONTOUR.false (c.corner_count.ensures ∙ length_points _) c.if-judged.false c.if-corner_count-count.false
