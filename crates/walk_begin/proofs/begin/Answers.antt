-- `walk_begin::begin` meets its contract: `begin_7`, `begin_2` of Begins, and what `begin_checked`
-- ensures. Assumes nothing.
use mathlib.Core.Path.{sym, ◌∙◌, subst}
use Rattle.walk.specs.Clauses.{BegunBy}
use Rattle.walk.proofs.Promises.{begun_by}
use Rattle.walk_begin.proofs.Begins.{begin_7, begin_2}
use Rattle.walk_begin.proofs.begin.Goals as goal

pub returns-then-length_broken : goal.returns-then-length_broken
returns-then-length_broken c = let a = c.args in
    subst (BegunBy a.contour.now a.reflected) (sym (begin_7 a.contour.now a.reflected (sym c.length_broken.ensures ∙ c.if-length_broken.true))) (begun_by a.contour.now a.reflected)

pub returns-then-off_range : goal.returns-then-off_range
returns-then-off_range c = let a = c.args in
    subst (BegunBy a.contour.now a.reflected) (sym (begin_2 a.contour.now a.reflected (sym c.length_broken.ensures ∙ c.if-length_broken.false) (sym c.off_range.ensures ∙ c.if-off_range.true))) (begun_by a.contour.now a.reflected)

pub returns : goal.returns
returns c = let a = c.args in
    subst (BegunBy a.contour.now a.reflected) (sym c.begin_checked.ensures) (begun_by a.contour.now a.reflected)
