-- `walk_merge::belongs` meets its contract: the code's tests are the definition's. Assumes nothing.
use mathlib.Core.Path.{sym, ◌∙◌, ap}
use Rattle.plane.specs.Plane.{is_equal}
use Rattle.plane.specs.Machine.{vector}
use Rattle.walk_merge.proofs.Runs.{fresh_belongs, zero_belongs, by_direction}
use Rattle.walk_merge.proofs.belongs.Goals as goal

pub returns-in_default : goal.returns-in_default
returns-in_default c = rw c.in_default.is (fresh_belongs (vector c.args.e))

pub returns-then-is_zero : goal.returns-then-is_zero
returns-then-is_zero c = rw c.in-Some.is (zero_belongs c.in-Some.begun (vector c.args.e) (sym c.is_zero.ensures ∙ c.if-is_zero.true))

pub returns-in-Equal : goal.returns-in-Equal
returns-in-Equal c = rw c.in-Some.is
    (by_direction c.in-Some.begun (vector c.args.e) (sym c.is_zero.ensures ∙ c.if-is_zero.false) (ap is_equal (sym c.angle_cmp.ensures ∙ c.in-Equal.is)))

pub returns-in-Less : goal.returns-in-Less
returns-in-Less c = rw c.in-Some.is
    (by_direction c.in-Some.begun (vector c.args.e) (sym c.is_zero.ensures ∙ c.if-is_zero.false) (ap is_equal (sym c.angle_cmp.ensures ∙ c.in-Less.is)))

pub returns-in-Greater : goal.returns-in-Greater
returns-in-Greater c = rw c.in-Some.is
    (by_direction c.in-Some.begun (vector c.args.e) (sym c.is_zero.ensures ∙ c.if-is_zero.false) (ap is_equal (sym c.angle_cmp.ensures ∙ c.in-Greater.is)))
