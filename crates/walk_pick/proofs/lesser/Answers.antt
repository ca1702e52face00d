-- `walk_pick::lesser` meets its contract: the code's tests are the definition's. Assumes nothing.
use mathlib.Core.Path.{sym, ◌∙◌, ap}
use Rattle.plane.specs.Plane.{is_greater}
use Rattle.walk_pick.proofs.Picks.{zero_first, zero_second, not_after, after}
use Rattle.walk_pick.proofs.lesser.Goals as goal

pub returns-then-is_zero : goal.returns-then-is_zero
returns-then-is_zero c = (zero_first _ _ (sym c.is_zero.ensures ∙ c.if-is_zero.true), c.requires.0)

pub returns-then-is_zero-2 : goal.returns-then-is_zero-2
returns-then-is_zero-2 c = (zero_second _ _ (sym c.is_zero.ensures ∙ c.if-is_zero.false) (sym c.is_zero-2.ensures ∙ c.if-is_zero-2.true), c.requires.1)

pub returns-in-Less : goal.returns-in-Less
returns-in-Less c = (
  not_after _ _ (sym c.is_zero.ensures ∙ c.if-is_zero.false) (sym c.is_zero-2.ensures ∙ c.if-is_zero-2.false)
      (ap is_greater (sym c.angle_cmp.ensures ∙ c.in-Less.is)),
  c.requires.0,
)

pub returns-in-Equal : goal.returns-in-Equal
returns-in-Equal c = (
  not_after _ _ (sym c.is_zero.ensures ∙ c.if-is_zero.false) (sym c.is_zero-2.ensures ∙ c.if-is_zero-2.false)
      (ap is_greater (sym c.angle_cmp.ensures ∙ c.in-Equal.is)),
  c.requires.0,
)

pub returns-in-Greater : goal.returns-in-Greater
returns-in-Greater c = (
  after _ _ (sym c.is_zero.ensures ∙ c.if-is_zero.false) (sym c.is_zero-2.ensures ∙ c.if-is_zero-2.false)
      (ap is_greater (sym c.angle_cmp.ensures ∙ c.in-Greater.is)),
  c.requires.1,
)
