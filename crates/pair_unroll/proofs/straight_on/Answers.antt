-- `pair_unroll::straight_on` meets its contract: the order of the two edges. Assumes nothing.
use mathlib.Core.Path.{◌≡◌, sym, ◌∙◌, ap, ap₂}
use mathlib.Core.Bool.{false}
use mathlib.Core.Logic.{◌⊎◌, inl, inr}
use Rattle.std.specs.declared.cmp.Ordering.{Ordering}
use Rattle.std.specs.declared.cmp.Ordering.TheVariants.{Less, Greater}
use Rattle.plane.specs.Plane.{angle_cmp, is_equal}
use Rattle.pair_unroll.specs.Unroll.{straight_on}
use Rattle.pair_unroll.proofs.straight_on.Goals as goal

unequal : {r : Ordering} → (r ≡ Less) ⊎ (r ≡ Greater) → false ≡ is_equal r
unequal (inl e) = ap is_equal (sym e)
unequal (inr e) = ap is_equal (sym e)

pub returns-in-Less : goal.returns-in-Less
unfolding straight_on
returns-in-Less c = unequal c.in-Less.is ∙ ap is_equal c.angle_cmp.ensures ∙ ap₂ (λ u v. is_equal (angle_cmp u v)) c.subtract.ensures.0 c.subtract-2.ensures.0

pub returns-in-Equal : goal.returns-in-Equal
unfolding straight_on
returns-in-Equal c = ap is_equal (sym c.in-Equal.is ∙ c.angle_cmp.ensures) ∙ ap₂ (λ u v. is_equal (angle_cmp u v)) c.subtract.ensures.0 c.subtract-2.ensures.0
