-- `plane::on_grid` meets its contract: `in_range` of each coordinate. Assumes nothing.
use mathlib.Core.Path.{◌≡◌, sym, ◌∙◌, ap}
use mathlib.Core.Bool.{Bool, true, false}
use borrow.Author.Rules.{rules}
use mir.Syntax.{w32}
use mir.Val.{SFits, to_z, of_z}
use Rattle.integers.proofs.Bits.{kept}
use Rattle.plane.specs.Plane.{Pt, in_range, on_grid}
use Rattle.plane.proofs.on_grid.Goals as goal

module _ {p : Pt} (f : SFits w32 p.x) (g : SFits w32 p.y) where
  in_both : {r s : Bool} → r ≡ true → r ≡ in_range (to_z w32 (of_z w32 p.x)) → s ≡ in_range (to_z w32 (of_z w32 p.y)) → s ≡ on_grid p
  unfolding on_grid
  in_both h e k = k ∙ rw (ap in_range (sym (kept f)) ∙ sym e ∙ h, kept g)

  not_first : {r : Bool} → r ≡ false → r ≡ in_range (to_z w32 (of_z w32 p.x)) → r ≡ on_grid p
  unfolding on_grid
  not_first h e = h ∙ rw (ap in_range (sym (kept f)) ∙ sym e ∙ h)

pub returns-then-in_range : goal.returns-then-in_range
returns-then-in_range c = in_both (search rules) (search rules) c.if-in_range.true c.in_range.ensures c.in_range-then-in_range.ensures

pub returns-else-in_range : goal.returns-else-in_range
returns-else-in_range c = not_first (search rules) (search rules) c.if-in_range.false c.in_range.ensures
