-- `minkowski_faults::bounds_off` meets its contract: the two bounds of x, then those of y. Assumes
-- nothing.
use mathlib.Core.Path.{◌≡◌, sym, ◌∙◌}
use mathlib.Core.Bool.{Bool}
use mathlib.Core.List.{[], ◌∷◌}
use borrow.Author.Rules.{rules}
use mir.Syntax.{w32}
use mir.Val.{SFits}
use lib.IntN.{ℤ}
use Rattle.integers.proofs.Bits.{kept}
use Rattle.corners.specs.Corners.{off_range}
use Rattle.minkowski_faults.proofs.Range.{held, off_append_in, off_append_out}
use Rattle.minkowski_faults.proofs.bounds_off.Goals as goal

both : {a b : ℤ} {r : Bool} → SFits w32 a → SFits w32 b → r ≡ off_range (held a ∷ held b ∷ []) → off_range (a ∷ b ∷ []) ≡ r
both f g e = sym (e ∙ (λ i. off_range (kept f i ∷ kept g i ∷ [])))

pub returns-then-either_off : goal.returns-then-either_off
returns-then-either_off c = let b = c.args.b in
    c.if-either_off.true ∙ sym (off_append_out (b.min_x ∷ b.max_x ∷ []) (b.min_y ∷ b.max_y ∷ []) (both (search rules) (search rules) c.either_off.ensures ∙ c.if-either_off.true))

pub returns-else-either_off : goal.returns-else-either_off
returns-else-either_off c = let b = c.args.b in
    sym (off_append_in (b.min_x ∷ b.max_x ∷ []) (b.min_y ∷ b.max_y ∷ []) (both (search rules) (search rules) c.either_off.ensures ∙ c.if-either_off.false)
    ∙ both (search rules) (search rules) c.either_off-else-either_off.ensures)
