-- `placement::is_among` meets its contract. The loop's invariant is `AmongTurn` of Contour. Assumes
-- nothing.
use native.Mathlib.Omega.{arith}
use borrow.Author.Rules.{rules}
use mathlib.Core.Path.{◌≡◌, sym, ◌∙◌}
use mathlib.Core.Logic.{◌⊎◌, inl, inr}
use mathlib.Core.Bool.{Bool, true, false, cond}
use Rattle.placement.proofs.Contour.{among_turn, among_end}
use Rattle.placement.proofs.is_among.Goals as goal

-- the answer by the flags in turn
all_four : {b : Bool} {r f a t : Bool} → r ≡ true × f ≡ true × a ≡ true → t ≡ cond r (cond f (cond a b false) false) false → b ≡ t
all_four p e = sym (rw (p.0, p.1, p.2) at e)

not_three : (b : Bool) {r f a t n : Bool} → (r ≡ true × f ≡ true × a ≡ false) ⊎ ((r ≡ true × f ≡ false) ⊎ (r ≡ false)) → t ≡ cond r (cond f (cond a b false) false) false → n ≡ false → n ≡ t
not_three b (inl p) e n = n ∙ sym (rw (p.0, p.1, p.2) at e)
not_three b (inr (inl p)) e n = n ∙ sym (rw (p.0, p.1) at e)
not_three b (inr (inr p)) e n = n ∙ sym (rw p at e)

pub loop-k-preserved : goal.loop-k-preserved
loop-k-preserved c = among_turn _ _ c.loop-k.invariant (omega (arith, c.loop-k-test.true, c.corner_count-k-end.ensures)) c.corner_at-c.ensures c.or_not_right-right.ensures c.or_not_right-left.ensures c.or_not_above-above.ensures c.or_not_above-below.ensures

pub returns-then-above : goal.returns-then-above
returns-then-above c = all_four c.if-above.true (among_end _ _ c.loop-k.invariant (omega (arith, c.loop-k-test.false, c.corner_count-k-end.ensures)))

pub returns-else-above : goal.returns-else-above
returns-else-above c = not_three _ c.if-above.either (among_end _ _ c.loop-k.invariant (omega (arith, c.loop-k-test.false, c.corner_count-k-end.ensures))) (search rules)
