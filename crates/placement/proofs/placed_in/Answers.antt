-- `placement::placed_in` meets its contract. The loop's invariant is `InTurn` of Contour. Assumes
-- nothing.
use mathlib.Core.Path.{◌≡◌, sym, ◌∙◌, subst}
use mathlib.Core.Bool.{Bool, true, false, cond}
use mathlib.Core.Logic.{◌⊎◌, inl, inr, ⊎_elim}
use Prim.Native.Nat.{◌<◌, ◌-◌}
use native.Mathlib.Omega.{arith}
use lib.ListN.{length}
use mir.Syntax.{w64}
use Rattle.integers.proofs.Bits.{got}
use Rattle.plane.specs.Machine.{point}
use Rattle.corners.specs.Corners.{points_of}
use Rattle.placement.specs.declared.Contact.{Contact}
use Rattle.placement.specs.declared.Contact.TheVariants.{Apart, Touching}
use Rattle.placement.proofs.Contour.{InTurn, empty_apart, turn_start, in_turn, turned_out, turned_strictly, turned}
use Rattle.placement.proofs.placed_in.Goals.{else-strict-via-then-strict+else-left, else-strict-via-else-strict}
use Rattle.placement.proofs.placed_in.Goals as goal

-- touching or not, by the corners
by_corners : {t : Bool} {r : Contact} → cond t Touching Apart ≡ r → (t ≡ true → Touching ≡ r) × (t ≡ false → Apart ≡ r)
by_corners e = (λ h. rw h at e, λ h. rw h at e)

-- not both, by the way that control came
not_strictly : {strict left : Bool} → ((strict ≡ true) × (left ≡ false)) ⊎ (strict ≡ false) → cond strict left false ≡ false
not_strictly h = ⊎_elim (λ p. rw (p.0, p.1)) (λ p. rw p) h

pub returns-then-n-eq0 : goal.returns-then-n-eq0
returns-then-n-eq0 c = empty_apart _ _ (omega (arith, c.if-n-eq0.true, c.corner_count-n.ensures))

pub loop-k-init : goal.loop-k-init
loop-k-init c = let l = points_of c.args.contour.now in
    let e = c.corner_count-n.ensures in
    let some : length l ≡ 0 → ⊥ = λ z. c.if-n-eq0.false (e ∙ z) in
    (omega (arith, e, c.if-n-eq0.false), subst (λ m. InTurn (point c.args.z) l (m - 1) 0 true false) (sym e) (turn_start _ l some))

pub returns-then-s-lt0 : goal.returns-then-s-lt0
returns-then-s-lt0 c = turned_out _ _ c.loop-k.invariant.1 (omega (arith, c.loop-k-test.true, c.corner_count-n.ensures)) (got w64 _ c.side_at-s.type_inv ∙ c.side_at-s.ensures.0) c.if-s-lt0.true

pub loop-k-preserved : goal.loop-k-preserved
loop-k-preserved c = let inside : c.loop-k.k < length (points_of c.args.contour.now) = omega (arith, c.loop-k-test.true, c.corner_count-n.ensures) in
    let s = got w64 _ c.side_at-s.type_inv in
    (inside, in_turn _ _ c.loop-k.invariant.1 inside (s ∙ c.side_at-s.ensures.0) c.if-s-lt0.false c.and_left-strict.ensures c.or_above-left.ensures)

pub returns-then-left : goal.returns-then-left
returns-then-left c = turned_strictly _ _ c.loop-k.invariant.1 (omega (arith, c.loop-k-test.false, c.corner_count-n.ensures)) c.if-strict.true c.if-left.true

pub returns-then-is_among : goal.returns-then-is_among
returns-then-is_among c = (by_corners (turned _ _ c.loop-k.invariant.1 (omega (arith, c.loop-k-test.false, c.corner_count-n.ensures)) (not_strictly (elim c.else-strict.branch [ else-strict-via-then-strict+else-left w ↦ inl (w.if-strict.true, w.if-left.false) | else-strict-via-else-strict w ↦ inr w.if-strict.false ])))).0
    (sym c.is_among.ensures ∙ c.if-is_among.true)

pub returns-else-is_among : goal.returns-else-is_among
returns-else-is_among c = (by_corners (turned _ _ c.loop-k.invariant.1 (omega (arith, c.loop-k-test.false, c.corner_count-n.ensures)) (not_strictly (elim c.else-strict.branch [ else-strict-via-then-strict+else-left w ↦ inl (w.if-strict.true, w.if-left.false) | else-strict-via-else-strict w ↦ inr w.if-strict.false ])))).1
    (sym c.is_among.ensures ∙ c.if-is_among.false)
