-- `placement::placed_by` meets its contract. The loop's invariant is `ByTurn` of Contours. Assumes
-- nothing.
use mathlib.Core.Path.{◌≡◌, sym, ◌∙◌, subst}
use mathlib.Core.Bool.{Bool, true, false, cond}
use Prim.Native.Nat.{◌<◌}
use native.Mathlib.Omega.{arith}
use lib.ListN.{length}
use Rattle.table.specs.Table.{table_parts}
use Rattle.placement.specs.declared.Contact.{Contact}
use Rattle.placement.specs.declared.Contact.TheVariants.{Apart, Touching}
use Rattle.placement.proofs.Contours.{ByTurn, passed, touched, overlapped, by_end, count_contours}
use Rattle.placement.proofs.placed_by.Goals.{in-Apart, in-Touching}
use Rattle.placement.proofs.placed_by.Goals as goal

-- by whether one touches
by_flag : {t : Bool} {r : Contact} → cond t Touching Apart ≡ r → (t ≡ true → Touching ≡ r) × (t ≡ false → Apart ≡ r)
by_flag e = (λ h. rw h at e, λ h. rw h at e)

pub overflow_sub-parts : goal.overflow_sub-parts
overflow_sub-parts c = omega (arith, (count_contours c.requires.0).1)

pub returns-in-Overlapping : goal.returns-in-Overlapping
returns-in-Overlapping c = overlapped _ _ c.loop-k.invariant (omega (arith, c.loop-k-test.true, (count_contours c.requires.0).0)) (sym c.placed_at.ensures ∙ c.in-Overlapping.is)

pub loop-k-preserved : goal.loop-k-preserved
loop-k-preserved c = let ps = table_parts c.args.starts.now c.args.corners.now in
    let inside : c.loop-k.k < length ps = omega (arith, c.loop-k-test.true, (count_contours c.requires.0).0) in
    elim c.match-placed_at.branch [
      | in-Apart w ↦ subst (ByTurn _ ps _) (sym w.touches-is) (passed _ ps c.loop-k.invariant inside (sym c.placed_at.ensures ∙ w.in-Apart.is))
      | in-Touching w ↦ subst (ByTurn _ ps _) (sym w.touches-is) (touched _ ps c.loop-k.invariant inside (sym c.placed_at.ensures ∙ w.in-Touching.is))
    ]

pub returns-then-touches : goal.returns-then-touches
returns-then-touches c = (by_flag (by_end _ _ c.loop-k.invariant (omega (arith, c.loop-k-test.false, (count_contours c.requires.0).0)))).0 c.if-touches.true

pub returns-else-touches : goal.returns-else-touches
returns-else-touches c = (by_flag (by_end _ _ c.loop-k.invariant (omega (arith, c.loop-k-test.false, (count_contours c.requires.0).0)))).1 c.if-touches.false
