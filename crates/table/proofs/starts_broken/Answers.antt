-- `table::starts_broken` meets its contract. The loop's invariant: the answer for all starts is
-- that for those still to come, after `last`. Assumes nothing.
use mathlib.Core.Path.{◌≡◌, refl, sym, ◌∙◌, ap}
use mathlib.Core.List.{List}
use Prim.Native.Nat.{ℕ, ◌-◌}
use native.Mathlib.Omega.{arith}
use lib.ListN.{length, take, drop, length-drop}
use Rattle.std.proofs.Common.{take_all}
use Rattle.table.specs.Table.{steps_broken}
use Rattle.table.proofs.Rules.{no_starts, not_from_0, steps_begin, step_broken, step_passed, steps_end}
use Rattle.table.proofs.starts_broken.Goals as goal

-- the starts after the first, as the pattern gives them
rest_is : (s : List ℕ) → take (length s - 1) (drop 1 s) ≡ drop 1 s
rest_is s = take_all (length s - 1) (drop 1 s) (omega (arith, length-drop 1 s))

pub returns-in_default : goal.returns-in_default
returns-in_default c = sym (no_starts _ _ c.args.starts.now (omega (arith, c.in_default.len_below)))

pub returns-then-first-ne0 : goal.returns-then-first-ne0
returns-then-first-ne0 c = sym (not_from_0 _ _ c.args.starts.now c.if-first-ne0.true)

pub loop-start-init : goal.loop-start-init
loop-start-init c = let s = c.args.starts.now in
    steps_begin c.args.limit c.args.count s (λ e. omega (arith, e, c.in-len1-up.len_at_least)) c.if-first-ne0.false
    ∙ ap (steps_broken c.args.limit c.args.count 0) (sym (rest_is s))

pub returns-then-step_broken : goal.returns-then-step_broken
returns-then-step_broken c = sym (c.loop-start.invariant ∙ step_broken _ _ _ _ c.loop-start-test.true refl c.step_broken.ensures c.if-step_broken.true)

pub loop-start-preserved : goal.loop-start-preserved
loop-start-preserved c = c.loop-start.invariant ∙ step_passed _ _ _ _ c.loop-start-test.true refl c.step_broken.ensures c.if-step_broken.false

pub returns : goal.returns
returns c = sym (c.loop-start.invariant ∙ steps_end _ _ _ _ c.loop-start-test.false)
