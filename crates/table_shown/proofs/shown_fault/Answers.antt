-- `table_shown::shown_fault` meets its contract: the code's tests are the definition's, in its
-- order. Assumes nothing.
use mathlib.Core.Path.{◌≡◌, sym, ◌∙◌}
use mathlib.Core.Bool.{Bool, cond}
use mathlib.Core.List.{List}
use Prim.Native.Nat.{ℕ}
use native.Mathlib.Omega.{arith}
use Rattle.table.proofs.Rules.{sound}
use Rattle.table.proofs.Shown.{left_broken, right_broken, past, shown}
use Rattle.table_shown.proofs.shown_fault.Goals as goal
use Rattle.table_shown.proofs.shown_fault.Goals.{then-rules_broken-via-then-rules_broken, then-rules_broken-via-else-rules_broken+then-rules_broken-2}

-- the starts that are asked for, by the flag
asked : {right t : Bool} (rs ls : List ℕ) → right ≡ t → cond right rs ls ≡ cond t rs ls
asked rs ls e = rw e

pub returns-then-rules_broken : goal.returns-then-rules_broken
returns-then-rules_broken c = elim c.then-rules_broken.branch [
  | then-rules_broken-via-then-rules_broken w ↦ sym (left_broken _ _ _ _ _ _ (sym c.rules_broken.ensures ∙ w.if-rules_broken.true))
  | then-rules_broken-via-else-rules_broken+then-rules_broken-2 w ↦ sym (right_broken _ _ _ _ _ _ (sym c.rules_broken.ensures ∙ w.if-rules_broken.false) (sym w.rules_broken-else-rules_broken.ensures ∙ w.if-rules_broken-2.true))
]

pub overflow_sub-right_starts : goal.overflow_sub-right_starts
overflow_sub-right_starts c = let t = sound _ _ (sym c.rules_broken-else-rules_broken.ensures ∙ c.if-rules_broken-2.false) in omega arith

pub returns-then-right_starts-k : goal.returns-then-right_starts-k
returns-then-right_starts-k c = sym (past _ _ _ _ _ _ (asked _ _ c.if-right.true) (sym c.rules_broken.ensures ∙ c.if-rules_broken.false) (sym c.rules_broken-else-rules_broken.ensures ∙ c.if-rules_broken-2.false) (omega (arith, c.if-right_starts-k.true)))

pub returns-then-right : goal.returns-then-right
returns-then-right c = sym (shown _ _ _ _ _ _ (asked _ _ c.if-right.true) (sym c.rules_broken.ensures ∙ c.if-rules_broken.false) (sym c.rules_broken-else-rules_broken.ensures ∙ c.if-rules_broken-2.false) c.if-right_starts-k.false)

pub overflow_sub-left_starts : goal.overflow_sub-left_starts
overflow_sub-left_starts c = let t = sound _ _ (sym c.rules_broken.ensures ∙ c.if-rules_broken.false) in omega arith

pub returns-then-left_starts-k : goal.returns-then-left_starts-k
returns-then-left_starts-k c = sym (past _ _ _ _ _ _ (asked _ _ c.if-right.false) (sym c.rules_broken.ensures ∙ c.if-rules_broken.false) (sym c.rules_broken-else-rules_broken.ensures ∙ c.if-rules_broken-2.false) c.if-left_starts-k.true)

pub returns : goal.returns
returns c = sym (shown _ _ _ _ _ _ (asked _ _ c.if-right.false) (sym c.rules_broken.ensures ∙ c.if-rules_broken.false) (sym c.rules_broken-else-rules_broken.ensures ∙ c.if-rules_broken-2.false) c.if-left_starts-k.false)
