-- `minkowski_faults::operands_fault` meets its contract: the kinds in turn. Assumes nothing.
use mathlib.Core.Path.{◌≡◌, sym, ◌∙◌}
use mathlib.Core.Bool.{Bool, true, false}
use mathlib.Core.List.{List, ◌∷◌}
use Prim.Native.Nat.{ℕ}
use Rattle.integers.specs.Faults.{Kind, first_fault}
use Rattle.integers.proofs.Faults.{first_this, first_next, first_empty}
use Rattle.minkowski_faults.proofs.operands_fault.Goals as goal
use Rattle.minkowski_faults.proofs.operands_fault.Goals.{then-rules_broken-via-then-rules_broken, then-rules_broken-via-else-rules_broken+then-rules_broken-2, then-operand_off-via-then-operand_off, then-operand_off-via-else-operand_off+then-operand_off-2, then-bounds_broken-via-then-bounds_broken, then-bounds_broken-via-else-bounds_broken+then-bounds_broken-2}

-- a test's answer r, as it came out
this : (n : ℕ) (l : List Kind) {r t : Bool} → r ≡ t → r ≡ true → first_fault ((n, t) ∷ l) ≡ n
this n l e h = first_this n l (sym e ∙ h)

next : (n : ℕ) (l : List Kind) {r t : Bool} → r ≡ t → r ≡ false → first_fault ((n, t) ∷ l) ≡ first_fault l
next n l e h = first_next n l (sym e ∙ h)

pub returns-then-rules_broken : goal.returns-then-rules_broken
returns-then-rules_broken c = elim c.then-rules_broken.branch [
  | then-rules_broken-via-then-rules_broken w ↦ sym (this 7 _ c.rules_broken.ensures w.if-rules_broken.true)
  | then-rules_broken-via-else-rules_broken+then-rules_broken-2 w ↦
      sym (next 7 _ c.rules_broken.ensures w.if-rules_broken.false ∙ this 7 _ w.rules_broken-else-rules_broken.ensures w.if-rules_broken-2.true)
]

pub returns-then-operand_off : goal.returns-then-operand_off
returns-then-operand_off c = elim c.then-operand_off.branch [
  | then-operand_off-via-then-operand_off w ↦
      sym (next 7 _ c.rules_broken.ensures c.if-rules_broken.false
      ∙ next 7 _ c.rules_broken-else-rules_broken.ensures c.if-rules_broken-2.false
      ∙ this 2 _ c.operand_off.ensures w.if-operand_off.true)
  | then-operand_off-via-else-operand_off+then-operand_off-2 w ↦
      sym (next 7 _ c.rules_broken.ensures c.if-rules_broken.false
      ∙ next 7 _ c.rules_broken-else-rules_broken.ensures c.if-rules_broken-2.false
      ∙ next 2 _ c.operand_off.ensures w.if-operand_off.false
      ∙ this 2 _ w.operand_off-else-operand_off.ensures w.if-operand_off-2.true)
]

pub returns-then-bounds_broken : goal.returns-then-bounds_broken
returns-then-bounds_broken c = elim c.then-bounds_broken.branch [
  | then-bounds_broken-via-then-bounds_broken w ↦
      sym (next 7 _ c.rules_broken.ensures c.if-rules_broken.false
      ∙ next 7 _ c.rules_broken-else-rules_broken.ensures c.if-rules_broken-2.false
      ∙ next 2 _ c.operand_off.ensures c.if-operand_off.false
      ∙ next 2 _ c.operand_off-else-operand_off.ensures c.if-operand_off-2.false
      ∙ this 9 _ c.bounds_broken.ensures w.if-bounds_broken.true)
  | then-bounds_broken-via-else-bounds_broken+then-bounds_broken-2 w ↦
      sym (next 7 _ c.rules_broken.ensures c.if-rules_broken.false
      ∙ next 7 _ c.rules_broken-else-rules_broken.ensures c.if-rules_broken-2.false
      ∙ next 2 _ c.operand_off.ensures c.if-operand_off.false
      ∙ next 2 _ c.operand_off-else-operand_off.ensures c.if-operand_off-2.false
      ∙ next 9 _ c.bounds_broken.ensures w.if-bounds_broken.false
      ∙ this 9 _ w.bounds_broken-else-bounds_broken.ensures w.if-bounds_broken-2.true)
]

pub returns : goal.returns
returns c = sym (next 7 _ c.rules_broken.ensures c.if-rules_broken.false
    ∙ next 7 _ c.rules_broken-else-rules_broken.ensures c.if-rules_broken-2.false
    ∙ next 2 _ c.operand_off.ensures c.if-operand_off.false
    ∙ next 2 _ c.operand_off-else-operand_off.ensures c.if-operand_off-2.false
    ∙ next 9 _ c.bounds_broken.ensures c.if-bounds_broken.false
    ∙ next 9 _ c.bounds_broken-else-bounds_broken.ensures c.if-bounds_broken-2.false
    ∙ first_empty)
