-- `minkowski_faults::result_fault` meets its contract: the kinds in turn. Assumes nothing.
use mathlib.Core.Path.{◌≡◌, sym, ◌∙◌}
use mathlib.Core.Bool.{Bool, false}
use mathlib.Core.List.{List, [], ◌∷◌}
use Prim.Native.Nat.{ℕ, ◌≤◌, ◌<◌}
use lib.Dec.{eqb}
use lib.ListN.{length}
use Rattle.integers.specs.Faults.{Kind, first_fault}
use Rattle.table.specs.Table.{part_count}
use Rattle.integers.proofs.Faults.{first_this, first_next, first_empty}
use Rattle.minkowski_faults.proofs.Range.{no_parts, some_parts}
use Rattle.minkowski_faults.proofs.result_fault.Goals as goal
use Rattle.minkowski_faults.proofs.result_fault.Goals.{then-left_starts-le1-via-then-left_starts-le1, then-left_starts-le1-via-else-left_starts-le1+then-right_starts-le1}

-- past the range's test t
module _ {t : Bool} (l r : List ℕ) (e : t ≡ false) where
  abbrev kinds : List Kind
  kinds = (10, t) ∷ (20, eqb (part_count l) 0) ∷ (20, eqb (part_count r) 0) ∷ []

  left_empty : length l ≤ 1 → 20 ≡ first_fault kinds
  left_empty h = sym (first_next 10 _ e ∙ first_this 20 _ (no_parts l h))

  module _ (h : 1 < length l) where
    right_empty : length r ≤ 1 → 20 ≡ first_fault kinds
    right_empty k = sym (first_next 10 _ e ∙ first_next 20 _ (some_parts l h) ∙ first_this 20 _ (no_parts r k))

    accepted : 1 < length r → 0 ≡ first_fault kinds
    accepted k = sym (first_next 10 _ e ∙ first_next 20 _ (some_parts l h) ∙ first_next 20 _ (some_parts r k) ∙ first_empty)

pub returns-then-bounds_off : goal.returns-then-bounds_off
returns-then-bounds_off c = sym (first_this 10 _ (sym c.bounds_off.ensures ∙ c.if-bounds_off.true))

pub returns-then-left_starts-le1 : goal.returns-then-left_starts-le1
returns-then-left_starts-le1 c = let l = c.args.left_starts.now in
    let r = c.args.right_starts.now in
    let e = sym c.bounds_off.ensures ∙ c.if-bounds_off.false in
    elim c.then-left_starts-le1.branch [
      | then-left_starts-le1-via-then-left_starts-le1 w ↦ left_empty l r e w.if-left_starts-le1.true
      | then-left_starts-le1-via-else-left_starts-le1+then-right_starts-le1 w ↦ right_empty l r e w.if-left_starts-le1.false w.if-right_starts-le1.true
    ]

pub returns : goal.returns
returns c = accepted c.args.left_starts.now c.args.right_starts.now (sym c.bounds_off.ensures ∙ c.if-bounds_off.false) c.if-left_starts-le1.false c.if-right_starts-le1.false
