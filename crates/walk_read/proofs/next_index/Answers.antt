-- `walk_read::next_index` meets its contract: the code's tests are the definition's. Assumes
-- nothing.
use mathlib.Core.Path.{◌≡◌, sym, ◌∙◌}
use mathlib.Core.Bool.{true, false}
use Prim.Native.Nat.{ℕ, suc, ◌+◌, ◌-◌}
use native.Mathlib.Numerals.{add-one}
use native.Mathlib.Omega.{arith}
use borrow.Author.Tests.{eq-eqb, ne_eqb}
use Rattle.pair.specs.declared.Place.{Place}
use Rattle.pair.specs.Walk.{next_index}
use Rattle.walk.proofs.Answers.{index_inside}
use Rattle.walk_read.proofs.next_index.Goals as goal

module _ (n : ℕ) (w : Place) where
  to_end : w.segment ≡ true → w.index ≡ w.start → w.end ≡ next_index n w
  unfolding next_index
  to_end s e = rw (s, eq-eqb w.index w.start e)

  to_start : w.segment ≡ true → (w.index ≡ w.start → ⊥) → w.start ≡ next_index n w
  unfolding next_index
  to_start s e = rw (s, ne_eqb w.index w.start e)

  module _ (s : w.segment ≡ false) where
    to_last : w.reverse ≡ true → w.index ≡ 0 → n - 1 ≡ next_index n w
    unfolding next_index
    to_last r e = rw (s, r, eq-eqb w.index 0 e)

    back : w.reverse ≡ true → (w.index ≡ 0 → ⊥) → w.index - 1 ≡ next_index n w
    unfolding next_index
    back r e = rw (s, r, ne_eqb w.index 0 e)

    to_first : w.reverse ≡ false → w.index + 1 ≡ n → 0 ≡ next_index n w
    unfolding next_index
    to_first r e = rw (s, r, eq-eqb (suc w.index) n (sym (add-one w.index) ∙ e))

    onward : w.reverse ≡ false → (w.index + 1 ≡ n → ⊥) → w.index + 1 ≡ next_index n w
    unfolding next_index
    onward r e = rw (s, r, ne_eqb (suc w.index) n (λ q. e (add-one w.index ∙ q))) (add-one w.index)

pub returns-then-index-w : goal.returns-then-index-w
returns-then-index-w c = to_end _ _ c.if-w.true c.if-index-w.true

pub returns-else-index-w : goal.returns-else-index-w
returns-else-index-w c = to_start _ _ c.if-w.true c.if-index-w.false

pub overflow_sub-result : goal.overflow_sub-result
overflow_sub-result c = omega (arith, index_inside _ _ c.requires.1)

pub returns-then-index-eq0 : goal.returns-then-index-eq0
returns-then-index-eq0 c = to_last _ _ c.if-w.false c.if-w-2.true c.if-index-eq0.true

pub returns-else-index-eq0 : goal.returns-else-index-eq0
returns-else-index-eq0 c = back _ _ c.if-w.false c.if-w-2.true c.if-index-eq0.false

pub overflow_add-result : goal.overflow_add-result
overflow_add-result c = omega (arith, index_inside _ _ c.requires.1)

pub returns-then-index-n : goal.returns-then-index-n
returns-then-index-n c = to_first _ _ c.if-w.false c.if-w-2.false c.if-index-n.true

pub returns-else-index-n : goal.returns-else-index-n
returns-else-index-n c = onward _ _ c.if-w.false c.if-w-2.false c.if-index-n.false
