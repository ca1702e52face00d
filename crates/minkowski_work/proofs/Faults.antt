-- The faults of two operands in their order, before any others: those that need no walk
-- (`operands_first`), those that walks decide (`walks_first`), and then the others alone
-- (`rest_decides`); the same before the room's; a winding (`left_leaves`, `right_leaves`) and the
-- result's (`result_decides`); what operands without a fault of the first kinds meet (`judged`).
-- Assumes nothing.
use mathlib.Core.Path.{◌≡◌, sym, ◌∙◌, ap}
use mathlib.Core.Bool.{Bool, true, false}
use mathlib.Core.List.{List, [], ◌∷◌, ◌++◌}
use Prim.Native.Nat.{ℕ}
use native.Mathlib.Omega.{arith}
use borrow.Author.Tests.{eqb-true, eqb-false}
use lib.Dec.{eqb, lit<}
use Rattle.integers.specs.Faults.{Kind, first_fault}
use Rattle.integers.proofs.Faults.{first_this, first_next, first_none, append_some, append_none}
use Rattle.table.specs.declared.IntRect.{IntRect}
use Rattle.corners.specs.Corners.{off_range}
use Rattle.table.specs.Table.{table_broken, bounds_list, part_count, room_kinds}
use Rattle.minkowski.specs.Pairs.{Operand, operand_off, operand_parts, pair_contours, result_bounds, some_winding_leaves, pair_kinds, pairs_fault}
use Rattle.minkowski_faults.specs.Kinds.{operand_kinds, result_kinds}
use Rattle.minkowski_work.specs.Scratch.{walk_kinds}
use Rattle.minkowski_faults.proofs.Range.{off_append_in, off_append_out}
use Rattle.integers.proofs.Order.{by_test}
use Rattle.integers.proofs.Tests.{differ}

-- ---- kinds before others

module _ (reflected : Bool) (l r : Operand) (rest : List Kind) where
  -- 7, 2 and 9
  pub operands_first : {f : ℕ} → f ≡ first_fault (operand_kinds l r) → (f ≡ 0 → ⊥) → f ≡ first_fault (pair_kinds reflected l r ++ rest)
  operands_first e d = e ∙ sym (append_some (operand_kinds l r) (walk_kinds reflected l r ++ rest) (λ q. d (e ∙ q)))

  module _ (e : first_fault (operand_kinds l r) ≡ 0) where
    pub past_operands : first_fault (pair_kinds reflected l r ++ rest) ≡ first_fault (walk_kinds reflected l r ++ rest)
    past_operands = append_none (operand_kinds l r) (walk_kinds reflected l r ++ rest) (lit< tt, (lit< tt, (lit< tt, (lit< tt, (lit< tt, (lit< tt, tt)))))) e

    -- 8, 10 and 20
    pub walks_first : {f : ℕ} → f ≡ first_fault (walk_kinds reflected l r) → (f ≡ 0 → ⊥) → f ≡ first_fault (pair_kinds reflected l r ++ rest)
    walks_first h d = h ∙ sym (past_operands ∙ append_some (walk_kinds reflected l r) rest (λ q. d (h ∙ q)))

    pub rest_decides : first_fault (walk_kinds reflected l r) ≡ 0 → first_fault (pair_kinds reflected l r ++ rest) ≡ first_fault rest
    rest_decides h = past_operands ∙ append_none (walk_kinds reflected l r) rest (lit< tt, (lit< tt, (lit< tt, (lit< tt, (lit< tt, tt))))) h

-- where nothing is told of two operands, none of 7, 2 and 9 is
pub operands_none : (reflected : Bool) (l r : Operand) → first_fault (pair_kinds reflected l r) ≡ 0 → first_fault (operand_kinds l r) ≡ 0
operands_none reflected l r e =
    by_test (eqb (first_fault (operand_kinds l r)) 0) (λ t. eqb-true _ 0 t)
    (λ t. absurd (eqb-false _ 0 t (sym (append_some (operand_kinds l r) (walk_kinds reflected l r) (eqb-false _ 0 t)) ∙ e)))

-- before those of the room
module _ (reflected : Bool) (l r : Operand) (s c : ℕ) where
  abbrev room : List Kind
  room = room_kinds (pair_contours reflected l r) s c

  pub operands_refused : {f : ℕ} → f ≡ first_fault (operand_kinds l r) → (f ≡ 0 → ⊥) → f ≡ pairs_fault reflected l r s c
  unfolding pairs_fault
  operands_refused e d = operands_first reflected l r room e d

  module _ (e : first_fault (operand_kinds l r) ≡ 0) where
    pub walks_refused : {f : ℕ} → f ≡ first_fault (walk_kinds reflected l r) → (f ≡ 0 → ⊥) → f ≡ pairs_fault reflected l r s c
    unfolding pairs_fault
    walks_refused h d = walks_first reflected l r room e h d

    -- 22 and 21
    pub room_decides : first_fault (walk_kinds reflected l r) ≡ 0 → pairs_fault reflected l r s c ≡ first_fault room
    unfolding pairs_fault
    room_decides h = rest_decides reflected l r room e h

-- ---- the kinds that walks decide

module _ (reflected : Bool) (l r : Operand) where
  pub left_leaves : some_winding_leaves false (operand_parts l) ≡ true → 8 ≡ first_fault (walk_kinds reflected l r)
  left_leaves h = sym (first_this 8 _ h)

  module _ (h : some_winding_leaves false (operand_parts l) ≡ false) where
    pub right_leaves : some_winding_leaves reflected (operand_parts r) ≡ true → 8 ≡ first_fault (walk_kinds reflected l r)
    right_leaves k = sym (first_next 8 _ h ∙ first_this 8 _ k)

    pub result_decides : some_winding_leaves reflected (operand_parts r) ≡ false → first_fault (walk_kinds reflected l r) ≡ first_fault (result_kinds reflected l r)
    result_decides k = first_next 8 _ h ∙ first_next 8 _ k

  -- the result's, by its bounds as they were computed
  pub result_kinds_lem : {b : IntRect} → b ≡ result_bounds reflected l.bounds r.bounds → first_fault ((10, off_range (bounds_list b)) ∷ (20, eqb (part_count l.starts) 0) ∷ (20, eqb (part_count r.starts) 0) ∷ []) ≡ first_fault (result_kinds reflected l r)
  result_kinds_lem e = ap (λ x. first_fault ((10, off_range (bounds_list x)) ∷ (20, eqb (part_count l.starts) 0) ∷ (20, eqb (part_count r.starts) 0) ∷ [])) e

-- ---- what operands meet that none of 7, 2 and 9 is told of

pub record Judged (o : Operand) : Type 0 where
  pub sound : table_broken o.starts o.corners ≡ false
  pub ranged : off_range o.corners ≡ false
  pub bounded : off_range (bounds_list o.bounds) ≡ false

off_neither : (o : Operand) → operand_off o ≡ false → (off_range o.corners ≡ false) × (off_range (bounds_list o.bounds) ≡ false)
off_neither o h =
    by_test (off_range o.corners) (λ e. differ (sym h ∙ off_append_out o.corners (bounds_list o.bounds) e))
    (λ e. (e, sym (off_append_in o.corners (bounds_list o.bounds) e) ∙ h))

pub judged : (l r : Operand) → first_fault (operand_kinds l r) ≡ 0 → Judged l × Judged r
judged l r e =
    let a = first_none (table_broken l.starts l.corners) _ (omega arith) e in
    let b = first_none (table_broken r.starts r.corners) _ (omega arith) a.1 in
    let c = first_none (operand_off l) _ (omega arith) b.1 in
    let d = first_none (operand_off r) _ (omega arith) c.1 in
    let p = off_neither l c.0 in
    let q = off_neither r d.0 in
    (record { sound = a.0; ranged = p.0; bounded = p.1 }, record { sound = b.0; ranged = q.0; bounded = q.1 })
