-- `table_shown::show_part` meets its contract: the fault that `shown_fault` tells, and the part of
-- the operand asked for. Assumes nothing.
use mathlib.Core.Path.{◌≡◌, refl, sym, ◌∙◌, ap, subst}
use mathlib.Core.Bool.{Bool, true, false, cond}
use mathlib.Core.List.{List, []}
use Prim.Native.Nat.{ℕ, ◌+◌, ◌<◌}
use native.Mathlib.Omega.{arith}
use borrow.Author.Tests.{eq-eqb, ne_eqb}
use lib.IntN.{ℤ}
use Rattle.table.specs.Table.{table_broken, part_count}
use Rattle.table.specs.Shown.{shown_fault, part_numbers, shown_part}
use Rattle.table.proofs.Shown.{shows, refused, accepted}
use Rattle.table_shown.specs.Place.{part_place, shown_place}
use Rattle.faults.specs.Told.{told, number}
use Rattle.faults.proofs.Numbers.{number_above}
use Rattle.table_shown.proofs.show_part.Goals as goal

module _ (ls : List ℕ) (lc : List ℤ) (rs : List ℕ) (rc : List ℤ) (right : Bool) (k : ℕ) {n : ℕ} (e : n ≡ shown_fault ls lc rs rc right k) where
  none : (n ≡ 0 → ⊥) → [] ≡ shown_part ls lc rs rc right k
  none h = sym (refused ls lc rs rc right k (λ z. h (e ∙ z)))

  module _ (z : n ≡ 0) where
    of_right : right ≡ true → (table_broken rs rc ≡ false) × (k < part_count rs)
    of_right r =
        let t = shows ls lc rs rc right k (sym e ∙ z) in
        (t.right_too, subst (λ b. k < part_count (cond b rs ls)) r t.part)

    of_left : right ≡ false → (table_broken ls lc ≡ false) × (k < part_count ls)
    of_left r =
        let t = shows ls lc rs rc right k (sym e ∙ z) in
        (t.left, subst (λ b. k < part_count (cond b rs ls)) r t.part)

    part_right : {p : List ℤ} → right ≡ true → p ≡ part_numbers rs rc k → p ≡ shown_part ls lc rs rc right k
    part_right r q = q ∙ sym (accepted ls lc rs rc right k (sym e ∙ z) ∙ ap (λ b. part_numbers (cond b rs ls) (cond b rc lc) k) r)

    part_left : {p : List ℤ} → right ≡ false → p ≡ part_numbers ls lc k → p ≡ shown_part ls lc rs rc right k
    part_left r q = q ∙ sym (accepted ls lc rs rc right k (sym e ∙ z) ∙ ap (λ b. part_numbers (cond b rs ls) (cond b rc lc) k) r)

module _ (ls : List ℕ) (lp : ℕ × ℕ) (rs : List ℕ) (rp : ℕ × ℕ) (right : Bool) (k : ℕ) {n : ℕ} where
  at_none : (n ≡ 0 → ⊥) → shown_place n ls lp rs rp right k ≡ lp
  unfolding shown_place
  at_none h = rw (ne_eqb n 0 h)

  at_left : (n ≡ 0 → ⊥) → (lp.0, 0 + lp.1) ≡ shown_place n ls lp rs rp right k
  at_left h = ap (λ o. (lp.0, o)) (omega arith) ∙ sym (at_none h)

  at_part : n ≡ 0 → shown_place n ls lp rs rp right k ≡ part_place (cond right rs ls) (cond right rp lp) k
  unfolding shown_place
  at_part z = rw (eq-eqb n 0 z)

  place_right : {p : ℕ × ℕ} → n ≡ 0 → right ≡ true → p ≡ part_place rs rp k → p ≡ shown_place n ls lp rs rp right k
  place_right z r q = q ∙ sym (at_part z ∙ ap (λ b. part_place (cond b rs ls) (cond b rp lp) k) r)

  place_left : {p : ℕ × ℕ} → n ≡ 0 → right ≡ false → p ≡ part_place ls lp k → p ≡ shown_place n ls lp rs rp right k
  place_left z r q = q ∙ sym (at_part z ∙ ap (λ b. part_place (cond b rs ls) (cond b rp lp) k) r)

pub returns-in-Err : goal.returns-in-Err
returns-in-Err c = let e = c.number.ensures ∙ ap told (sym c.in-Err.is) ∙ c.shown_fault-judged.ensures in
    let some : c.number.result ≡ 0 → ⊥ = λ z. absurd (omega (arith, z, c.number.ensures, number_above c.in-Err.refused)) in
    record { shown = none _ _ _ _ _ _ e some; told = e; placed = at_left _ _ _ _ _ _ some }

pub part_of-requires : goal.part_of-requires
part_of-requires c = let z = ap told c.in_default.is in
    of_right _ _ _ _ _ _ c.shown_fault-judged.ensures z c.if-right.true

pub returns-then-right : goal.returns-then-right
returns-then-right c = let e = sym (ap told c.in_default.is) ∙ c.shown_fault-judged.ensures in
    let r = c.if-right.true in
    let p = c.part_of.ensures in
    record { shown = part_right _ _ _ _ _ _ e refl r p.numbers; told = e; placed = place_right _ _ _ _ _ _ refl r p.placed }

pub part_of-requires-2 : goal.part_of-requires-2
part_of-requires-2 c = let z = ap told c.in_default.is in
    of_left _ _ _ _ _ _ c.shown_fault-judged.ensures z c.if-right.false

pub returns : goal.returns
returns c = let e = sym (ap told c.in_default.is) ∙ c.shown_fault-judged.ensures in
    let r = c.if-right.false in
    let p = c.part_of-2.ensures in
    record { shown = part_left _ _ _ _ _ _ e refl r p.numbers; told = e; placed = place_left _ _ _ _ _ _ refl r p.placed }
