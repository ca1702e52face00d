-- The part shown, by its place: laws of `shown_offset` and `told_shown` of `specs/Told.antt`.
-- In order: the numbers from that place on are part k's (`there`); what a refusal tells and shows;
-- what is told of a part that is there, and that it stands there, by the operand asked for
-- (`right_told`, `left_told`). Assumes nothing.
use mathlib.Core.Path.{◌≡◌, sym, ◌∙◌, ap, subst}
use mathlib.Core.Bool.{Bool, cond, true, false}
use mathlib.Core.List.{List, []}
use Prim.Native.Nat.{ℕ, suc, ◌+◌, ◌*◌, ◌<◌}
use native.Mathlib.Numerals.{add-one}
use native.Mathlib.Omega.{arith}
use borrow.Author.Tests.{eq-eqb, ne_eqb}
use lib.ListN.{length, get_or}
use lib.Seq.{slice, length-slice}
use lib.IntN.{ℤ}
use Rattle.table.specs.Table.{table_broken, part_count}
use Rattle.table.specs.Shown.{shown_fault, part_numbers, shown_part}
use Rattle.table.proofs.Shown.{shows, refused, accepted, Placed, placed, Shows}
use Rattle.boundary_table.specs.declared.ToldPart.{ToldPart}
use Rattle.boundary_table.specs.Told.{shown_offset, told_shown}

-- 2 a + (2 b − 2 a) = 2 b
there : (s : List ℕ) (c : List ℤ) {k : ℕ} → table_broken s c ≡ false → k < part_count s → slice (2 * get_or s k 0) (2 * get_or s k 0 + length (part_numbers s c k)) c ≡ part_numbers s c k
unfolding part_numbers
there s c {k} e h =
    let p : Placed (get_or s k 0) (get_or s (suc k) 0) c = subst (λ j. Placed (get_or s k 0) (get_or s j 0) c) (add-one k) (placed s c e h) in
    let n = length-slice (2 * get_or s k 0) (2 * get_or s (suc k) 0) c (omega (arith, p.within)) in
    let m : 2 * get_or s k 0 + length (slice (2 * get_or s k 0) (2 * get_or s (suc k) 0) c) ≡ 2 * get_or s (suc k) 0 = omega (arith, n, p.rises) in
    ap (λ t. slice (2 * get_or s k 0) t c) m

module _ (ls : List ℕ) (lc : List ℤ) (rs : List ℕ) (rc : List ℤ) (right : Bool) (k : ℕ) {n : ℕ} (e : n ≡ shown_fault ls lc rs rc right k) where
  module _ (h : n ≡ 0 → ⊥) where
    none : shown_part ls lc rs rc right k ≡ []
    none = refused ls lc rs rc right k (λ z. h (e ∙ z))

    front : shown_offset ls lc rs rc right k ≡ 0
    unfolding shown_offset
    front = rw (ne_eqb _ 0 (λ z. h (e ∙ z)))

    pub told_refused : record { fault = n; offset = 0; length = 0 } ≡ told_shown ls lc rs rc right k
    told_refused i = record { fault = e i; offset = sym front i; length = length (sym none i) }

    pub shown_refused : [] ≡ shown_part ls lc rs rc right k
    shown_refused = sym none

  -- of the operand that is asked for, which has these starts and corners
  module _ (z : n ≡ 0) {s : List ℕ} {c : List ℤ} (p : cond right rs ls ≡ s) (q : cond right rc lc ≡ c) (t : table_broken s c ≡ false) where
    within : k < part_count s
    within = subst (λ l. k < part_count l) p (shows ls lc rs rc right k (sym e ∙ z)).part

    part : shown_part ls lc rs rc right k ≡ part_numbers s c k
    part = accepted ls lc rs rc right k (sym e ∙ z) ∙ (λ i. part_numbers (p i) (q i) k)

    begins : shown_offset ls lc rs rc right k ≡ 2 * get_or s k 0
    unfolding shown_offset
    begins = rw (eq-eqb _ 0 (sym e ∙ z)) (ap (λ l. 2 * get_or l k 0) p)

    -- what is told and what stands there
    told_there : {at : ℕ} {l : List ℤ} → at ≡ 2 * get_or s k 0 → l ≡ shown_part ls lc rs rc right k
        → (record { fault = 0; offset = at; length = length l } ≡ told_shown ls lc rs rc right k) × (slice at (at + length l) (cond right rc lc) ≡ shown_part ls lc rs rc right k)
    told_there a b = (
      (λ i. record { fault = (sym z ∙ e) i; offset = (a ∙ sym begins) i; length = length (b i) }),
      (λ i. slice (a i) (a i + length ((b ∙ part) i)) (q i)) ∙ there s c t within ∙ sym part,
    )

  module _ (z : n ≡ 0) where
    known : Shows ls lc rs rc right k
    known = shows ls lc rs rc right k (sym e ∙ z)

    pub right_kept : right ≡ true → (table_broken rs rc ≡ false) × (k < part_count rs)
    right_kept r = (known.right_too, within z (ap (λ b. cond b rs ls) r) (ap (λ b. cond b rc lc) r) known.right_too)

    pub left_kept : right ≡ false → (table_broken ls lc ≡ false) × (k < part_count ls)
    left_kept r = (known.left, within z (ap (λ b. cond b rs ls) r) (ap (λ b. cond b rc lc) r) known.left)

    module _ {at : ℕ} {l : List ℤ} (b : l ≡ shown_part ls lc rs rc right k) where
      pub right_told : right ≡ true → at ≡ 2 * get_or rs k 0
          → (record { fault = 0; offset = at; length = length l } ≡ told_shown ls lc rs rc right k) × (slice at (at + length l) (cond right rc lc) ≡ shown_part ls lc rs rc right k)
      right_told r a = told_there z (ap (λ b. cond b rs ls) r) (ap (λ b. cond b rc lc) r) known.right_too a b

      pub left_told : right ≡ false → at ≡ 2 * get_or ls k 0
          → (record { fault = 0; offset = at; length = length l } ≡ told_shown ls lc rs rc right k) × (slice at (at + length l) (cond right rc lc) ≡ shown_part ls lc rs rc right k)
      left_told r a = told_there z (ap (λ b. cond b rs ls) r) (ap (λ b. cond b rc lc) r) known.left a b
