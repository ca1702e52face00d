-- The part shown: laws of `shown_fault`, `part_numbers` and `shown_part` of `specs/Shown.antt`.
-- In order: the fault by the tests that code makes; what no fault tells (`Shows`); where part k
-- lies in the numbers (`Placed`); the corners between two starts (`numbers_between`); the part
-- shown is part k of the operand (`part_is`), in range where all numbers are (`part_ranged`).
-- Assumes nothing.
use mathlib.Core.Path.{◌≡◌, refl, sym, ◌∙◌, ap}
use mathlib.Core.Bool.{Bool, true, false, cond}
use mathlib.Core.List.{List, [], ◌∷◌}
use Prim.Native.Nat.{ℕ, zero, suc, ◌+◌, ◌*◌, ◌<◌, ◌≤◌}
use native.Mathlib.Numerals.{add-one}
use native.Mathlib.Omega.{arith}
use borrow.Author.Tests.{leb-false, le-leb, lt-leb, eq-eqb, ne_eqb}
use lib.Dec.{leb}
use lib.ListN.{length, get_or}
use lib.Seq.{slice}
use lib.IntN.{ℤ}
use Rattle.plane.specs.Plane.{Pt}
use Rattle.corners.specs.Corners.{points_of, corners_between, off_range}
use Rattle.table.specs.Table.{parts_of, table_parts, part_count, table_broken, max_corners}
use Rattle.table.specs.Shown.{shown_fault, part_numbers, shown_part}
use Rattle.integers.proofs.Faults.{first_this, first_next, first_empty, first_none}
use Rattle.corners.proofs.Corners.{points_slice}
use Rattle.corners.proofs.Range.{off_slice}
use Rattle.table.proofs.Rules.{sound}

-- ---- the fault

module _ (ls : List ℕ) (lc : List ℤ) (rs : List ℕ) (rc : List ℤ) (right : Bool) (k : ℕ) where
  pub left_broken : table_broken ls lc ≡ true → shown_fault ls lc rs rc right k ≡ 7
  unfolding shown_fault
  left_broken e = first_this 7 _ e

  pub right_broken : table_broken ls lc ≡ false → table_broken rs rc ≡ true → shown_fault ls lc rs rc right k ≡ 7
  unfolding shown_fault
  right_broken e f = first_next 7 _ e ∙ first_this 7 _ f

  -- of the starts of the operand that is asked for
  module _ {starts : List ℕ} (p : cond right rs ls ≡ starts) (e : table_broken ls lc ≡ false) (f : table_broken rs rc ≡ false) where
    pub past : part_count starts ≤ k → shown_fault ls lc rs rc right k ≡ 12
    unfolding shown_fault
    past h = first_next 7 _ e ∙ first_next 7 _ f ∙ first_this 12 [] (ap (λ s. leb (part_count s) k) p ∙ le-leb _ k h)

    pub shown : k < part_count starts → shown_fault ls lc rs rc right k ≡ 0
    unfolding shown_fault
    shown h = first_next 7 _ e ∙ first_next 7 _ f ∙ first_next 12 [] (ap (λ s. leb (part_count s) k) p ∙ lt-leb _ k h) ∙ first_empty

  -- what no fault tells
  pub record Shows : Type 0 where
    pub left : table_broken ls lc ≡ false
    pub right_too : table_broken rs rc ≡ false
    pub part : k < part_count (cond right rs ls)

  pub shows : shown_fault ls lc rs rc right k ≡ 0 → Shows
  unfolding shown_fault
  shows e =
      let f = first_none (table_broken ls lc) _ (omega arith) e in
      let g = first_none (table_broken rs rc) _ (omega arith) f.1 in
      let h = first_none (leb (part_count (cond right rs ls)) k) _ (omega arith) g.1 in
      record { left = f.0; right_too = g.0; part = leb-false _ k h.0 }

  -- the part, by the fault
  pub refused : (shown_fault ls lc rs rc right k ≡ 0 → ⊥) → shown_part ls lc rs rc right k ≡ []
  unfolding shown_part
  refused h = rw (ne_eqb _ 0 h)

  pub accepted : shown_fault ls lc rs rc right k ≡ 0 → shown_part ls lc rs rc right k ≡ part_numbers (cond right rs ls) (cond right rc lc) k
  unfolding shown_part
  accepted h = rw (eq-eqb _ 0 h)

-- ---- where part k lies

-- part k is from number 2 a up to number 2 b
pub record Placed (a b : ℕ) (corners : List ℤ) : Type 0 where
  pub rises : a ≤ b
  pub within : 2 * b ≤ length corners
  pub few : b ≤ max_corners

pub placed : (starts : List ℕ) (corners : List ℤ) {k : ℕ} → table_broken starts corners ≡ false → k < part_count starts → Placed (get_or starts k 0) (get_or starts (k + 1) 0) corners
placed s c {k} e h =
    let t = sound s c e in
    rw add-one (record { rises = t.rises k (omega arith); within = omega (arith, t.bounded (suc k) (omega arith)); few = omega (arith, t.bounded (suc k) (omega arith), t.few_corners) })

-- ---- the corners between two starts, as the code takes them

pub numbers_between : (starts : List ℕ) (corners : List ℤ) (k : ℕ) → corners_between (get_or starts k 0) (get_or starts (k + 1) 0) corners ≡ part_numbers starts corners k
unfolding part_numbers
numbers_between s c k = ap (λ m. slice (2 * get_or s k 0) (2 * get_or s m 0) c) (add-one k)

-- ---- the part shown is part k

parts_at : (s : List ℕ) (l : List Pt) (k : ℕ) → k < part_count s → get_or (parts_of s l) k [] ≡ slice (get_or s k 0) (get_or s (suc k) 0) l
unfolding parts_of
parts_at [] l k h = absurd (omega arith)
parts_at (a ∷ []) l k h = absurd (omega arith)
parts_at (a ∷ b ∷ s) l zero h = refl
parts_at (a ∷ b ∷ s) l (suc k) h = parts_at (b ∷ s) l k (omega arith)

pub part_is : (starts : List ℕ) (corners : List ℤ) {k : ℕ} → k < part_count starts → points_of (part_numbers starts corners k) ≡ get_or (table_parts starts corners) k []
unfolding part_numbers table_parts
part_is s c {k} h = points_slice (get_or s k 0) (get_or s (suc k) 0) c ∙ sym (parts_at s (points_of c) k h)

-- ---- a part of corners in range

pub part_ranged : (starts : List ℕ) (corners : List ℤ) (k : ℕ) → off_range corners ≡ false → off_range (part_numbers starts corners k) ≡ false
unfolding part_numbers
part_ranged s c k h = off_slice (2 * get_or s k 0) (2 * get_or s (suc k) 0) c h
