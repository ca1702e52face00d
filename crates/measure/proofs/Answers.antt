-- What the calls that measure tell. In order: whether a sum leaves 64 bits, by its words; the fault
-- of each call by the tests that code makes, and what none tells; an answer behind a fault; bounds
-- corner by corner. Assumes nothing.
use mathlib.Core.Path.{◌≡◌, refl, sym, ◌∙◌, ap}
use mathlib.Core.Bool.{Bool, true, false}
use mathlib.Core.List.{List, [], ◌∷◌}
use Prim.Native.Nat.{ℕ, suc, ◌+◌, ◌^◌, ◌≤◌, ◌<◌}
use native.Mathlib.Nat.{zero-add}
use native.Mathlib.Numerals.{add-one}
use native.Mathlib.Omega.{arith}
use borrow.Author.Tests.{eq-eqb, ne_eqb, le-leb, lt-leb, leb-false}
use lib.Dec.{leb}
use lib.ListN.{length, drop, drop_of_length-le}
use lib.Seq.{drop-cons}
use lib.IntN.{ℤ, pos, negsuc, neg_ℤ}
use Rattle.integers.specs.Faults.{fault_rules, fault_range, fault_total, fault_part}
use Rattle.integers.proofs.Faults.{first_this, first_next, first_empty, first_none, append_some}
use Rattle.integers.proofs.Order.{zarith, neg_parts}
use Rattle.integers.proofs.Tests.{<-lt_z, ≤-lt_z, ≤-le_z, <-le_z}
use Rattle.plane.specs.Plane.{Pt, O}
use Rattle.table.specs.declared.IntRect.{IntRect}
use Rattle.table.specs.Table.{result_broken, part_count}
use Rattle.corners.specs.Corners.{points_of, off_range, ragged}
use Rattle.wide.specs.declared.SignedProduct.{SignedProduct}
use Rattle.wide.specs.Words.{two_words, signed, value}
use Rattle.pair.specs.Walk.{corner_at, in_word}
use Rattle.mesh_bounds.specs.Bounds.{point_bounds, widened, widened_by, bounds_of}
use Rattle.placement.specs.Placement.{Placeable}
use Rattle.measure.specs.declared.Measured.{Measured}
use Rattle.measure.specs.Measured.{area_refused, area_told, area_behind, bounds_laid, contour_fault, table_fault, part_fault, bounds_told}

-- ---- 64 bits

above_in : {n : ℕ} → n < 2 ^ 63 → in_word (pos n) ≡ true
above_in {n} h = ≤-le_z {x = pos n} {y = pos 9223372036854775807} (omega zarith)

above_out : {n : ℕ} → 2 ^ 63 ≤ n → in_word (pos n) ≡ false
above_out {n} h = <-le_z {x = pos n} {y = pos 9223372036854775807} (omega zarith)

below_in : {n : ℕ} → n ≤ 2 ^ 63 → in_word (neg_ℤ (pos n)) ≡ true
below_in {n} h =
    rw (≤-lt_z {x = neg_ℤ (pos n)} {y = negsuc 9223372036854775807} (omega (zarith, neg_parts (pos n))))
    (≤-le_z {x = neg_ℤ (pos n)} {y = pos 9223372036854775807} (omega (zarith, neg_parts (pos n))))

below_out : {n : ℕ} → 2 ^ 63 < n → in_word (neg_ℤ (pos n)) ≡ false
below_out {n} h = rw (<-lt_z {x = neg_ℤ (pos n)} {y = negsuc 9223372036854775807} (omega (zarith, neg_parts (pos n))))

told_in : {z : ℤ} {u : ℤ} → in_word z ≡ true → u ≡ z → record { fault = 0; area_two = u } ≡ area_told z
unfolding area_told
told_in h e = rw (h, e)

told_out : (z : ℤ) → in_word z ≡ false → area_refused fault_total ≡ area_told z
unfolding area_told
told_out z h = rw h

pub above_told : {n : ℕ} {u : ℤ} → n < 2 ^ 63 → u ≡ pos n → record { fault = 0; area_two = u } ≡ area_told (pos n)
above_told {n} h e = told_in (above_in h) e

pub above_refused : {n : ℕ} → 2 ^ 63 ≤ n → area_refused fault_total ≡ area_told (pos n)
above_refused {n} h = told_out (pos n) (above_out h)

pub below_told : (n : ℕ) {u : ℤ} → n ≤ 2 ^ 63 → u ≡ neg_ℤ (pos n) → record { fault = 0; area_two = u } ≡ area_told (neg_ℤ (pos n))
below_told n h e = told_in (below_in h) e

pub below_refused : (n : ℕ) → 2 ^ 63 < n → area_refused fault_total ≡ area_told (neg_ℤ (pos n))
below_refused n h = told_out (neg_ℤ (pos n)) (below_out h)

-- a high word is past 64 bits, with either sign
pub high_refused : (p : SignedProduct) → (p.words.high ≡ 0 → ⊥) → area_refused fault_total ≡ area_told (value p)
high_refused p h = of p.negative p.words.low h
  where
    of : (s : Bool) {high : ℕ} (low : ℕ) → (high ≡ 0 → ⊥) → area_refused fault_total ≡ area_told (signed s (two_words high low))
    of true {high} low h = below_refused (two_words high low) (omega arith)
    of false {high} low h = above_refused (omega arith)

-- without one the low word is the size
pub value_below : (p : SignedProduct) → p.words.high ≡ 0 → p.negative ≡ true → value p ≡ neg_ℤ (pos p.words.low)
value_below p h e = rw (e, h) (ap (λ n. neg_ℤ (pos n)) (zero-add p.words.low))

pub value_above : {p : SignedProduct} → p.words.high ≡ 0 → p.negative ≡ false → value p ≡ pos p.words.low
value_above {p} h e = rw (e, h) (ap pos (zero-add p.words.low))

-- ---- the faults

module _ (c : List ℤ) where
  pub contour_7 : ragged c ≡ true → fault_rules ≡ contour_fault c
  unfolding contour_fault
  contour_7 h = sym (first_this fault_rules _ h)

  pub contour_2 : ragged c ≡ false → off_range c ≡ true → fault_range ≡ contour_fault c
  unfolding contour_fault
  contour_2 h o = sym (first_next fault_rules _ h ∙ first_this fault_range [] o)

  pub contour_none : ragged c ≡ false → off_range c ≡ false → 0 ≡ contour_fault c
  unfolding contour_fault
  contour_none h o = sym (first_next fault_rules _ h ∙ first_next fault_range [] o ∙ first_empty)

  pub contour_ranged : contour_fault c ≡ 0 → off_range c ≡ false
  unfolding contour_fault
  contour_ranged e = (first_none _ [] (omega arith) (first_none _ _ (omega arith) e).1).0

module _ (s : List ℕ) (c : List ℤ) where
  pub table_7 : result_broken s c ≡ true → fault_rules ≡ table_fault s c
  unfolding table_fault
  table_7 e = sym (first_this fault_rules _ e)

  pub table_2 : result_broken s c ≡ false → off_range c ≡ true → fault_range ≡ table_fault s c
  unfolding table_fault
  table_2 e o = sym (first_next fault_rules _ e ∙ first_this fault_range [] o)

  pub table_none : result_broken s c ≡ false → off_range c ≡ false → 0 ≡ table_fault s c
  unfolding table_fault
  table_none e o = sym (first_next fault_rules _ e ∙ first_next fault_range [] o ∙ first_empty)

  pub table_accepted : table_fault s c ≡ 0 → Placeable s c
  unfolding table_fault
  table_accepted h =
      let f = first_none _ _ (omega arith) h in
      record { whole = f.0; ranged = (first_none _ [] (omega arith) f.1).0 }

  module _ (k : ℕ) where
    -- a fault of the table is told before 12
    pub part_before : (table_fault s c ≡ 0 → ⊥) → table_fault s c ≡ part_fault s c k
    unfolding table_fault part_fault
    part_before h = sym (append_some ((fault_rules, result_broken s c) ∷ (fault_range, off_range c) ∷ []) ((fault_part, leb (part_count s) k) ∷ []) h)

    pub part_12 : table_fault s c ≡ 0 → part_count s ≤ k → fault_part ≡ part_fault s c k
    unfolding part_fault
    part_12 e h =
        let a = table_accepted e in
        sym (first_next fault_rules _ a.whole ∙ first_next fault_range _ a.ranged ∙ first_this fault_part [] (le-leb _ k h))

    pub part_none : table_fault s c ≡ 0 → k < part_count s → 0 ≡ part_fault s c k
    unfolding part_fault
    part_none e h =
        let a = table_accepted e in
        sym (first_next fault_rules _ a.whole ∙ first_next fault_range _ a.ranged ∙ first_next fault_part [] (lt-leb _ k h) ∙ first_empty)

    pub part_accepted : part_fault s c k ≡ 0 → Placeable s c × (k < part_count s)
    unfolding part_fault
    part_accepted h =
        let f = first_none _ _ (omega arith) h in
        let g = first_none _ _ (omega arith) f.1 in
        (record { whole = f.0; ranged = g.0 }, leb-false _ k (first_none _ [] (omega arith) g.1).0)

-- ---- answers

pub behind_refused : {f : ℕ} (z : ℤ) {g : ℕ} {r : Measured} → g ≡ f → (g ≡ 0 → ⊥) → r ≡ area_refused g → r ≡ area_behind f z
behind_refused {f} z {g} e h p = p ∙ ap area_refused e ∙ rw (ne_eqb f 0 (λ n. h (e ∙ n)))

pub behind_told : {f : ℕ} (z : ℤ) {g : ℕ} {r : Measured} → g ≡ f → g ≡ 0 → r ≡ area_told z → r ≡ area_behind f z
behind_told {f} z {g} e h p = p ∙ rw (eq-eqb f 0 (sym e ∙ h))

-- ---- bounds

pub bounds_none : (l : List Pt) → length l ≡ 0 → bounds_of [] ≡ bounds_of l
bounds_none [] e = refl
bounds_none (p ∷ l) e = absurd (omega (arith, e))

pub bounds_begin : (l : List Pt) {p : Pt} {b : IntRect} → (length l ≡ 0 → ⊥) → p ≡ corner_at l 0 → b ≡ point_bounds p → widened_by b (drop 0 l) ≡ bounds_of l
unfolding bounds_of
bounds_begin [] h e q = absurd (h refl)
bounds_begin (x ∷ l) h e q = ap (λ b. widened_by b (x ∷ l)) (q ∙ ap point_bounds e)

pub bounds_more : (l : List Pt) (b : IntRect) {k : ℕ} {p : Pt} {b' : IntRect} → k < length l → p ≡ corner_at l k → b' ≡ widened b p → widened_by b (drop k l) ≡ widened_by b' (drop (k + 1) l)
unfolding widened_by
bounds_more l b {k} h e q = rw (add-one, drop-cons l k O) (ap (λ x. widened_by x (drop (suc k) l)) (sym (q ∙ ap (widened b) e)))

pub bounds_done : (l : List Pt) (b : IntRect) (k : ℕ) → length l ≤ k → widened_by b (drop k l) ≡ b
unfolding widened_by
bounds_done l b k h = rw (drop_of_length-le l {i = k} h)

pub bounds_refused : (s : List ℕ) (c : List ℤ) {f : ℕ} → f ≡ table_fault s c → (f ≡ 0 → ⊥) → bounds_laid f (bounds_of []) ≡ bounds_told s c
unfolding bounds_told
bounds_refused s c e h = ap (λ f. bounds_laid f (bounds_of [])) e ∙ rw (ne_eqb _ 0 (λ n. h (e ∙ n)))

pub bounds_told_lem : (s : List ℕ) (c : List ℤ) {f : ℕ} {b : IntRect} → f ≡ table_fault s c → f ≡ 0 → b ≡ bounds_of (points_of c) → bounds_laid 0 b ≡ bounds_told s c
unfolding bounds_told
bounds_told_lem s c e h q = ap (bounds_laid 0) q ∙ rw (eq-eqb _ 0 (sym e ∙ h))
