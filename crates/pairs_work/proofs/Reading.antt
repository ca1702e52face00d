-- A job's operands as they are read: both tables lie within the bytes and have room (`left_table`,
-- `right_table`); the front of a buffer is what was read (`starts-front`, `corners-front`); the
-- answer for what was read is the job's (`begun_job`). Assumes nothing.
use mathlib.Core.Path.{◌≡◌, sym, ◌∙◌, ap, subst}
use mathlib.Core.Bool.{Bool}
use mathlib.Core.List.{List}
use Prim.Native.Nat.{ℕ, ◌+◌, ◌*◌, ◌-◌, ◌≤◌}
use native.Mathlib.Omega.{arith}
use lib.ListN.{length, take, drop, length-append}
use lib.Seq.{take_at, length-take-le}
use lib.IntN.{ℤ}
use Rattle.integers.specs.Lists.{overlay}
use Rattle.integers.proofs.Overlay.{overlay_eq}
use Rattle.table.specs.declared.IntRect.{IntRect}
use Rattle.table.specs.Stored.{word_at}
use Rattle.minkowski.specs.Pairs.{Operand}
use Rattle.minkowski_faults.specs.Kinds.{operand}
use Rattle.pairs_job.specs.Job.{bounds_at, starts_at, corners_at, table_words, reflected_of, right_place, left_of, right_of, job_fault, shape_fault, TableIn}
use Rattle.pairs_job.proofs.Sizes.{sized, place, count_starts, count_numbers}
use Rattle.pairs_job.proofs.Shape.{left_inside, right_inside, shaped, shape_passed}
use Rattle.pairs_work.specs.declared.Begun.{Begun}
use Rattle.pairs_work.specs.Begun.{job_call, call_fault, Begins}

-- ---- where they lie

module _ (bytes : List ℕ) (e : shape_fault bytes ≡ 0) where
  -- at least 15 words
  pub long_enough : 60 ≤ length bytes
  long_enough = omega (arith, sized bytes (shaped bytes e).right_length, place bytes)

  pub left_in : 4 * (5 + table_words bytes 5) ≤ length bytes
  left_in = left_inside bytes (shaped bytes e).right_length

  pub left_table : {starts : List ℕ} {corners : List ℤ} → length starts ≡ 2049 → length corners ≡ 16384 → TableIn bytes 5 starts corners
  left_table h k =
      let s = shaped bytes e in
      record { inside = left_in; for_starts = omega (arith, h, s.left_parts); for_corners = omega (arith, k, s.left_corners) }

  module _ {p : ℕ} (q : p ≡ right_place bytes) where
    pub right_after : (4 ≤ p) × (4 * (p + 3) ≤ length bytes)
    right_after = (omega (arith, q, place bytes), omega (arith, q, sized bytes (shaped bytes e).right_length))

    pub right_in : 4 * (p + table_words bytes p) ≤ length bytes
    right_in = subst (λ n. 4 * (n + table_words bytes n) ≤ length bytes) (sym q) (right_inside bytes (shaped bytes e).right_length)

    pub right_table : {starts : List ℕ} {corners : List ℤ} → length starts ≡ 2049 → length corners ≡ 16384 → TableIn bytes p starts corners
    right_table {starts} {corners} h k =
        let s = shaped bytes e in
        subst (λ n. TableIn bytes n starts corners) (sym q)
        (record { inside = right_inside bytes s.right_length; for_starts = omega (arith, h, s.right_parts); for_corners = omega (arith, k, s.right_corners) })

-- ---- the front of a buffer

module _ {A : Type 0} (new old : List A) {buf : List A} (e : buf ≡ overlay new old) {n : ℕ} (h : length new ≡ n) where
  pub front : take n buf ≡ new
  front = ap (take n) (e ∙ overlay_eq new old) ∙ take_at new (drop (length new) old) n h

  pub front_fits : n ≤ length buf
  front_fits = omega (arith, ap length (e ∙ overlay_eq new old), length-append new (drop (length new) old), h)

  pub front_length : n ≡ length (take n buf)
  front_length = sym (length-take-le n buf front_fits)

module _ (bytes : List ℕ) (k : ℕ) (h : 4 * (k + table_words bytes k) ≤ length bytes) {n : ℕ} where
  pub starts_count : n ≡ word_at bytes k → length (starts_at bytes k) ≡ n + 1
  starts_count e = omega (arith, count_starts bytes k h, e)

  pub numbers_count : n ≡ word_at bytes (k + 1) → length (corners_at bytes k) ≡ 2 * n
  numbers_count e = omega (arith, count_numbers bytes k h, e)

-- ---- the operands

pub left_read : (bytes : List ℕ) {s : List ℕ} {c : List ℤ} {b : IntRect} → s ≡ starts_at bytes 5 → c ≡ corners_at bytes 5 → b ≡ bounds_at bytes 1 → operand s c b ≡ left_of bytes
unfolding left_of
left_read bytes p q t = λ i. record { starts = p i; corners = q i; bounds = t i }

pub right_read : (bytes : List ℕ) {k : ℕ} {s : List ℕ} {c : List ℤ} {b : IntRect} → k ≡ right_place bytes → s ≡ starts_at bytes k → c ≡ corners_at bytes k → b ≡ bounds_at bytes (k - 4) → operand s c b ≡ right_of bytes
unfolding right_of
right_read bytes {k} h p q t =
    let m : k - 4 ≡ 5 + table_words bytes 5 = omega (arith, h, place bytes) in
    λ i. record { starts = (p ∙ ap (starts_at bytes) h) i; corners = (q ∙ ap (corners_at bytes) h) i; bounds = (t ∙ ap (bounds_at bytes) m) i }

pub begun_job :
    (bytes : List ℕ) → shape_fault bytes ≡ 0 → {t : Bool} {l r : Operand} {points : List (List ℤ)} {firsts numbers : List ℕ} {b : Begun} → t ≡ reflected_of bytes → l ≡ left_of bytes → r ≡ right_of bytes →
    Begins (record { reflected = t; left = l; right = r }) (call_fault (record { reflected = t; left = l; right = r })) points firsts numbers b → Begins (job_call bytes) (job_fault bytes) points firsts numbers b
begun_job bytes e {points = points} {firsts = firsts} {numbers = numbers} {b = b} p q s h =
    subst (λ f. Begins (job_call bytes) f points firsts numbers b) (sym (shape_passed bytes e)) (subst (λ x. Begins x (call_fault x) points firsts numbers b) (λ i. record { reflected = p i; left = q i; right = s i }) h)
