-- The fault of a job's shape, by the tests that code makes, and the job's: where the shape has one
-- it is the job's (`shape_told`), else the operands' alone decides (`shape_passed`), and both
-- tables lie within the bytes and the limits (`shaped`). Assumes nothing.
use mathlib.Core.Path.{◌≡◌, sym, ◌∙◌, ap}
use mathlib.Core.Bool.{true, false}
use mathlib.Core.List.{List, [], ◌∷◌}
use Prim.Native.Nat.{ℕ, ◌+◌, ◌*◌, ◌<◌, ◌≤◌}
use native.Mathlib.Omega.{arith}
use borrow.Author.Tests.{ltb-false, lt-ltb, le-ltb}
use lib.Dec.{ltb}
use lib.ListN.{length}
use Rattle.integers.specs.Faults.{first_fault}
use Rattle.integers.proofs.Faults.{first_this, first_next, first_none, first_empty}
use Rattle.integers.proofs.Order.{by_test}
use Rattle.integers.proofs.Tests.{either_false}
use Rattle.table.specs.Stored.{word_at}
use Rattle.table.specs.Table.{max_parts, max_corners, table_broken}
use Rattle.minkowski.specs.Pairs.{pair_kinds}
use Rattle.pairs_job.specs.Job.{table_words, operation, reflected_of, right_place, left_of, right_of, job_length_broken, job_fault, counts_broken, shape_fault}
use Rattle.pairs_job.proofs.Sizes.{sized, place, counts_rules}

module _ (bytes : List ℕ) where
  -- ---- the tests in their order

  pub too_short : length bytes < 4 → 13 ≡ shape_fault bytes
  unfolding shape_fault
  too_short h = sym (first_this 13 _ (lt-ltb _ 4 h))

  module _ (h : 4 ≤ length bytes) where
    pub other_operation : {w : ℕ} → w ≡ operation bytes → 1 < w → 13 ≡ shape_fault bytes
    unfolding shape_fault
    other_operation e k =
        sym (first_next 13 _ (le-ltb _ 4 h) ∙ first_this 13 _ (lt-ltb 1 (operation bytes) (omega (arith, e, k))))

    module _ {w : ℕ} (e : w ≡ operation bytes) (k : w ≤ 1) where
      past_operation : shape_fault bytes ≡ first_fault ((7, job_length_broken bytes) ∷ (7, counts_broken bytes 5) ∷ (7, counts_broken bytes (right_place bytes)) ∷ [])
      unfolding shape_fault
      past_operation =
          first_next 13 _ (le-ltb _ 4 h) ∙ first_next 13 _ (le-ltb 1 (operation bytes) (omega (arith, e, k)))

      pub other_length : job_length_broken bytes ≡ true → 7 ≡ shape_fault bytes
      other_length t = sym (past_operation ∙ first_this 7 _ t)

      module _ (l : job_length_broken bytes ≡ false) where
        pub left_counts : counts_broken bytes 5 ≡ true → 7 ≡ shape_fault bytes
        left_counts t = sym (past_operation ∙ first_next 7 _ l ∙ first_this 7 _ t)

        module _ (a : counts_broken bytes 5 ≡ false) {r : ℕ} (p : r ≡ right_place bytes) where
          past_left : shape_fault bytes ≡ first_fault ((7, counts_broken bytes (right_place bytes)) ∷ [])
          past_left = past_operation ∙ first_next 7 _ l ∙ first_next 7 _ a

          pub right_counts : counts_broken bytes r ≡ true → 7 ≡ shape_fault bytes
          right_counts t = sym (past_left ∙ first_this 7 _ (sym (ap (counts_broken bytes) p) ∙ t))

          pub well_shaped : counts_broken bytes r ≡ false → 0 ≡ shape_fault bytes
          well_shaped t = sym (past_left ∙ first_next 7 _ (sym (ap (counts_broken bytes) p) ∙ t) ∙ first_empty)

  -- ---- a job of the right length

  module _ (l : job_length_broken bytes ≡ false) where
    pub left_inside : 4 * (5 + table_words bytes 5) ≤ length bytes
    left_inside = omega (arith, sized bytes l, place bytes)

    pub right_inside : 4 * (right_place bytes + table_words bytes (right_place bytes)) ≤ length bytes
    right_inside = omega (arith, sized bytes l)

    pub right_bounds_inside : 4 * (5 + table_words bytes 5 + 4) ≤ length bytes
    right_bounds_inside = omega (arith, sized bytes l, place bytes)

  -- ---- a job whose shape has no fault

  pub record Shaped : Type 0 where
    pub long : 4 ≤ length bytes
    pub known : operation bytes ≤ 1
    pub right_length : job_length_broken bytes ≡ false
    pub left_parts : word_at bytes 5 ≤ max_parts
    pub left_corners : word_at bytes 6 ≤ max_corners
    pub right_parts : word_at bytes (right_place bytes) ≤ max_parts
    pub right_corners : word_at bytes (right_place bytes + 1) ≤ max_corners

  pub shaped : shape_fault bytes ≡ 0 → Shaped
  unfolding shape_fault
  shaped e =
      let a = first_none (ltb (length bytes) 4) _ (omega arith) e in
      let b = first_none (ltb 1 (operation bytes)) _ (omega arith) a.1 in
      let c = first_none (job_length_broken bytes) _ (omega arith) b.1 in
      let d = first_none (counts_broken bytes 5) _ (omega arith) c.1 in
      let f = first_none (counts_broken bytes (right_place bytes)) _ (omega arith) d.1 in
      let x = either_false (ltb max_parts (word_at bytes 5)) _ d.0 in
      let y = either_false (ltb max_parts (word_at bytes (right_place bytes))) _ f.0 in
      record {
        long = ltb-false _ 4 a.0;
        known = ltb-false 1 _ b.0;
        right_length = c.0;
        left_parts = ltb-false max_parts _ x.0;
        left_corners = ltb-false max_corners _ x.1;
        right_parts = ltb-false max_parts _ y.0;
        right_corners = ltb-false max_corners _ y.1;
      }

  -- ---- the job's fault

  pub job_operation : ltb (length bytes) 4 ≡ false → ltb 1 (operation bytes) ≡ true → job_fault bytes ≡ 13
  unfolding job_fault
  job_operation a b = first_next 13 _ a ∙ first_this 13 _ b

  pub job_length : ltb (length bytes) 4 ≡ false → ltb 1 (operation bytes) ≡ false → job_length_broken bytes ≡ true → job_fault bytes ≡ 7
  unfolding job_fault
  job_length a b l = first_next 13 _ a ∙ first_next 13 _ b ∙ first_this 7 _ l

  -- a count past its limit breaks its table's rules, which 7 is told of before anything else of the
  -- operands
  module _ (a : ltb (length bytes) 4 ≡ false) (b : ltb 1 (operation bytes) ≡ false) (l : job_length_broken bytes ≡ false) where
    pub to_operands : job_fault bytes ≡ first_fault (pair_kinds (reflected_of bytes) (left_of bytes) (right_of bytes))
    unfolding job_fault
    to_operands = first_next 13 _ a ∙ first_next 13 _ b ∙ first_next 7 _ l

    left_told : counts_broken bytes 5 ≡ true → job_fault bytes ≡ 7
    unfolding left_of
    left_told t = to_operands ∙ first_this 7 _ (counts_rules bytes 5 (left_inside l) t)

    right_told : counts_broken bytes (right_place bytes) ≡ true → job_fault bytes ≡ 7
    unfolding right_of
    right_told t =
        to_operands
        ∙ by_test (table_broken (left_of bytes).starts (left_of bytes).corners) (λ f. first_this 7 _ f)
        (λ f. first_next 7 _ f ∙ first_this 7 _ (counts_rules bytes (right_place bytes) (right_inside l) t))

  pub shape_passed : shape_fault bytes ≡ 0 → job_fault bytes ≡ first_fault (pair_kinds (reflected_of bytes) (left_of bytes) (right_of bytes))
  shape_passed e = let s = shaped e in to_operands (le-ltb _ 4 s.long) (le-ltb 1 _ s.known) s.right_length

  pub shape_told : (shape_fault bytes ≡ 0 → ⊥) → job_fault bytes ≡ shape_fault bytes
  unfolding shape_fault job_fault
  shape_told d =
      by_test (ltb (length bytes) 4)
      (λ a. first_this 13 _ a ∙ sym (first_this 13 _ a))
      (λ a. by_test (ltb 1 (operation bytes))
      (λ b. job_operation a b ∙ sym (first_next 13 _ a ∙ first_this 13 _ b))
      (λ b. let shape = first_next 13 _ a ∙ first_next 13 _ b in
      by_test (job_length_broken bytes)
      (λ l. job_length a b l ∙ sym (shape ∙ first_this 7 _ l))
      (λ l. by_test (counts_broken bytes 5)
      (λ x. left_told a b l x ∙ sym (shape ∙ first_next 7 _ l ∙ first_this 7 _ x))
      (λ x. by_test (counts_broken bytes (right_place bytes))
      (λ y. right_told a b l y ∙ sym (shape ∙ first_next 7 _ l ∙ first_next 7 _ x ∙ first_this 7 _ y))
      (λ y. absurd (d (shape ∙ first_next 7 _ l ∙ first_next 7 _ x ∙ first_next 7 _ y ∙ first_empty)))))))
