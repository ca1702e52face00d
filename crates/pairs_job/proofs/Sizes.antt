-- How long a job is. In order: the length by the counts, as code tests it; a table that lies within
-- the bytes has as many starts and numbers as its counts say (`count_starts`, `count_numbers`), and
-- counts past the limits break its rules (`counts_rules`); of a job of the right length, where its
-- tables lie (`sized`). Assumes nothing.
use mathlib.Core.Path.{◌≡◌, ◌∙◌, ap}
use mathlib.Core.Bool.{true, false, not}
use mathlib.Core.List.{List}
use Prim.Native.Nat.{ℕ, ◌+◌, ◌*◌, ◌<◌, ◌≤◌}
use native.Mathlib.Omega.{arith}
use borrow.Author.Tests.{ltb-true, eqb-true, le-ltb, ne_eqb, not-false}
use lib.Dec.{eqb}
use lib.ListN.{length, take, drop, length-drop, length-map}
use lib.Seq.{length-take-le}
use Rattle.integers.proofs.Order.{by_test}
use Rattle.table.specs.Stored.{words_of, word_at, signed}
use Rattle.table.specs.Table.{max_parts, max_corners, table_broken}
use Rattle.table.proofs.Rules.{tests}
use Rattle.table.proofs.Words.{length_words}
use Rattle.pairs_job.specs.Job.{starts_at, corners_at, table_words, right_place, job_length_broken, counts_broken}

-- ---- the length by the counts

module _ (bytes : List ℕ) where
  -- a job has at least 15 words: the operation, the bounds, four counts and two starts
  pub no_left_count : length bytes < 28 → true ≡ job_length_broken bytes
  unfolding job_length_broken right_place
  no_left_count h = rw (ne_eqb (length bytes) (4 * (right_place bytes + table_words bytes (right_place bytes))) (λ e. omega (arith, e)))

  pub no_right_count : {r : ℕ} → r ≡ right_place bytes → length bytes < 4 * (r + 2) → true ≡ job_length_broken bytes
  unfolding job_length_broken
  no_right_count e h = rw (ne_eqb (length bytes) (4 * (right_place bytes + table_words bytes (right_place bytes))) (λ d. omega (arith, d, e)))

  pub by_counts : {r n : ℕ} → r ≡ right_place bytes → n ≡ table_words bytes r → not (eqb (length bytes) (4 * (r + n))) ≡ job_length_broken bytes
  unfolding job_length_broken
  by_counts e d = ap (λ m. not (eqb (length bytes) (4 * m))) (λ i. e i + (d ∙ ap (table_words bytes) e) i)

  pub sized : job_length_broken bytes ≡ false → length bytes ≡ 4 * (right_place bytes + table_words bytes (right_place bytes))
  unfolding job_length_broken
  sized e = eqb-true _ _ (not-false _ e)

  pub place : right_place bytes ≡ 5 + table_words bytes 5 + 4
  unfolding right_place
  place = omega arith

  -- ---- a table within the bytes

  module _ (k : ℕ) (h : 4 * (k + table_words bytes k) ≤ length bytes) where
    pub count_starts : length (starts_at bytes k) ≡ word_at bytes k + 1
    count_starts = length-take-le (word_at bytes k + 1) (drop (k + 2) (words_of bytes)) (omega (arith, length-drop (k + 2) (words_of bytes), length_words bytes))

    pub count_numbers : length (corners_at bytes k) ≡ 2 * word_at bytes (k + 1)
    count_numbers =
        length-map (take (2 * word_at bytes (k + 1)) (drop (k + 3 + word_at bytes k) (words_of bytes))) signed
        ∙ length-take-le (2 * word_at bytes (k + 1)) (drop (k + 3 + word_at bytes k) (words_of bytes)) (omega (arith, length-drop (k + 3 + word_at bytes k) (words_of bytes), length_words bytes))

    -- a table that is not broken has counts within the limits
    pub limits : table_broken (starts_at bytes k) (corners_at bytes k) ≡ false → (word_at bytes k ≤ max_parts) × (word_at bytes (k + 1) ≤ max_corners)
    limits e =
        let t = tests (starts_at bytes k) (corners_at bytes k) e in
        (omega (arith, t.few_parts, count_starts), omega (arith, t.few_corners, count_numbers))

    pub counts_rules : counts_broken bytes k ≡ true → table_broken (starts_at bytes k) (corners_at bytes k) ≡ true
    counts_rules e =
        by_test (table_broken (starts_at bytes k) (corners_at bytes k)) (λ t. t)
        (λ f. absurd (either_over e (limits f)))
      where
        either_over : counts_broken bytes k ≡ true → (word_at bytes k ≤ max_parts) × (word_at bytes (k + 1) ≤ max_corners) → ⊥
        either_over e l = omega (arith, ltb-true max_corners (word_at bytes (k + 1)) (rw (le-ltb max_parts (word_at bytes k) l.0) at e), l.1)
