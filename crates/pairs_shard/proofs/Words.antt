-- The words of a shard. In order: five words, two counts, starts, corners and the rest, read again
-- (`Laid`); words of joined bytes; a right operand by the words from its bounds on (`right_from`);
-- the shard's words (`shard_words`). Assumes nothing.
use mathlib.Core.Path.{◌≡◌, refl, sym, ◌∙◌, ap}
use mathlib.Core.List.{List, [], ◌∷◌, ◌++◌, map, append_assoc}
use Prim.Native.Nat.{ℕ, suc, ◌+◌, ◌*◌, ◌-◌, ◌%◌, ◌<◌}
use native.Mathlib.Omega.{arith}
use lib.ListN.{length, take, drop, get_or, length-append, get_or-append}
use lib.Seq.{slice, take_at, drop_at, drop-drop, drop-append-add, get_or-drop, length-take-le, length-slice}
use Rattle.integers.specs.Lists.{All}
use Rattle.integers.proofs.Elements.{get_or_all}
use Rattle.table.specs.Stored.{word_of, words_of, word_bytes, word_at, signed}
use Rattle.table.proofs.Words.{Word, length_words, length-word_bytes, words_word_bytes}
use Rattle.minkowski.specs.Pairs.{Operand}
use Rattle.pairs_job.specs.Job.{starts_at, corners_at, table_words, right_place, right_of}
use Rattle.pairs_job.proofs.Stored.{words_drop, words_take}
use Rattle.pairs_shard.specs.Shard.{start_at, corner_place, shard_starts, shard_counts, shard_bytes, Cuts}
use Rattle.pairs_shard.proofs.Known.{known, each_bounded}
use Rattle.pairs_shard.proofs.Putting.{length_less, less_at}

-- ---- words laid one after another

module _ (H T C R : List ℕ) (x y : ℕ) (h : length H ≡ 5) (t : length T ≡ x + 1) (c : length C ≡ 2 * y) where
  abbrev all : List ℕ
  all = (H ++ (x ∷ y ∷ T)) ++ (C ++ R)

  behind : (n : ℕ) → drop (5 + n) all ≡ drop n (x ∷ y ∷ (T ++ (C ++ R)))
  behind n =
      ap (drop (5 + n)) (append_assoc H (x ∷ y ∷ T) (C ++ R))
      ∙ ap (λ m. drop (m + n) (H ++ (x ∷ y ∷ (T ++ (C ++ R))))) (sym h) ∙ drop-append-add H (x ∷ y ∷ (T ++ (C ++ R))) n

  pub laid_head : {i : ℕ} → i < 5 → get_or all i 0 ≡ get_or H i 0
  laid_head {i} k = ap (λ l. get_or l i 0) (append_assoc H (x ∷ y ∷ T) (C ++ R)) ∙ get_or-append H (x ∷ y ∷ (T ++ (C ++ R))) 0 i (omega arith)

  pub laid_parts : get_or all 5 0 ≡ x
  laid_parts = sym (get_or-drop 5 all 0 0) ∙ ap (λ l. get_or l 0 0) (behind 0)

  pub laid_corners : get_or all 6 0 ≡ y
  laid_corners = sym (get_or-drop 6 all 0 0) ∙ ap (λ l. get_or l 0 0) (behind 1)

  past_starts : drop (5 + (3 + x)) all ≡ C ++ R
  past_starts =
      let n : 3 + x ≡ suc (suc (x + 1)) = omega arith in
      behind (3 + x) ∙ ap (λ m. drop m (x ∷ y ∷ (T ++ (C ++ R)))) n ∙ drop_at T (C ++ R) (x + 1) t

  pub starts_laid : take (x + 1) (drop 7 all) ≡ T
  starts_laid = ap (take (x + 1)) (behind 2) ∙ take_at T (C ++ R) (x + 1) t

  pub corners_laid : take (2 * y) (drop (5 + 3 + x) all) ≡ C
  corners_laid =
      let n : 5 + 3 + x ≡ 5 + (3 + x) = omega arith in
      ap (λ m. take (2 * y) (drop m all)) n ∙ ap (take (2 * y)) past_starts ∙ take_at C R (2 * y) c

  pub rest_laid : drop (5 + (3 + x + 2 * y)) all ≡ R
  rest_laid =
      let n : 5 + (3 + x + 2 * y) ≡ 5 + (3 + x) + 2 * y = omega arith in
      ap (λ m. drop m all) n ∙ sym (drop-drop (2 * y) (5 + (3 + x)) all) ∙ ap (drop (2 * y)) past_starts ∙ drop_at C R (2 * y) c

-- ---- words of joined bytes

pub words_append : (P Q : List ℕ) → length P % 4 ≡ 0 → words_of (P ++ Q) ≡ words_of P ++ words_of Q
unfolding words_of
words_append [] Q e = refl
words_append (a ∷ []) Q e = absurd (omega arith)
words_append (a ∷ b ∷ []) Q e = absurd (omega arith)
words_append (a ∷ b ∷ c ∷ []) Q e = absurd (omega arith)
words_append (a ∷ b ∷ c ∷ d ∷ P) Q e = ap (λ ws. word_of a b c d ∷ ws) (words_append P Q (omega arith))

-- ---- the right operand, by the words from its bounds on

abbrev pub rest_operand : List ℕ → Operand
rest_operand R = record {
  starts = take (get_or R 4 0 + 1) (drop 6 R);
  corners = map signed (take (2 * get_or R 5 0) (drop (7 + get_or R 4 0) R));
  bounds = record {
    min_x = signed (get_or R 0 0);
    max_x = signed (get_or R 1 0);
    min_y = signed (get_or R 2 0);
    max_y = signed (get_or R 3 0);
  };
}

module _ (bytes : List ℕ) where
  abbrev W : List ℕ
  W = words_of bytes

  abbrev b : ℕ
  b = 5 + table_words bytes 5

  abbrev R : List ℕ
  R = drop b W

  at : {n : ℕ} (i : ℕ) → n ≡ b + i → word_at bytes n ≡ get_or R i 0
  at i e = ap (word_at bytes) e ∙ sym (get_or-drop b W i 0)

  from : (n i : ℕ) → n ≡ b + i → drop n W ≡ drop i R
  from n i e = ap (λ m. drop m W) e ∙ sym (drop-drop i b W)

  pub right_parts : word_at bytes (right_place bytes) ≡ get_or R 4 0
  unfolding right_place
  right_parts = at 4 refl

  pub right_corners : word_at bytes (right_place bytes + 1) ≡ get_or R 5 0
  unfolding right_place
  right_corners = at 5 (omega arith)

  right_starts_from : starts_at bytes (right_place bytes) ≡ take (get_or R 4 0 + 1) (drop 6 R)
  unfolding right_place
  right_starts_from = λ i. take (right_parts i + 1) (from (right_place bytes + 2) 6 (omega arith) i)

  right_corners_from : corners_at bytes (right_place bytes) ≡ map signed (take (2 * get_or R 5 0) (drop (7 + get_or R 4 0) R))
  unfolding right_place
  right_corners_from =
      ap (λ n. map signed (take (2 * n) (drop (right_place bytes + 3 + word_at bytes (right_place bytes)) W))) right_corners
      ∙ ap (λ l. map signed (take (2 * get_or R 5 0) l)) (from (right_place bytes + 3 + word_at bytes (right_place bytes)) (7 + word_at bytes (right_place bytes)) (omega arith))
      ∙ ap (λ n. map signed (take (2 * get_or R 5 0) (drop (7 + n) R))) right_parts

  pub right_from : right_of bytes ≡ rest_operand R
  unfolding right_of
  right_from = λ i. record {
    starts = right_starts_from i;
    corners = right_corners_from i;
    bounds = record {
      min_x = signed (at {n = b} 0 (omega arith) i);
      max_x = signed (at 1 refl i);
      min_y = signed (at 2 refl i);
      max_y = signed (at 3 refl i);
    };
  }

-- ---- the shard's words

module _ {f e : ℕ} {bytes : List ℕ} (c : Cuts f e bytes) where
  counts_small : All Word (shard_counts f e bytes)
  counts_small =
      let k = known f e bytes c in
      let n = length_less (start_at bytes f) (7 + f) (e - f + 1) bytes (omega arith) in (
        omega arith,
        (
          omega arith,
          get_or_all Word (shard_starts f e bytes) 0
              (λ i h. let z : 7 + f + i ≡ 7 + (f + i) = omega arith in
              omega (arith, less_at (start_at bytes f) (7 + f) (e - f + 1) bytes i (omega arith) refl, ap (word_at bytes) z, each_bounded f e bytes c {k = f + i} (omega arith))),
        ),
      )

  pub length_starts : length (shard_starts f e bytes) ≡ e - f + 1
  length_starts = let k = known f e bytes c in length_less (start_at bytes f) (7 + f) (e - f + 1) bytes (omega arith)

  pub length_head : length (take 5 (words_of bytes)) ≡ 5
  length_head = let k = known f e bytes c in length-take-le 5 (words_of bytes) (omega (arith, length_words bytes))

  pub length_corners : length (slice (corner_place bytes f) (corner_place bytes e) (words_of bytes)) ≡ 2 * (start_at bytes e - start_at bytes f)
  length_corners =
      let k = known f e bytes c in
      let n = length-slice (corner_place bytes f) (corner_place bytes e) (words_of bytes) (omega (arith, length_words bytes)) in
      omega arith

  pub shard_words :
      words_of (shard_bytes f e bytes)
      ≡ (take 5 (words_of bytes) ++ shard_counts f e bytes) ++ (slice (corner_place bytes f) (corner_place bytes e) (words_of bytes) ++ drop (5 + table_words bytes 5) (words_of bytes))
  unfolding shard_bytes
  shard_words =
      let k = known f e bytes c in
      let p = take 20 bytes in
      let q = word_bytes (shard_counts f e bytes) in
      let r = slice (4 * corner_place bytes f) (4 * corner_place bytes e) bytes in
      let n₁ : length (take 20 bytes) ≡ 20 = length-take-le 20 bytes (omega arith) in
      let n₂ = length-word_bytes (shard_counts f e bytes) in
      let n₃ = length-slice (4 * corner_place bytes f) (4 * corner_place bytes e) bytes (omega arith) in
      let w₃ = words_drop (corner_place bytes f) (take (4 * corner_place bytes e) bytes) ∙ ap (drop (corner_place bytes f)) (words_take (corner_place bytes e) bytes) in
      words_append (p ++ q) (r ++ drop (4 * (5 + table_words bytes 5)) bytes) (omega (arith, length-append p q))
      ∙ (λ i. words_append p q (omega arith) i ++ words_append r (drop (4 * (5 + table_words bytes 5)) bytes) (omega arith) i)
      ∙ (λ i. (words_take 5 bytes i ++ words_word_bytes {ws = shard_counts f e bytes} counts_small i) ++ (w₃ i ++ words_drop (5 + table_words bytes 5) bytes i))
