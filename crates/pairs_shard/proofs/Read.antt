-- A shard read as a job: its operation, its left operand and its right one (`ShardIs`), by its
-- words. Assumes nothing.
use mathlib.Core.Path.{◌≡◌, sym, ◌∙◌, ap}
use mathlib.Core.List.{List, map}
use Prim.Native.Nat.{ℕ, suc, ◌+◌, ◌*◌, ◌-◌, ◌<◌}
use native.Mathlib.Numerals.{add-one}
use native.Mathlib.Omega.{arith}
use lib.Dec.{eqb}
use lib.ListN.{length, take, drop, get_or, length-drop}
use lib.Seq.{slice, drop-drop, take-take, get_or-take, get_or-drop, length-take-le}
use Rattle.integers.proofs.Elements.{map-drop, map-take}
use Rattle.plane.specs.Plane.{Pt}
use Rattle.corners.specs.Corners.{points_of}
use Rattle.table.specs.Table.{parts_of, table_parts}
use Rattle.table.specs.Stored.{words_of, word_at, signed}
use Rattle.corners.proofs.Corners.{points_slice}
use Rattle.table.proofs.Rules.{count_parts}
use Rattle.pairs_job.specs.Job.{bounds_at, starts_at, corners_at, table_words, left_of, right_of}
use Rattle.pairs_shard.specs.Shard.{past_part, first_part, start_at, corner_place, shard_starts, shard_bytes, shard_of, shard_fault, Cuts}
use Rattle.pairs_shard.specs.Whole.{ShardOperands}
use Rattle.pairs_shard.proofs.Faults.{cuttable}
use Rattle.pairs_shard.proofs.Known.{known, start_word, rising, many, asked}
use Rattle.pairs_shard.proofs.Words.{laid_head, laid_parts, laid_corners, starts_laid, corners_laid, rest_laid, rest_operand, right_from, length_starts, length_head, length_corners, shard_words}
use Rattle.pairs_shard.proofs.Parts.{Rise, rise_by, parts_cut, take_within, slice_drop, clamped}

module _ {f e : ℕ} {bytes : List ℕ} (c : Cuts f e bytes) where
  abbrev S : List ℕ
  S = shard_bytes f e bytes

  abbrev W : List ℕ
  W = words_of bytes

  abbrev H : List ℕ
  H = take 5 W

  abbrev T : List ℕ
  T = shard_starts f e bytes

  abbrev C : List ℕ
  C = slice (corner_place bytes f) (corner_place bytes e) W

  abbrev R : List ℕ
  R = drop (5 + table_words bytes 5) W

  abbrev x : ℕ
  x = e - f

  abbrev y : ℕ
  y = start_at bytes e - start_at bytes f

  -- ---- its words

  pub head_word : (i : ℕ) → i < 5 → word_at S i ≡ word_at bytes i
  head_word i h =
      ap (λ w. get_or w i 0) (shard_words c)
      ∙ laid_head H T C R x y (length_head c) (length_starts c) (length_corners c) h ∙ get_or-take 5 W i 0 h

  pub parts_word : word_at S 5 ≡ e - f
  parts_word =
      ap (λ w. get_or w 5 0) (shard_words c) ∙ laid_parts H T C R x y (length_head c) (length_starts c) (length_corners c)

  pub corners_word : word_at S 6 ≡ start_at bytes e - start_at bytes f
  corners_word =
      ap (λ w. get_or w 6 0) (shard_words c) ∙ laid_corners H T C R x y (length_head c) (length_starts c) (length_corners c)

  pub starts_read : starts_at S 5 ≡ T
  starts_read =
      (λ i. take (parts_word i + 1) (drop 7 (shard_words c i)))
      ∙ starts_laid H T C R x y (length_head c) (length_starts c) (length_corners c)

  pub corners_read : corners_at S 5 ≡ map signed C
  corners_read =
      (λ i. map signed (take (2 * corners_word i) (drop (5 + 3 + parts_word i) (shard_words c i))))
      ∙ ap (map signed) (corners_laid H T C R x y (length_head c) (length_starts c) (length_corners c))

  pub rest_read : drop (5 + table_words S 5) (words_of S) ≡ R
  rest_read =
      (λ i. drop (5 + (3 + parts_word i + 2 * corners_word i)) (shard_words c i))
      ∙ rest_laid H T C R x y (length_head c) (length_starts c) (length_corners c)

  -- ---- its operands

  pub right_read : right_of S ≡ right_of bytes
  right_read = right_from S ∙ ap rest_operand rest_read ∙ sym (right_from bytes)

  pub bounds_read : bounds_at S 1 ≡ bounds_at bytes 1
  bounds_read = λ i. record {
    min_x = signed (head_word 1 (omega arith) i);
    max_x = signed (head_word 2 (omega arith) i);
    min_y = signed (head_word 3 (omega arith) i);
    max_y = signed (head_word 4 (omega arith) i);
  }

  -- ---- its left parts

  abbrev s₀ : List ℕ
  s₀ = starts_at bytes 5

  abbrev l₀ : List Pt
  l₀ = points_of (corners_at bytes 5)

  -- some of the table's starts
  pub some_starts : take (e - f + 1) (drop (7 + f) W) ≡ take (suc (e - f)) (drop f s₀)
  some_starts =
      ap (take (e - f + 1)) (sym (drop-drop f 7 W)) ∙ sym (take_within f (e - f + 1) (word_at bytes 5 + 1) (drop 7 W) (omega (arith, c.parts, c.past)))
      ∙ ap (λ n. take n (drop f s₀)) (add-one (e - f))

  -- some of its numbers, and so of its points
  pub some_numbers : map signed C ≡ slice (2 * start_at bytes f) (2 * start_at bytes e) (corners_at bytes 5)
  some_numbers =
      let k = known f e bytes c in
      let a = 2 * start_at bytes f in
      let b = 2 * start_at bytes e in
      let n = 2 * word_at bytes 6 in
      let q = 8 + word_at bytes 5 in
      ap (map signed) (slice_drop q W (omega arith) ∙ ap (drop a) (sym (take-take b n (drop q W) (omega arith))))
      ∙ map-drop signed a (take b (take n (drop q W))) ∙ ap (drop a) (map-take signed b (take n (drop q W)))

  some_points : points_of (map signed C) ≡ slice (start_at bytes f) (start_at bytes e) l₀
  some_points = ap points_of some_numbers ∙ points_slice (start_at bytes f) (start_at bytes e) (corners_at bytes 5)

  starts_at_lem : (k : ℕ) → k < suc (e - f) → get_or (take (suc (e - f)) (drop f s₀)) k 0 ≡ start_at bytes (f + k)
  starts_at_lem k h =
      get_or-take (suc (e - f)) (drop f s₀) k 0 h ∙ get_or-drop f s₀ k 0 ∙ start_word bytes (omega (arith, c.parts, c.past))

  some_length : length (take (suc (e - f)) (drop f s₀)) ≡ suc (e - f)
  some_length = length-take-le (suc (e - f)) (drop f s₀) (omega (arith, length-drop f s₀, many f e bytes c, c.parts, c.past))

  rise : Rise (start_at bytes e) (take (suc (e - f)) (drop f s₀))
  rise =
      rise_by (take (suc (e - f)) (drop f s₀))
      (λ k h. let z : f + suc k ≡ f + k + 1 = omega arith in
      omega (arith, starts_at_lem k (omega (arith, some_length)), starts_at_lem (suc k) (omega (arith, some_length)), ap (start_at bytes) z, rising f e bytes c (f + k) 1 (omega (arith, some_length, c.parts, c.past))))
      (λ k h. let z : f + k + (e - f - k) ≡ e = omega (arith, some_length, c.parts) in
      omega (arith, starts_at_lem k (omega (arith, some_length)), ap (start_at bytes) z, rising f e bytes c (f + k) (e - f - k) (omega (arith, z, c.past))))

  first_start : get_or s₀ f 0 ≡ start_at bytes f
  first_start = start_word bytes (omega (arith, c.parts, c.past))

  pub parts_read : table_parts (starts_at S 5) (corners_at S 5) ≡ take (e - f) (drop f (table_parts s₀ (corners_at bytes 5)))
  unfolding table_parts
  parts_read =
      (λ i. parts_of (starts_read i) (points_of (corners_read i)))
      ∙ (λ i. parts_of (map (λ t. t - sym first_start i) (some_starts i)) (some_points i))
      ∙ ap (λ a. parts_of (map (λ t. t - get_or s₀ f 0) (take (suc (e - f)) (drop f s₀))) (slice a (start_at bytes e) l₀)) (sym first_start)
      ∙ parts_cut f (e - f) (start_at bytes e) s₀ l₀ (omega (arith, many f e bytes c, c.parts, c.past)) rise

-- ---- the shard of the numbers that are asked for

pub left_count : (bytes : List ℕ) → shard_fault bytes ≡ 0 → length (table_parts (starts_at bytes 5) (corners_at bytes 5)) ≡ word_at bytes 5
left_count bytes z =
    let u = asked 0 0 {bytes = bytes} z in
    omega (arith, count_parts (starts_at bytes 5) (corners_at bytes 5) (cuttable bytes z).rules, many _ _ bytes u)

pub shard_operands : ShardOperands
unfolding shard_of left_of
shard_operands i j bytes z =
    let f = first_part i j bytes in
    let e = past_part j bytes in
    let u = asked i j {bytes = bytes} z in
    record {
      operation = ap (λ w. eqb w 1) (head_word u 0 (omega arith));
      parts = parts_read u ∙ clamped i j (table_parts (starts_at bytes 5) (corners_at bytes 5)) (left_count bytes z);
      bounds = bounds_read u;
      right = right_read u;
    }
