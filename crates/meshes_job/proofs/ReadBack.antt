-- A job's bytes read back. In order: one operand, where its words stand (`operand_read`); the job
-- of two operands without faults of their own (`job_read`); that of two files (`job_read_back`).
-- Assumes nothing.
use mathlib.Core.Path.{◌≡◌, refl, sym, ◌∙◌, ap, ap₂}
use mathlib.Core.Bool.{Bool, false}
use mathlib.Core.List.{List, [], ◌∷◌, ◌++◌, map, append_assoc, append-nil}
use Prim.Native.Nat.{ℕ, ◌+◌, ◌*◌, ◌-◌, ◌/◌, ◌%◌, ◌≤◌}
use native.Mathlib.Omega.{arith}
use borrow.Author.Tests.{eq-eqb, le-ltb, ltb-false}
use lib.Dec.{eqb, ltb}
use lib.ListN.{length, take, drop, get_or, length-append, length-map}
use lib.Seq.{take_at, drop_at, drop-drop, get_or-drop, length-take-le}
use lib.IntN.{ℤ}
use mir.Syntax.{w32}
use mir.Val.{SFits}
use mir.ValLaws.{to_z-of_z, of_z_fits}
use Rattle.integers.specs.Word.{unsigned}
use Rattle.integers.specs.Lists.{All}
use Rattle.integers.specs.Faults.{first_fault}
use Rattle.integers.proofs.Faults.{first_none}
use Rattle.integers.proofs.Elements.{all_map, all_append, all_image, get_or_all}
use Rattle.table.specs.declared.IntRect.{IntRect}
use Rattle.table.specs.Table.{table_broken, bounds_list, part_count}
use Rattle.corners.specs.Corners.{off_range}
use Rattle.table.specs.Stored.{words_of, word_bytes, word_at, signed}
use Rattle.table.proofs.Rules.{Sound, sound}
use Rattle.table.proofs.Words.{Word, length-word_bytes, words_word_bytes, signed_unsigned}
use Rattle.corners.proofs.Range.{fit_all}
use Rattle.minkowski.specs.Pairs.{Operand, operand_off, result_bounds, pair_kinds}
use Rattle.split_operand.specs.Operand.{Unfaulted}
use Rattle.split_operand.proofs.Operand.{split_pairs}
use Rattle.mesh_operand.proofs.Operand.{file_is_operand}
use Rattle.mesh_pair.specs.Files.{left_file, right_file, left_operand, right_operand}
use Rattle.pairs_job.specs.Job.{bounds_at, starts_at, corners_at, table_words, operation, reflected_of, right_place, operand_at, left_of, right_of, job_length_broken, job_fault}
use Rattle.pairs_job.proofs.Sizes.{place}
use Rattle.pairs_job.proofs.Shape.{to_operands}
use Rattle.meshes_job.specs.Job.{operand_words, job_bytes, operation_fault, meshes_fault, job_of}
use Rattle.meshes_job.specs.Printed.{result_fault, ReadBack, JobReadBack}
use Rattle.meshes_job.proofs.Putting.{operand_length}
use Rattle.meshes_job.proofs.Refused.{both_accepted, files_accepted, operation_accepted}

-- ---- one operand

-- numbers that fit are the words of themselves
words_of_lem : (l : List ℤ) → All (SFits w32) l → All Word (map unsigned l)
words_of_lem l h = (all_image Word unsigned l).1 (all_map l (λ z f. (of_z_fits w32 z f).fits) h)

module _ (o : Operand) (table : table_broken o.starts o.corners ≡ false) (range : operand_off o ≡ false) where
  fits : All (SFits w32) o.corners × All (SFits w32) (bounds_list o.bounds)
  fits = (all_append (SFits w32) o.corners (bounds_list o.bounds)).0 (fit_all (o.corners ++ bounds_list o.bounds) range)

  pub operand_words_lem : All Word (operand_words o)
  unfolding operand_words
  operand_words_lem =
      let t = sound o.starts o.corners table in
      let b = words_of_lem (bounds_list o.bounds) fits.1 in
      let s : All Word o.starts = get_or_all Word o.starts 0 (λ i h. omega (arith, t.bounded i h, t.few_corners)) in
      let r = (all_append Word o.starts (map unsigned o.corners)).1 (s, words_of_lem o.corners fits.0) in
      (b.0, (b.1.0, (b.1.1.0, (b.1.1.1.0, (omega (arith, t.few_parts), (omega (arith, t.few_corners), r))))))

  pub length_operand : length (operand_words o) ≡ 4 + (3 + part_count o.starts + 2 * (length o.corners / 2))
  length_operand = let t = sound o.starts o.corners table in omega (arith, operand_length o.bounds o.starts o.corners, t.some, t.even)

  -- its words stand from word b on, with others after them
  module _ (J : List ℕ) (b : ℕ) (rest : List ℕ) (e : drop b (words_of J) ≡ operand_words o ++ rest) where
    word : (i : ℕ) → word_at J (b + i) ≡ get_or (operand_words o ++ rest) i 0
    word i = sym (get_or-drop b (words_of J) i 0) ∙ ap (λ ws. get_or ws i 0) e

    word_as : (i : ℕ) {k : ℕ} → k ≡ b + i → word_at J k ≡ get_or (operand_words o ++ rest) i 0
    word_as i q = ap (word_at J) q ∙ word i

    parts_read : word_at J (b + 4) ≡ part_count o.starts
    unfolding operand_words
    parts_read = word 4

    corners_count : word_at J (b + 4 + 1) ≡ length o.corners / 2
    unfolding operand_words
    corners_count = word_as 5 (omega arith)

    pub words_read : table_words J (b + 4) ≡ 3 + part_count o.starts + 2 * (length o.corners / 2)
    words_read = ap₂ (λ p q. 3 + p + 2 * q) parts_read corners_count

    table_words_lem : drop (b + 4 + 2) (words_of J) ≡ o.starts ++ (map unsigned o.corners ++ rest)
    unfolding operand_words
    table_words_lem =
        let n : b + 4 + 2 ≡ b + 6 = omega arith in
        ap (λ k. drop k (words_of J)) n ∙ sym (drop-drop 6 b (words_of J)) ∙ ap (drop 6) e ∙ append_assoc o.starts (map unsigned o.corners) rest

    starts_read : starts_at J (b + 4) ≡ o.starts
    starts_read =
        let t = sound o.starts o.corners table in
        (λ i. take (parts_read i + 1) (table_words_lem i)) ∙ take_at o.starts (map unsigned o.corners ++ rest) (part_count o.starts + 1) (omega (arith, t.some))

    corners_read : corners_at J (b + 4) ≡ o.corners
    corners_read =
        let t = sound o.starts o.corners table in
        let c = map unsigned o.corners in
        let n : b + 4 + 3 + word_at J (b + 4) ≡ b + 4 + 2 + length o.starts = omega (arith, parts_read, t.some) in
        let d : drop (b + 4 + 3 + word_at J (b + 4)) (words_of J) ≡ c ++ rest =
        ap (λ k. drop k (words_of J)) n ∙ sym (drop-drop (length o.starts) (b + 4 + 2) (words_of J)) ∙ ap (drop (length o.starts)) table_words_lem ∙ drop_at o.starts (c ++ rest) (length o.starts) refl in
        ap (map signed)
        ((λ i. take (2 * corners_count i) (d i)) ∙ take_at c rest (2 * (length o.corners / 2)) (omega (arith, length-map o.corners unsigned, t.even)))
        ∙ signed_unsigned fits.0

    bounds_read : bounds_at J b ≡ o.bounds
    unfolding operand_words
    bounds_read =
        let f = fits.1 in
        let n : b ≡ b + 0 = omega arith in
        let w0 = ap signed (word_as 0 n) ∙ to_z-of_z w32 _ f.0 in
        let w1 = ap signed (word 1) ∙ to_z-of_z w32 _ f.1.0 in
        let w2 = ap signed (word 2) ∙ to_z-of_z w32 _ f.1.1.0 in
        let w3 = ap signed (word 3) ∙ to_z-of_z w32 _ f.1.1.1.0 in
        (λ i. record { min_x = w0 i; max_x = w1 i; min_y = w2 i; max_y = w3 i })

    pub operand_read : operand_at J b (b + 4) ≡ o
    operand_read = λ i. record { starts = starts_read i; corners = corners_read i; bounds = bounds_read i }

-- ---- the job of two operands

module _ (op : ℕ) (l r : Operand) (h : op ≤ 1) (a : Unfaulted l) (b : Unfaulted r) where
  abbrev J : List ℕ
  J = job_bytes op l r

  abbrev W : List ℕ
  W = op ∷ (operand_words l ++ operand_words r)

  words_job : words_of J ≡ W
  unfolding job_bytes
  words_job = words_word_bytes (omega arith, (all_append Word (operand_words l) (operand_words r)).1 (operand_words_lem l a.table a.range, operand_words_lem r b.table b.range))

  operation_job : operation J ≡ op
  operation_job = ap (λ ws. get_or ws 0 0) words_job

  left_words : drop 1 (words_of J) ≡ operand_words l ++ operand_words r
  left_words = ap (drop 1) words_job

  left_size : 1 + length (operand_words l) ≡ 5 + table_words J 5
  left_size = omega (arith, length_operand l a.table a.range, words_read l a.table a.range J 1 (operand_words r) left_words)

  right_words : drop (5 + table_words J 5) (words_of J) ≡ operand_words r ++ []
  right_words =
      ap (λ k. drop k (words_of J)) (sym left_size) ∙ sym (drop-drop (length (operand_words l)) 1 (words_of J)) ∙ ap (drop (length (operand_words l))) left_words
      ∙ drop_at (operand_words l) (operand_words r) (length (operand_words l)) refl ∙ sym (append-nil (operand_words r))

  left_job : left_of J ≡ l
  unfolding left_of
  left_job = operand_read l a.table a.range J 1 (operand_words r) left_words

  right_job : right_of J ≡ r
  unfolding right_of right_place
  right_job = operand_read r b.table b.range J (5 + table_words J 5) [] right_words

  length_job : length J ≡ 4 * length W
  unfolding job_bytes
  length_job = length-word_bytes W

  sized_job : job_length_broken J ≡ false
  unfolding job_length_broken
  sized_job =
      let p = ap (table_words J) (place J) ∙ words_read r b.table b.range J (5 + table_words J 5) [] right_words in
      let n : length J ≡ 4 * (right_place J + table_words J (right_place J)) =
      omega (arith, length_job, length-append (operand_words l) (operand_words r), left_size, length_operand r b.table b.range, p, place J) in
      rw (eq-eqb _ _ n)

  fault_job : job_fault J ≡ first_fault (pair_kinds (eqb op 1) l r)
  fault_job =
      to_operands J (le-ltb (length J) 4 (omega (arith, length_job))) (ap (ltb 1) operation_job ∙ le-ltb 1 op h) sized_job
      ∙ (λ i. first_fault (pair_kinds (eqb (operation_job i) 1) (left_job i) (right_job i)))

-- ---- that of two files

pub job_read_back : JobReadBack
unfolding job_of result_fault
job_read_back bytes e =
    let files = drop 4 bytes in
    let h = both_accepted files (files_accepted bytes e) in
    let l = left_operand files in
    let r = right_operand files in
    let a = file_is_operand (left_file files) h.0 in
    let b = file_is_operand (right_file files) h.1 in
    let op = word_at bytes 0 in
    let k = operation_accepted bytes e in
    record {
      operation = ap (λ w. eqb w 1) (operation_job op l r k a b);
      left = left_job op l r k a b;
      right = right_job op l r k a b;
      fault = fault_job op l r k a b ∙ split_pairs (reflected_of bytes) l r a b;
    }
