-- The job of two stored tables read back. In order: a table and bounds behind some words
-- (`table-behind`, `bounds_behind`); the bounds are words; the job's pieces; the job
-- (`job_read_back`). Assumes nothing.
use mathlib.Core.Path.{◌≡◌, refl, sym, ◌∙◌, ap, ap₂}
use mathlib.Core.Bool.{Bool, true, false, cond}
use mathlib.Core.List.{List, [], ◌∷◌, ◌++◌, append_assoc, append-nil}
use Prim.Native.Nat.{ℕ, zero, suc, ◌+◌, ◌*◌, ◌<◌, ◌≤◌}
use native.Mathlib.Omega.{arith}
use borrow.Author.Tests.{eq-eqb, le-ltb, ltb-false}
use lib.Dec.{eqb, ltb}
use lib.ListN.{length, take, drop, get_or, length-append, length-drop, get_or-append}
use lib.Seq.{take_at, drop_at, get_or-append-add, get_or-take, get_or-drop, length-take-le}
use lib.Signed.{lt_z}
use Rattle.integers.specs.Lists.{All}
use Rattle.integers.specs.Faults.{first_fault}
use Rattle.integers.proofs.Tests.{either_false}
use Rattle.integers.proofs.Faults.{first_none}
use Rattle.table.specs.Table.{table_broken}
use Rattle.table.specs.Stored.{words_of, word_bytes, word_at, signed, stored_starts, stored_corners}
use Rattle.table.proofs.Words.{Word, length_words, length-word_bytes, words_word_bytes, words_small}
use Rattle.minkowski.specs.Pairs.{pair_kinds}
use Rattle.pairs_job.specs.Job.{bounds_at, starts_at, corners_at, table_words, table_bytes, operation, reflected_of, right_place, operand_at, left_of, right_of, job_length_broken, job_fault, counts_broken}
use Rattle.pairs_job.proofs.Shape.{to_operands}
use Rattle.pairs_job.proofs.Stored.{words_drop, words_take, table_stored}
use Rattle.pairs_shard.proofs.Words.{words_append}
use Rattle.tables_job.specs.Tables.{picked_of, extreme_of, bounds_words, right_table, operand_bytes, job_of, tables_length_broken, broken_at, tables_fault}
use Rattle.tables_job.specs.ReadBack.{bounds_in, operand_in, left_in, right_in, left_kinds, JobReadBack}
use Rattle.tables_job.proofs.Operands.{length_operand}
use Rattle.tables_job.proofs.Making.{sized_tables}
use Rattle.tables_job.proofs.Bounds.{bounds_hold}

-- ---- behind m words

module _ (P : List ℕ) (m : ℕ) (e : length P ≡ 4 * m) where
  words_behind : (Q : List ℕ) (j : ℕ) → word_at (P ++ Q) (m + j) ≡ word_at Q j
  words_behind Q j =
      let n : m ≡ length (words_of P) = omega (arith, length_words P, e) in
      ap (λ ws. get_or ws (m + j) 0) (words_append P Q (omega (arith, e)))
      ∙ ap (λ i. get_or (words_of P ++ words_of Q) (i + j) 0) n ∙ get_or-append-add (words_of P) (words_of Q) j 0

  -- a table of other bytes
  module _ (bytes : List ℕ) (k : ℕ) (h : 4 * (k + table_words bytes k) ≤ length bytes) (R : List ℕ) where
    abbrev N : ℕ
    N = table_words bytes k

    abbrev T : List ℕ
    T = table_bytes bytes k

    length_table : length T ≡ 4 * N
    length_table = length-take-le (4 * N) (drop (4 * k) bytes) (omega (arith, length-drop (4 * k) bytes))

    word_behind : {j : ℕ} → j < N → word_at (P ++ (T ++ R)) (m + j) ≡ word_at bytes (k + j)
    word_behind {j} q =
        words_behind (T ++ R) j ∙ ap (λ ws. get_or ws j 0) (words_append T R (omega (arith, length_table)))
        ∙ get_or-append (words_of T) (words_of R) 0 j (omega (arith, length_words T, length_table, q))
        ∙ ap (λ ws. get_or ws j 0) (words_take N (drop (4 * k) bytes) ∙ ap (take N) (words_drop k bytes)) ∙ get_or-take N (drop k (words_of bytes)) j 0 q ∙ get_or-drop k (words_of bytes) j 0

    size_behind : table_words (P ++ (T ++ R)) m ≡ N
    size_behind =
        let u : m ≡ m + 0 = omega arith in
        let v : k + 0 ≡ k = omega arith in
        ap₂ (λ p q. 3 + p + 2 * q) (ap (word_at (P ++ (T ++ R))) u ∙ word_behind (omega arith) ∙ ap (word_at bytes) v) (word_behind (omega arith))

    bytes_behind : table_bytes (P ++ (T ++ R)) m ≡ T
    bytes_behind =
        ap (λ l. take (4 * table_words (P ++ (T ++ R)) m) l) (drop_at P (T ++ R) (4 * m) e)
        ∙ take_at T R (4 * table_words (P ++ (T ++ R)) m) (omega (arith, length_table, size_behind))

    starts_behind : starts_at (P ++ (T ++ R)) m ≡ starts_at bytes k
    starts_behind = (table_stored (P ++ (T ++ R)) m).starts ∙ ap stored_starts bytes_behind ∙ sym (table_stored bytes k).starts

    corners_behind : corners_at (P ++ (T ++ R)) m ≡ corners_at bytes k
    corners_behind = (table_stored (P ++ (T ++ R)) m).corners ∙ ap stored_corners bytes_behind ∙ sym (table_stored bytes k).corners

  -- four words
  four_behind : {a b c d : ℕ} (R : List ℕ) → All Word (a ∷ b ∷ c ∷ d ∷ []) → (j : ℕ) → word_at (P ++ (word_bytes (a ∷ b ∷ c ∷ d ∷ []) ++ R)) (m + j) ≡ get_or ((a ∷ b ∷ c ∷ d ∷ []) ++ words_of R) j 0
  four_behind {a} {b} {c} {d} R w j =
      let B = a ∷ b ∷ c ∷ d ∷ [] in
      words_behind (word_bytes B ++ R) j ∙ ap (λ ws. get_or ws j 0) (words_append (word_bytes B) R (omega (arith, length-word_bytes B)) ∙ ap (λ ws. ws ++ words_of R) (words_word_bytes w))

-- ---- the bounds are words

word_at_lem : (l : List ℕ) → All Word l → (i : ℕ) → Word (get_or l i 0)
word_at_lem [] h i = omega arith
word_at_lem (a ∷ l) h zero = h.0
word_at_lem (a ∷ l) h (suc i) = word_at_lem l h.1 i

either_word : (t : Bool) {a b : ℕ} → Word a → Word b → Word (cond t b a)
either_word true p q = q
either_word false p q = p

picked_word : (g : Bool) {a b : ℕ} → Word a → Word b → Word (picked_of g a b)
picked_word g {a} {b} p q = either_word (cond g (lt_z (signed a) (signed b)) (lt_z (signed b) (signed a))) p q

module _ (bytes : List ℕ) (small : All (λ b. b < 256) bytes) where
  extreme_word : (g : Bool) (from n : ℕ) → Word (extreme_of g bytes from n)
  unfolding extreme_of
  extreme_word g from zero = omega arith
  extreme_word g from (suc zero) = word_at_lem (words_of bytes) (words_small bytes small) from
  extreme_word g from (suc (suc n)) =
      picked_word g (extreme_word g from (suc n)) (word_at_lem (words_of bytes) (words_small bytes small) (from + 2 * suc n))

  bounds_words_lem : (from n : ℕ) → All Word (bounds_words bytes from n)
  bounds_words_lem from n = (extreme_word false from n, (extreme_word true from n, (extreme_word false (from + 1) n, (extreme_word true (from + 1) n, tt))))

  -- bounds and a table behind m words are an operand
  module _ (P : List ℕ) (m : ℕ) (e : length P ≡ 4 * m) (k : ℕ) (h : 4 * (k + table_words bytes k) ≤ length bytes) (R : List ℕ) where
    abbrev B : List ℕ
    B = bounds_words bytes (k + 3 + word_at bytes k) (word_at bytes (k + 1))

    abbrev J : List ℕ
    J = P ++ (operand_bytes bytes k ++ R)

    bounds_first : J ≡ P ++ (word_bytes B ++ (table_bytes bytes k ++ R))
    unfolding operand_bytes
    bounds_first = ap (λ l. P ++ l) (append_assoc (word_bytes B) (table_bytes bytes k) R)

    table_first : J ≡ (P ++ word_bytes B) ++ (table_bytes bytes k ++ R)
    table_first = bounds_first ∙ sym (append_assoc P (word_bytes B) (table_bytes bytes k ++ R))

    longer : length (P ++ word_bytes B) ≡ 4 * (m + 4)
    longer = omega (arith, length-append P (word_bytes B), length-word_bytes B, e)

    bounds_behind : bounds_at J m ≡ bounds_in bytes k
    unfolding bounds_in
    bounds_behind =
        let u : m ≡ m + 0 = omega arith in
        let w = bounds_words_lem (k + 3 + word_at bytes k) (word_at bytes (k + 1)) in
        let at : (j : ℕ) → word_at J (m + j) ≡ get_or (B ++ words_of (table_bytes bytes k ++ R)) j 0 =
        λ j. ap (λ l. word_at l (m + j)) bounds_first ∙ four_behind P m e (table_bytes bytes k ++ R) w j in
        let p = ap signed (ap (word_at J) u ∙ at 0) in
        let q = ap signed (at 1) in
        let r = ap signed (at 2) in
        let s = ap signed (at 3) in
        (λ i. record { min_x = p i; max_x = q i; min_y = r i; max_y = s i })

    pub size_read : table_words J (m + 4) ≡ table_words bytes k
    size_read = ap (λ l. table_words l (m + 4)) table_first ∙ size_behind (P ++ word_bytes B) (m + 4) longer bytes k h R

    pub operand_read : operand_at J m (m + 4) ≡ operand_in bytes k
    operand_read =
        let s = ap (λ l. starts_at l (m + 4)) table_first ∙ starts_behind (P ++ word_bytes B) (m + 4) longer bytes k h R in
        let c = ap (λ l. corners_at l (m + 4)) table_first ∙ corners_behind (P ++ word_bytes B) (m + 4) longer bytes k h R in
        (λ i. record { starts = s i; corners = c i; bounds = bounds_behind i })

-- ---- the job

-- four bytes are a word
first_word : (bytes Q : List ℕ) → 4 ≤ length bytes → (length (take 4 bytes) ≡ 4) × (word_at (take 4 bytes ++ Q) 0 ≡ word_at bytes 0)
unfolding words_of
first_word [] Q h = absurd (omega arith)
first_word (a ∷ []) Q h = absurd (omega arith)
first_word (a ∷ b ∷ []) Q h = absurd (omega arith)
first_word (a ∷ b ∷ c ∷ []) Q h = absurd (omega arith)
first_word (a ∷ b ∷ c ∷ d ∷ bytes) Q h = (refl, refl)

-- what no fault tells
record Good (bytes : List ℕ) : Type 0 where
  pub long : 4 ≤ length bytes
  pub known : ltb 1 (word_at bytes 0) ≡ false
  pub sized : length bytes ≡ 4 * (right_table bytes + table_words bytes (right_table bytes))
  pub left : table_broken (starts_at bytes 1) (corners_at bytes 1) ≡ false
  pub right : table_broken (starts_at bytes (right_table bytes)) (corners_at bytes (right_table bytes)) ≡ false

good : (bytes : List ℕ) → tables_fault bytes ≡ 0 → Good bytes
unfolding tables_fault
good bytes z =
    let a = first_none (ltb (length bytes) 4) _ (omega arith) z in
    let b = first_none (ltb 1 (word_at bytes 0)) _ (omega arith) a.1 in
    let c = first_none (tables_length_broken bytes) _ (omega arith) b.1 in
    let d = first_none (broken_at bytes 1) _ (omega arith) c.1 in
    let f = first_none (broken_at bytes (right_table bytes)) _ (omega arith) d.1 in
    record {
      long = ltb-false (length bytes) 4 a.0;
      known = b.0;
      sized = sized_tables bytes c.0;
      left = (either_false (counts_broken bytes 1) _ d.0).1;
      right = (either_false (counts_broken bytes (right_table bytes)) _ f.0).1;
    }

module _ {bytes : List ℕ} (small : All (λ b. b < 256) bytes) (g : Good bytes) where
  abbrev X : List ℕ
  X = operand_bytes bytes 1

  abbrev Y : List ℕ
  Y = operand_bytes bytes (right_table bytes)

  left_inside : 4 * (1 + table_words bytes 1) ≤ length bytes
  left_inside = omega (arith, g.sized)

  right_inside : 4 * (right_table bytes + table_words bytes (right_table bytes)) ≤ length bytes
  right_inside = omega (arith, g.sized)

  first : length (take 4 bytes) ≡ 4 * 1
  first = (first_word bytes [] g.long).0

  job_is : job_of bytes ≡ take 4 bytes ++ (X ++ Y)
  unfolding job_of
  job_is = refl

  right_first : job_of bytes ≡ (take 4 bytes ++ X) ++ (Y ++ [])
  right_first = job_is ∙ sym (append_assoc (take 4 bytes) X Y) ∙ ap (λ l. (take 4 bytes ++ X) ++ l) (sym (append-nil Y))

  operation_read : operation (job_of bytes) ≡ word_at bytes 0
  operation_read = ap (λ l. word_at l 0) job_is ∙ (first_word bytes (X ++ Y) g.long).1

  left_size : table_words (job_of bytes) 5 ≡ table_words bytes 1
  left_size = ap (λ l. table_words l 5) job_is ∙ size_read bytes small (take 4 bytes) 1 first 1 left_inside Y

  left_read : left_of (job_of bytes) ≡ left_in bytes
  unfolding left_of
  left_read = ap (λ l. operand_at l 1 5) job_is ∙ operand_read bytes small (take 4 bytes) 1 first 1 left_inside Y

  before : length (take 4 bytes ++ X) ≡ 4 * (5 + table_words bytes 1)
  before = omega (arith, length-append (take 4 bytes) X, first, length_operand bytes 1 left_inside)

  right_size : table_words (job_of bytes) (5 + table_words bytes 1 + 4) ≡ table_words bytes (right_table bytes)
  right_size = ap (λ l. table_words l (5 + table_words bytes 1 + 4)) right_first ∙ size_read bytes small (take 4 bytes ++ X) (5 + table_words bytes 1) before (right_table bytes) right_inside []

  right_read : right_of (job_of bytes) ≡ right_in bytes
  unfolding right_of right_place
  right_read =
      ap (λ n. operand_at (job_of bytes) (5 + n) (5 + n + 4)) left_size ∙ ap (λ l. operand_at l (5 + table_words bytes 1) (5 + table_words bytes 1 + 4)) right_first
      ∙ operand_read bytes small (take 4 bytes ++ X) (5 + table_words bytes 1) before (right_table bytes) right_inside []

  job_length : length (job_of bytes) ≡ 4 * (9 + table_words bytes 1 + table_words bytes (right_table bytes))
  job_length =
      omega (arith, ap length job_is, length-append (take 4 bytes) (X ++ Y), length-append X Y, first, length_operand bytes 1 left_inside, length_operand bytes (right_table bytes) right_inside)

  sized_job : job_length_broken (job_of bytes) ≡ false
  unfolding job_length_broken right_place
  sized_job =
      let J = job_of bytes in
      let p : table_words J (5 + table_words J 5 + 4) ≡ table_words bytes (right_table bytes) = ap (λ n. table_words J (5 + n + 4)) left_size ∙ right_size in
      let n : length J ≡ 4 * (5 + table_words J 5 + 4 + table_words J (5 + table_words J 5 + 4)) = omega (arith, job_length, left_size, p) in
      rw (eq-eqb _ _ n)

  -- 7 and 9 are not told of the operands
  kinds_left : (t : Bool) → first_fault (pair_kinds t (left_in bytes) (right_in bytes)) ≡ first_fault (left_kinds t (left_in bytes) (right_in bytes))
  unfolding first_fault
  kinds_left t = rw (g.left, g.right, bounds_hold bytes 1 left_inside, bounds_hold bytes (right_table bytes) right_inside)

  fault_read : job_fault (job_of bytes) ≡ first_fault (left_kinds (reflected_of bytes) (left_in bytes) (right_in bytes))
  fault_read =
      to_operands (job_of bytes) (le-ltb (length (job_of bytes)) 4 (omega (arith, job_length))) (ap (ltb 1) operation_read ∙ g.known) sized_job
      ∙ (λ i. first_fault (pair_kinds (eqb (operation_read i) 1) (left_read i) (right_read i))) ∙ kinds_left (reflected_of bytes)

pub job_read_back : JobReadBack
job_read_back bytes small z =
    let g = good bytes z in
    record {
      operation = ap (λ w. eqb w 1) (operation_read small g);
      left = left_read small g;
      right = right_read small g;
      fault = fault_read small g;
    }
