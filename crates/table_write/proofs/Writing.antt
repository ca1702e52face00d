-- A table's words as the code writes them. In order: a word more; the whole (`put_table`); the
-- fault, by the tests that the code makes; the answer.
-- Assumes nothing.
use mathlib.Core.Path.{◌≡◌, sym, ◌∙◌, ap}
use mathlib.Core.Bool.{true, false}
use mathlib.Core.List.{List, [], ◌∷◌, ◌++◌, map}
use Prim.Native.Nat.{ℕ, ◌+◌, ◌*◌, ◌-◌, ◌/◌, ◌<◌, ◌≤◌}
use native.Mathlib.Nat.{le_of_lt}
use native.Mathlib.Numerals.{add-one}
use native.Mathlib.Omega.{arith}
use borrow.Author.Tests.{lt-ltb, le-ltb, ltb-false, eq-eqb, ne_eqb}
use lib.Dec.{ltb}
use lib.ListN.{length, take, get_or}
use lib.Seq.{take-suc, take_all, length-take-le}
use lib.IntN.{ℤ}
use Rattle.integers.specs.Word.{unsigned}
use Rattle.integers.specs.Lists.{overlay}
use Rattle.corners.specs.Corners.{off_range}
use Rattle.table.specs.Table.{table_broken}
use Rattle.table.specs.Stored.{word_bytes, stored_of, write_fault}
use Rattle.integers.proofs.Faults.{first_this, first_next, first_empty, first_none}
use Rattle.table.proofs.StoredForm.{length_stored}
use Rattle.table.proofs.Answers.{refused_buffer, accepted_buffer}
use Rattle.table_words.specs.Place.{put_words}
use Rattle.table_words.proofs.Places.{put_put, put_front, length_put}
use Rattle.table_write.specs.Written.{fault_written, answer_written, bytes_written}

-- ---- a word more

pub put_more : (k : ℕ) (ws old : List ℕ) {buf after : List ℕ} {i : ℕ} {n w : ℕ} → i < length ws → 4 * (k + length ws) ≤ length old → buf ≡ put_words k (take i ws) old
    → n ≡ k + i → w ≡ get_or ws i 0 → after ≡ put_words n (w ∷ []) buf → after ≡ put_words k (take (i + 1) ws) old
put_more k ws old {i} {n} {w} h room p e q r =
    let l : length (take i ws) ≡ i = length-take-le i ws (le_of_lt h) in
    let m : n ≡ k + length (take i ws) = e ∙ ap (λ j. k + j) (sym l) in
    r ∙ (λ j. put_words (m j) (q j ∷ []) (p j)) ∙ put_put k (take i ws) old (omega arith) (get_or ws i 0 ∷ [])
    ∙ ap (λ vs. put_words k vs old) (sym (ap (λ j. take j ws) (add-one i) ∙ take-suc ws i 0 h))

-- the bytes stay as many
pub put_length : (k : ℕ) (ws old : List ℕ) {buf : List ℕ} (i : ℕ) → i ≤ length ws → 4 * (k + length ws) ≤ length old → buf ≡ put_words k (take i ws) old → length buf ≡ length old
put_length k ws old i h room p = ap length p ∙ length_put k (take i ws) old (omega (arith, length-take-le i ws h))

pub put_whole_length : (k : ℕ) (ws old : List ℕ) {buf : List ℕ} → 4 * (k + length ws) ≤ length old → buf ≡ put_words k ws old → length buf ≡ length old
put_whole_length k ws old room p = ap length p ∙ length_put k ws old (omega arith)

pub put_all : (k : ℕ) (ws old : List ℕ) {buf : List ℕ} (i : ℕ) → length ws ≤ i → buf ≡ put_words k (take i ws) old → buf ≡ put_words k ws old
put_all k ws old i h p = p ∙ ap (λ vs. put_words k vs old) (take_all i ws h)

-- ---- the whole

-- two counts, the starts, the numbers, one after another
pub put_table : (s : List ℕ) (c : List ℤ) (old : List ℕ) {p n : ℕ} {b₁ b₂ b₃ b₄ : List ℕ} → 8 + 4 * length s + 4 * length c ≤ length old → p ≡ length s - 1 → n ≡ length c / 2
    → b₁ ≡ put_words 0 (p ∷ []) old → b₂ ≡ put_words 1 (n ∷ []) b₁ → b₃ ≡ put_words 2 s b₂ → b₄ ≡ put_words (length s + 2) (map unsigned c) b₃
    → b₄ ≡ overlay (stored_of s c) old
unfolding stored_of
put_table s c old {p} {n} room e f h₁ h₂ h₃ h₄ =
    let z : length s + 2 ≡ 0 + length (p ∷ n ∷ s) = omega arith in
    let t₂ = h₂ ∙ ap (put_words 1 (n ∷ [])) h₁ ∙ put_put 0 (p ∷ []) old (omega arith) (n ∷ []) in
    let t₃ = h₃ ∙ ap (put_words 2 s) t₂ ∙ put_put 0 (p ∷ n ∷ []) old (omega arith) s in
    let t₄ = h₄ ∙ (λ i. put_words (z i) (map unsigned c) (t₃ i)) ∙ put_put 0 (p ∷ n ∷ s) old (omega arith) (map unsigned c) in
    t₄ ∙ put_front (p ∷ n ∷ (s ++ map unsigned c)) old ∙ (λ i. overlay (word_bytes (e i ∷ f i ∷ (s ++ map unsigned c))) old)

-- ---- the fault

module _ (s : List ℕ) (c : List ℤ) (room : ℕ) where
  pub fault_7 : table_broken s c ≡ true → write_fault s c room ≡ 7
  unfolding write_fault
  fault_7 e = first_this 7 _ e

  module _ (e : table_broken s c ≡ false) where
    pub fault_2 : off_range c ≡ true → write_fault s c room ≡ 2
    unfolding write_fault
    fault_2 f = first_next 7 _ e ∙ first_this 2 _ f

    module _ (f : off_range c ≡ false) where
      pub fault_21 : room < 8 + 4 * length s + 4 * length c → write_fault s c room ≡ 21
      unfolding write_fault
      fault_21 h = first_next 7 _ e ∙ first_next 2 _ f ∙ first_this 21 [] (lt-ltb room _ (omega (arith, length_stored s c)))

      pub no_fault_write : 8 + 4 * length s + 4 * length c ≤ room → write_fault s c room ≡ 0
      unfolding write_fault
      no_fault_write h = first_next 7 _ e ∙ first_next 2 _ f ∙ first_next 21 [] (le-ltb room _ (omega (arith, length_stored s c))) ∙ first_empty

  -- what no fault tells
  pub record Writes : Type 0 where
    pub whole : table_broken s c ≡ false
    pub ranged : off_range c ≡ false
    pub fits : 8 + 4 * length s + 4 * length c ≤ room

  pub writes : write_fault s c room ≡ 0 → Writes
  unfolding write_fault
  writes e =
      let f = first_none (table_broken s c) _ (omega arith) e in
      let g = first_none (off_range c) _ (omega arith) f.1 in
      let h = first_none (ltb room (length (stored_of s c))) [] (omega arith) g.1 in
      record { whole = f.0; ranged = g.0; fits = omega (arith, ltb-false room _ h.0, length_stored s c) }

-- ---- the answer

module _ (s : List ℕ) (c : List ℤ) (old : List ℕ) {f : ℕ} (e : f ≡ fault_written s c old) where
  pub refused_write : (f ≡ 0 → ⊥) → (record { fault = f; length = 0 } ≡ answer_written s c old) × (old ≡ bytes_written s c old)
  refused_write h =
      let n : fault_written s c old ≡ 0 → ⊥ = λ z. h (e ∙ z) in
      (rw (ne_eqb (fault_written s c old) 0 n) (λ i. record { fault = e i; length = 0 }), sym (refused_buffer n (stored_of s c) old))

  pub accepted_write : f ≡ 0 → {b : List ℕ} → b ≡ overlay (stored_of s c) old
      → (record { fault = f; length = 8 + 4 * length s + 4 * length c } ≡ answer_written s c old) × (b ≡ bytes_written s c old)
  accepted_write h q =
      let n : fault_written s c old ≡ 0 = sym e ∙ h in
      (rw (eq-eqb (fault_written s c old) 0 n) (λ i. record { fault = h i; length = sym (length_stored s c) i }), q ∙ sym (accepted_buffer n (stored_of s c) old))
