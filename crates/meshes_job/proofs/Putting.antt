-- Words put one after another: bounds, an operand; and whether there is an operation. Assumes
-- nothing.
use mathlib.Core.Path.{◌≡◌, refl, sym, ◌∙◌, ap}
use mathlib.Core.List.{List, [], ◌∷◌, ◌++◌, map}
use Prim.Native.Nat.{ℕ, ◌+◌, ◌*◌, ◌-◌, ◌/◌, ◌<◌, ◌≤◌}
use native.Mathlib.Omega.{arith}
use borrow.Author.Tests.{lt-ltb, le-ltb}
use lib.ListN.{length, length-append, length-map}
use lib.IntN.{ℤ}
use Rattle.integers.specs.Word.{unsigned}
use Rattle.integers.proofs.Faults.{first_this, first_next, first_empty}
use Rattle.table.specs.declared.IntRect.{IntRect}
use Rattle.table.specs.Table.{bounds_list}
use Rattle.table.specs.Stored.{word_at}
use Rattle.table_words.specs.Place.{put_words}
use Rattle.table_words.proofs.Places.{put_put, length_put}
use Rattle.meshes_job.specs.Job.{operand_words, operation_fault}
use Rattle.meshes_job.specs.Putting.{operand_from, OperandRoom, OperandPut}

-- the bytes stay as many
pub put_kept : (k : ℕ) (ws old : List ℕ) {new : List ℕ} → 4 * (k + length ws) ≤ length old → new ≡ put_words k ws old → length new ≡ length old
put_kept k ws old h e = ap length e ∙ length_put k ws old (omega arith)

-- words put after others that were
pub put_on : (k : ℕ) (a b old : List ℕ) {n : ℕ} {mid new : List ℕ} → 4 * (k + length a) ≤ length old → n ≡ k + length a → mid ≡ put_words k a old → new ≡ put_words n b mid → new ≡ put_words k (a ++ b) old
put_on k a b old h en em e = e ∙ (λ i. put_words (en i) b (em i)) ∙ put_put k a old (omega arith) b

pub four_words : (k : ℕ) (old : List ℕ) {a b c d w x y z : ℕ} {new : List ℕ} → a ≡ w → b ≡ x → c ≡ y → d ≡ z → new ≡ put_words k (a ∷ b ∷ c ∷ d ∷ []) old → new ≡ put_words k (w ∷ x ∷ y ∷ z ∷ []) old
four_words k old ea eb ec ed e = e ∙ (λ i. put_words k (ea i ∷ eb i ∷ ec i ∷ ed i ∷ []) old)

pub operand_length : (b : IntRect) (s : List ℕ) (c : List ℤ) → length (operand_words (operand_from b s c)) ≡ 6 + length s + length c
unfolding operand_words
operand_length b s c = omega (arith, length-append s (map unsigned c), length-map c unsigned)

-- ---- an operand

module _ (b : IntRect) (s : List ℕ) (c : List ℤ) (k : ℕ) (old : List ℕ) (room : OperandRoom s c k old) where
  pub operand_put : {p n : ℕ} {o₁ o₂ o₃ o₄ o₅ : List ℕ} → p ≡ length s - 1 → n ≡ length c / 2
      → o₁ ≡ put_words k (map unsigned (bounds_list b)) old → o₂ ≡ put_words (k + 4) (p ∷ []) o₁ → o₃ ≡ put_words (k + 5) (n ∷ []) o₂ → o₄ ≡ put_words (k + 6) s o₃ → o₅ ≡ put_words (k + 6 + length s) (map unsigned c) o₄
      → OperandPut b s c k old o₅ (k + 6 + length s + length c)
  unfolding operand_words
  operand_put {p} {n} ep en e₁ e₂ e₃ e₄ e₅ =
      let h = room.room in
      let bs = map unsigned (bounds_list b) in
      let t₂ = put_on k bs (p ∷ []) old (omega arith) (omega arith) e₁ e₂ in
      let t₃ = put_on k (bs ++ (p ∷ [])) (n ∷ []) old (omega arith) (omega arith) t₂ e₃ in
      let t₄ = put_on k (bs ++ (p ∷ n ∷ [])) s old (omega arith) (omega arith) t₃ e₄ in
      let t₅ = put_on k (bs ++ (p ∷ n ∷ s)) (map unsigned c) old (omega arith) (omega arith) t₄ e₅ in
      record {
        after = omega (arith, operand_length b s c);
        bytes = t₅ ∙ (λ i. put_words k (bs ++ (ep i ∷ en i ∷ (s ++ map unsigned c))) old);
      }

  -- the bytes after each step
  pub after_bounds : {o : List ℕ} → o ≡ put_words k (map unsigned (bounds_list b)) old → length o ≡ length old
  after_bounds e = put_kept k (map unsigned (bounds_list b)) old (omega (arith, room.room)) e

-- ---- the operation

module _ (bytes : List ℕ) where
  pub too_short : length bytes < 4 → 13 ≡ operation_fault bytes
  unfolding operation_fault
  too_short h = sym (first_this 13 _ (lt-ltb (length bytes) 4 h))

  module _ (h : 4 ≤ length bytes) {w : ℕ} (e : w ≡ word_at bytes 0) where
    pub no_operation : 1 < w → 13 ≡ operation_fault bytes
    unfolding operation_fault
    no_operation k = sym (first_next 13 _ (le-ltb (length bytes) 4 h) ∙ first_this 13 _ (lt-ltb 1 (word_at bytes 0) (omega (arith, e))))

    pub some_operation : w ≤ 1 → 0 ≡ operation_fault bytes
    unfolding operation_fault
    some_operation k = sym (first_next 13 _ (le-ltb (length bytes) 4 h) ∙ first_next 13 _ (le-ltb 1 (word_at bytes 0) (omega (arith, e))) ∙ first_empty)
