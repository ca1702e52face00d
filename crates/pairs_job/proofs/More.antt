-- More input changes nothing (`MoreInput`): a job of more than 147,516 bytes is refused by its
-- operation (13) or by its length, counts or rules (7), and the operation is in the first four
-- bytes. 147,516 = 4 (15 + 2 (2,048 + 2 · 8,192)). Assumes nothing.
use mathlib.Core.Path.{◌≡◌, refl, sym, ◌∙◌, ap}
use mathlib.Core.Bool.{Bool, true, false}
use mathlib.Core.List.{List, [], ◌∷◌, ◌++◌}
use Prim.Native.Nat.{ℕ, ◌<◌, ◌≤◌}
use native.Mathlib.Omega.{arith}
use borrow.Author.Tests.{le-ltb, ne_eqb}
use lib.Dec.{ltb}
use lib.ListN.{length, length-append}
use Rattle.integers.proofs.Faults.{first_this, first_next}
use Rattle.integers.proofs.Order.{by_test}
use Rattle.text.specs.Text.{refusal}
use Rattle.table.specs.Stored.{words_of}
use Rattle.table.specs.Table.{table_broken}
use Rattle.pairs_job.specs.Job.{longest_job, operation, right_place, left_of, right_of, job_length_broken, job_fault, pairs_text, MoreInput}
use Rattle.pairs_job.proofs.Sizes.{sized, place, limits}
use Rattle.pairs_job.proofs.Shape.{left_inside, right_inside, job_operation, job_length, to_operands}

-- the operation stands in the first four bytes
first_word : (bytes more : List ℕ) → 4 ≤ length bytes → operation (bytes ++ more) ≡ operation bytes
unfolding words_of
first_word [] more h = absurd (omega arith)
first_word (a ∷ []) more h = absurd (omega arith)
first_word (a ∷ b ∷ []) more h = absurd (omega arith)
first_word (a ∷ b ∷ c ∷ []) more h = absurd (omega arith)
first_word (a ∷ b ∷ c ∷ d ∷ bytes) more h = refl

-- the refusal of a long job, by whether its operation is none
abbrev by_operation : Bool → ℕ
by_operation true = 13
by_operation false = 7

is_refusal : (t : Bool) → by_operation t ≡ 0 → ⊥
is_refusal true e = omega (arith, e)
is_refusal false e = omega (arith, e)

module _ (bytes : List ℕ) (h : longest_job < length bytes) where
  -- of the right length, some table has a count past its limit
  some_broken : job_length_broken bytes ≡ false → table_broken (left_of bytes).starts (left_of bytes).corners ≡ false → table_broken (right_of bytes).starts (right_of bytes).corners ≡ false → ⊥
  unfolding left_of right_of
  some_broken l e f =
      let a = limits bytes 5 (left_inside bytes l) e in
      let b = limits bytes (right_place bytes) (right_inside bytes l) f in
      omega (arith, sized bytes l, place bytes, a.0, a.1, b.0, b.1)

  long_fault : job_fault bytes ≡ by_operation (ltb 1 (operation bytes))
  long_fault =
      let a = le-ltb (length bytes) 4 (omega (arith, h)) in
      by_test (ltb 1 (operation bytes))
      (λ b. job_operation bytes a b ∙ sym (ap by_operation b))
      (λ b. by_test (job_length_broken bytes)
      (λ l. job_length bytes a b l ∙ sym (ap by_operation b))
      (λ l. to_operands bytes a b l
      ∙ by_test (table_broken (left_of bytes).starts (left_of bytes).corners) (λ e. first_this 7 _ e)
      (λ e. first_next 7 _ e ∙ by_test (table_broken (right_of bytes).starts (right_of bytes).corners) (λ f. first_this 7 _ f) (λ f. absurd (some_broken l e f)))
      ∙ sym (ap by_operation b)))

long_text : (bytes : List ℕ) → longest_job < length bytes → pairs_text bytes ≡ refusal (by_operation (ltb 1 (operation bytes)))
unfolding pairs_text
long_text bytes h =
    let e = long_fault bytes h in
    rw (ne_eqb (job_fault bytes) 0 (λ z. is_refusal (ltb 1 (operation bytes)) (sym e ∙ z))) (ap refusal e)

pub more_input : MoreInput
more_input bytes more e =
    long_text (bytes ++ more) (omega (arith, e, length-append bytes more))
    ∙ ap (λ w. refusal (by_operation (ltb 1 w))) (first_word bytes more (omega (arith, e)))
    ∙ sym (long_text bytes (omega (arith, e)))
