-- Runs of bytes (`run_length` of `specs/Fields.antt`): how long they are. Assumes nothing.
use mathlib.Core.Path.{◌≡◌, refl, sym, ◌∙◌}
use mathlib.Core.Bool.{Bool, true, false}
use mathlib.Core.List.{List, [], ◌∷◌}
use Prim.Native.Nat.{ℕ, zero, suc, ◌+◌, ◌≤◌, ◌<◌}
use native.Mathlib.Omega.{arith}
use lib.ListN.{length, get_or}
use Rattle.integers.proofs.Order.{by_test}
use Rattle.std.specs.List.{prefix_len, take_while}
use Rattle.std.proofs.lemmas.List.Folds.{length-prefix_len}
use Rattle.fields.specs.Fields.{run_length}

module _ (p : ℕ → Bool) where
  run_in : {b : ℕ} (l : List ℕ) → p b ≡ true → run_length p (b ∷ l) ≡ suc (run_length p l)
  unfolding run_length
  run_in {b} l e = rw e

  run_out : {b : ℕ} (l : List ℕ) → p b ≡ false → run_length p (b ∷ l) ≡ 0
  unfolding run_length
  run_out {b} l e = rw e

  run_none : run_length p [] ≡ 0
  unfolding run_length
  run_none = refl

  -- ---- how long

  pub run_length_lem : (l : List ℕ) → run_length p l ≤ length l
  run_length_lem [] = omega (arith, run_none)
  run_length_lem (b ∷ l) =
      by_test (p b)
      (λ e. omega (arith, run_in l e, run_length_lem l))
      (λ e. omega (arith, run_out l e))

  -- ---- as std counts it

  prefix_run : (l : List ℕ) → prefix_len p l ≡ run_length p l
  prefix_run [] = sym run_none
  prefix_run (b ∷ l) =
      by_test (p b)
      (λ e. omega (arith, run_in l e, prefix_run l, prefix_in l e))
      (λ e. omega (arith, run_out l e, prefix_out l e))
    where
      prefix_in : {b : ℕ} (l : List ℕ) → p b ≡ true → prefix_len p (b ∷ l) ≡ 1 + prefix_len p l
      prefix_in l e = rw e

      prefix_out : {b : ℕ} (l : List ℕ) → p b ≡ false → prefix_len p (b ∷ l) ≡ 0
      prefix_out l e = rw e

  pub length_front : (l : List ℕ) → length (take_while p l) ≡ run_length p l
  length_front l = length-prefix_len p l ∙ prefix_run l

  -- a run as long as the list has every byte
  pub run_whole : (l : List ℕ) → run_length p l ≡ length l → (i : ℕ) → i < length l → p (get_or l i 0) ≡ true
  run_whole [] e i h = absurd (omega arith)
  run_whole (b ∷ l) e zero h =
      by_test (p b)
      (λ t. t)
      (λ t. absurd (omega (arith, run_out l t)))
  run_whole (b ∷ l) e (suc i) h =
      by_test (p b)
      (λ t. run_whole l (omega (arith, run_in l t)) i (omega arith))
      (λ t. absurd (omega (arith, run_out l t)))
