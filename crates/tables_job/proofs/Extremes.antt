-- The greatest or the least of words: of none, of one, and one word more. Assumes nothing.
use mathlib.Core.Path.{◌≡◌, sym, ◌∙◌, ap}
use mathlib.Core.Bool.{Bool}
use mathlib.Core.List.{List}
use Prim.Native.Nat.{ℕ, zero, suc, ◌+◌, ◌*◌, ◌<◌}
use native.Mathlib.Omega.{arith}
use native.Mathlib.Numerals.{add-one}
use Rattle.table.specs.Stored.{word_at}
use Rattle.tables_job.specs.Tables.{picked_of, extreme_of}

module _ (g : Bool) (bytes : List ℕ) (from : ℕ) where
  pub extreme_none : {n : ℕ} → n ≡ 0 → 0 ≡ extreme_of g bytes from n
  unfolding extreme_of
  extreme_none e = sym (ap (extreme_of g bytes from) e)

  pub extreme_first : {w : ℕ} → w ≡ word_at bytes from → w ≡ extreme_of g bytes from 1
  unfolding extreme_of
  extreme_first e = e

  pub extreme_more : (k : ℕ) → 0 < k → {v w r : ℕ} → v ≡ extreme_of g bytes from k → w ≡ word_at bytes (from + 2 * k) → r ≡ picked_of g v w → r ≡ extreme_of g bytes from (k + 1)
  unfolding extreme_of
  extreme_more zero h p q e = absurd (omega arith)
  extreme_more (suc k) h p q e = e ∙ (λ i. picked_of g (p i) (q i)) ∙ ap (extreme_of g bytes from) (sym (add-one (suc k)))
