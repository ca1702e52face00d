-- The answer before the lines: a refusal (`begun_refused`), or the numbers of an accepted job
-- (`begun_accepted`). Assumes nothing.
use mathlib.Core.Path.{◌≡◌, sym, ◌∙◌, ap}
use Prim.Native.Nat.{ℕ}
use borrow.Author.Tests.{eq-eqb, ne_eqb}
use Rattle.table.specs.declared.IntRect.{IntRect}
use Rattle.table.specs.Table.{part_count}
use Rattle.minkowski.specs.Pairs.{result_bounds}
use Rattle.minkowski_work.specs.Scratch.{Call}
use Rattle.pairs_work.specs.declared.Begun.{Begun}
use Rattle.pairs_work.specs.Begun.{refused_begun, job_begun}

module _ (x : Call) where
  pub begun_refused : {f F : ℕ} {b : Begun} → f ≡ F → (f ≡ 0 → ⊥) → b ≡ refused_begun f → b ≡ job_begun x F
  unfolding job_begun
  begun_refused {f} {F} e d h = h ∙ ap refused_begun e ∙ sym (rw (ne_eqb F 0 (λ q. d (e ∙ q))))

  pub begun_accepted : {F : ℕ} {b : IntRect} → F ≡ 0 → b ≡ result_bounds x.reflected x.left.bounds x.right.bounds → record { fault = 0; left = part_count x.left.starts; right = part_count x.right.starts; bounds = b } ≡ job_begun x F
  unfolding job_begun
  begun_accepted {F} e q = rw (eq-eqb F 0 e) (λ i. record { fault = 0; left = part_count x.left.starts; right = part_count x.right.starts; bounds = q i })
