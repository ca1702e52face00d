-- The fault of cutting a job, by the tests that code makes, and what no fault tells (`cuttable`);
-- the answer. Assumes nothing.
use mathlib.Core.Path.{◌≡◌, refl, sym, ◌∙◌, ap}
use mathlib.Core.Bool.{true, false, cond}
use mathlib.Core.List.{List}
use Prim.Native.Nat.{ℕ, ◌≤◌}
use native.Mathlib.Omega.{arith}
use borrow.Author.Tests.{eqb-true, eq-eqb, ne_eqb, le-ltb}
use lib.Dec.{eqb}
use lib.ListN.{length}
use lib.Seq.{length-take-le}
use Rattle.io.specs.Counts.{IsPrefixLen}
use Rattle.integers.specs.Lists.{overlay}
use Rattle.integers.proofs.Order.{by_test}
use Rattle.integers.proofs.Tests.{differ}
use Rattle.table.proofs.Answers.{refused_buffer, accepted_buffer}
use Rattle.table.specs.Table.{max_parts, max_corners}
use Rattle.table.specs.Stored.{word_at}
use Rattle.pairs_job.specs.Job.{counts_broken, shape_fault}
use Rattle.pairs_job.proofs.Shape.{shaped}
use Rattle.pairs_shard.specs.Shard.{shard_of, left_broken, shard_fault, cut_of, bytes_cut}

module _ (bytes : List ℕ) where
  pub shape_refused : {f : ℕ} → f ≡ shape_fault bytes → (f ≡ 0 → ⊥) → f ≡ shard_fault bytes
  unfolding shard_fault
  shape_refused e d = e ∙ sym (ap (λ t. cond t (cond (left_broken bytes) 7 0) (shape_fault bytes)) (ne_eqb (shape_fault bytes) 0 (λ z. d (e ∙ z))))

  by_rules : shape_fault bytes ≡ 0 → shard_fault bytes ≡ cond (left_broken bytes) 7 0
  unfolding shard_fault
  by_rules z = ap (λ t. cond t (cond (left_broken bytes) 7 0) (shape_fault bytes)) (eq-eqb (shape_fault bytes) 0 z)

  pub rules_refused : shape_fault bytes ≡ 0 → left_broken bytes ≡ true → 7 ≡ shard_fault bytes
  rules_refused z t = sym (by_rules z ∙ ap (λ t. cond t 7 0) t)

  pub none_refused : shape_fault bytes ≡ 0 → left_broken bytes ≡ false → 0 ≡ shard_fault bytes
  none_refused z t = sym (by_rules z ∙ ap (λ t. cond t 7 0) t)

  -- counts within the limits
  pub left_counted : shape_fault bytes ≡ 0 → counts_broken bytes 5 ≡ false
  left_counted z =
      let s = shaped bytes z in
      rw (le-ltb max_parts (word_at bytes 5) s.left_parts) (le-ltb max_corners (word_at bytes 6) s.left_corners)

  -- what no fault tells
  pub record Cuttable : Type 0 where
    pub shape : shape_fault bytes ≡ 0
    pub rules : left_broken bytes ≡ false

  pub cuttable : shard_fault bytes ≡ 0 → Cuttable
  cuttable e =
      by_test (eqb (shape_fault bytes) 0)
      (λ t. let z = eqb_zero (shape_fault bytes) t in
      by_test (left_broken bytes) (λ l. absurd (seven (sym e ∙ sym (rules_refused z l)))) (λ l. record { shape = z; rules = l }))
      (λ t. let d = ne_zero t in absurd (d (shape_refused refl d ∙ e)))
    where
      eqb_zero : (n : ℕ) → eqb n 0 ≡ true → n ≡ 0
      eqb_zero n t = eqb-true n 0 t

      ne_zero : {n : ℕ} → eqb n 0 ≡ false → n ≡ 0 → ⊥
      ne_zero {n} t z = differ (sym t ∙ eq-eqb n 0 z)

      seven : ◌≡◌ {A = ℕ} 0 7 → ⊥
      seven z = omega (arith, z)

-- ---- the answer

-- as many bytes as were told can be lent on
pub counted : {n : ℕ} (l : List ℕ) → n ≤ length l → IsPrefixLen n l
counted {n} l h = (h, sym (length-take-le n l h))

module _ (i j : ℕ) (bytes old : List ℕ) where
  pub refused_cut : {f : ℕ} → f ≡ shard_fault bytes → (f ≡ 0 → ⊥) → (record { fault = f; size = 0 } ≡ cut_of i j bytes) × (old ≡ bytes_cut i j bytes old)
  refused_cut e d =
      let n : shard_fault bytes ≡ 0 → ⊥ = λ z. d (e ∙ z) in
      (rw (ne_eqb (shard_fault bytes) 0 n) (λ k. record { fault = e k; size = 0 }), sym (refused_buffer n (shard_of i j bytes) old))

  pub accepted_cut : shard_fault bytes ≡ 0 → {n : ℕ} {b : List ℕ} → n ≡ length (shard_of i j bytes) → b ≡ overlay (shard_of i j bytes) old
      → (record { fault = 0; size = n } ≡ cut_of i j bytes) × (b ≡ bytes_cut i j bytes old)
  accepted_cut z e q =
      (rw (eq-eqb (shard_fault bytes) 0 z) (λ k. record { fault = sym z k; size = e k }), q ∙ sym (accepted_buffer z (shard_of i j bytes) old))
