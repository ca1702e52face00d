-- The job of two stored tables as code makes it. In order: the length by the counts; the fault by
-- the tests that code makes, and what no fault tells (`Good`); the operands that are written, one
-- after another (`job_put`); the answer. Assumes nothing.
use mathlib.Core.Path.{◌≡◌, sym, ◌∙◌, ap, subst}
use mathlib.Core.Bool.{true, false, not}
use mathlib.Core.List.{List, [], ◌∷◌, ◌++◌, append_assoc}
use Prim.Native.Nat.{ℕ, ◌+◌, ◌*◌, ◌<◌, ◌≤◌}
use native.Mathlib.Omega.{arith}
use borrow.Author.Tests.{eqb-true, lt-ltb, le-ltb, eq-eqb, ne_eqb, not-false}
use lib.Dec.{eqb, ltb}
use lib.ListN.{length, take, length-append}
use lib.Seq.{length-take-le}
use Rattle.io.specs.Counts.{IsPrefixLen}
use Rattle.integers.specs.Lists.{overlay}
use Rattle.integers.specs.Faults.{first_fault}
use Rattle.integers.proofs.Faults.{first_this, first_next, first_none, first_empty}
use Rattle.integers.proofs.Tests.{either_false}
use Rattle.integers.proofs.Overlay.{length_overlay}
use Rattle.table.specs.Table.{max_parts, max_corners}
use Rattle.table.specs.Stored.{word_at}
use Rattle.table.proofs.Answers.{refused_buffer, accepted_buffer}
use Rattle.text.specs.Put.{PutText}
use Rattle.text.proofs.Puts.{put_after_lem, put_whole}
use Rattle.pairs_job.specs.Job.{table_words, counts_broken}
use Rattle.pairs_rules.proofs.ByStarts.{within}
use Rattle.tables_job.specs.Tables.{right_table, operand_bytes, job_of, tables_length_broken, broken_at, tables_fault, made_of, bytes_made, Writable}
use Rattle.tables_job.proofs.Operands.{length_operand}

module _ (bytes : List ℕ) where
  -- ---- the length by the counts

  pub no_left : length bytes < 12 → true ≡ tables_length_broken bytes
  unfolding tables_length_broken
  no_left h = rw (ne_eqb (length bytes) (4 * (right_table bytes + table_words bytes (right_table bytes))) (λ e. omega (arith, e)))

  pub no_right : {r : ℕ} → r ≡ table_words bytes 1 → length bytes < 4 * (1 + r + 2) → true ≡ tables_length_broken bytes
  unfolding tables_length_broken
  no_right e h = rw (ne_eqb (length bytes) (4 * (right_table bytes + table_words bytes (right_table bytes))) (λ d. omega (arith, d, e)))

  pub by_counts : {r n : ℕ} → r ≡ table_words bytes 1 → n ≡ table_words bytes (1 + r) → not (eqb (length bytes) (4 * (1 + r + n))) ≡ tables_length_broken bytes
  unfolding tables_length_broken
  by_counts e d = ap (λ m. not (eqb (length bytes) (4 * m))) (λ i. 1 + e i + (d ∙ ap (λ r. table_words bytes (1 + r)) e) i)

  pub sized_tables : tables_length_broken bytes ≡ false → length bytes ≡ 4 * (right_table bytes + table_words bytes (right_table bytes))
  unfolding tables_length_broken
  sized_tables e = eqb-true _ _ (not-false _ e)

  pub left_in : tables_length_broken bytes ≡ false → 4 * (1 + table_words bytes 1) ≤ length bytes
  left_in e = omega (arith, sized_tables e)

  pub right_in : tables_length_broken bytes ≡ false → {r : ℕ} → r ≡ table_words bytes 1 → 4 * (1 + r + table_words bytes (1 + r)) ≤ length bytes
  right_in e p = subst (λ n. 4 * (1 + n + table_words bytes (1 + n)) ≤ length bytes) (sym p) (omega (arith, sized_tables e))

  -- ---- the fault

  pub too_short : length bytes < 4 → 13 ≡ tables_fault bytes
  unfolding tables_fault
  too_short h = sym (first_this 13 _ (lt-ltb _ 4 h))

  module _ (h : 4 ≤ length bytes) {w : ℕ} (e : w ≡ word_at bytes 0) where
    pub other_operation : 1 < w → 13 ≡ tables_fault bytes
    unfolding tables_fault
    other_operation k = sym (first_next 13 _ (le-ltb _ 4 h) ∙ first_this 13 _ (lt-ltb 1 (word_at bytes 0) (omega (arith, e, k))))

    module _ (k : w ≤ 1) where
      past_operation : tables_fault bytes ≡ first_fault ((7, tables_length_broken bytes) ∷ (7, broken_at bytes 1) ∷ (7, broken_at bytes (right_table bytes)) ∷ [])
      unfolding tables_fault
      past_operation = first_next 13 _ (le-ltb _ 4 h) ∙ first_next 13 _ (le-ltb 1 (word_at bytes 0) (omega (arith, e, k)))

      pub other_length : tables_length_broken bytes ≡ true → 7 ≡ tables_fault bytes
      other_length t = sym (past_operation ∙ first_this 7 _ t)

      module _ (l : tables_length_broken bytes ≡ false) where
        pub left_broken : broken_at bytes 1 ≡ true → 7 ≡ tables_fault bytes
        left_broken t = sym (past_operation ∙ first_next 7 _ l ∙ first_this 7 _ t)

        module _ (a : broken_at bytes 1 ≡ false) {r : ℕ} (p : r ≡ table_words bytes 1) where
          pub right_broken : broken_at bytes (1 + r) ≡ true → 7 ≡ tables_fault bytes
          right_broken t =
              sym (past_operation ∙ first_next 7 _ l ∙ first_next 7 _ a ∙ first_this 7 _ (sym (ap (λ n. broken_at bytes (1 + n)) p) ∙ t))

          pub good_tables : broken_at bytes (1 + r) ≡ false → 0 ≡ tables_fault bytes
          good_tables t =
              sym (past_operation ∙ first_next 7 _ l ∙ first_next 7 _ a ∙ first_next 7 _ (sym (ap (λ n. broken_at bytes (1 + n)) p) ∙ t) ∙ first_empty)

  -- what no fault tells
  pub record Good : Type 0 where
    pub length_is : length bytes ≡ 4 * (right_table bytes + table_words bytes (right_table bytes))
    pub left_parts : word_at bytes 1 ≤ max_parts
    pub left_corners : word_at bytes 2 ≤ max_corners
    pub right_parts : word_at bytes (right_table bytes) ≤ max_parts
    pub right_corners : word_at bytes (right_table bytes + 1) ≤ max_corners

  pub good : tables_fault bytes ≡ 0 → Good
  unfolding tables_fault
  good z =
      let a = first_none (ltb (length bytes) 4) _ (omega arith) z in
      let b = first_none (ltb 1 (word_at bytes 0)) _ (omega arith) a.1 in
      let c = first_none (tables_length_broken bytes) _ (omega arith) b.1 in
      let d = first_none (broken_at bytes 1) _ (omega arith) c.1 in
      let f = first_none (broken_at bytes (right_table bytes)) _ (omega arith) d.1 in
      let x = within bytes 1 (either_false (counts_broken bytes 1) _ d.0).0 in
      let y = within bytes (right_table bytes) (either_false (counts_broken bytes (right_table bytes)) _ f.0).0 in
      record { length_is = sized_tables c.0; left_parts = x.0; left_corners = x.1; right_parts = y.0; right_corners = y.1 }

  -- ---- the operands

  module _ (g : Good) where
    pub left_writable : {out : List ℕ} → 147516 ≤ length out → Writable bytes 1 out 1
    left_writable h = record { inside = omega (arith, g.length_is); few_parts = g.left_parts; few_corners = g.left_corners; room = omega (arith, g.left_parts, g.left_corners, h) }

    pub right_writable : {r : ℕ} {out : List ℕ} → r ≡ table_words bytes 1 → 147516 ≤ length out → Writable bytes (1 + r) out (1 + r + 4)
    right_writable {r} {out} e h =
        subst (λ n. Writable bytes (1 + n) out (1 + n + 4)) (sym e)
        (record {
          inside = omega (arith, g.length_is);
          few_parts = g.right_parts;
          few_corners = g.right_corners;
          room = omega (arith, g.left_parts, g.left_corners, g.right_parts, g.right_corners, h);
        })

    pub length_job : length (job_of bytes) ≤ 147516
    unfolding job_of
    length_job =
        omega (
          arith,
          length-append (take 4 bytes) (operand_bytes bytes 1 ++ operand_bytes bytes (right_table bytes)),
          length-append (operand_bytes bytes 1) (operand_bytes bytes (right_table bytes)),
          length-take-le 4 bytes (omega (arith, g.length_is)),
          length_operand bytes 1 (omega (arith, g.length_is)),
          length_operand bytes (right_table bytes) (omega (arith, g.length_is)),
          g.left_parts,
          g.left_corners,
          g.right_parts,
          g.right_corners,
        )

    pub job_put : {o o₁ o₂ o₃ : List ℕ} {a b r n : ℕ} → r ≡ table_words bytes 1 → 147516 ≤ length o → PutText (take 4 bytes) 0 o o₁ a → PutText (operand_bytes bytes 1) 4 o₁ o₂ b
        → PutText (operand_bytes bytes (1 + r)) (4 * (1 + r + 4)) o₂ o₃ n → (n ≡ length (job_of bytes)) × (o₃ ≡ overlay (job_of bytes) o)
    unfolding job_of
    job_put {o} {o₁} {o₂} {o₃} {a} {b} {r} {n} e h p q t =
        let x : a ≡ 4 = omega (arith, p.after, length-take-le 4 bytes (omega (arith, g.length_is))) in
        let y : 4 * (1 + r + 4) ≡ b = omega (arith, e, q.after, length_operand bytes 1 (omega (arith, g.length_is))) in
        let q' = subst (λ m. PutText (operand_bytes bytes 1) m o₁ o₂ b) (sym x) q in
        let t' = subst (λ k. PutText (operand_bytes bytes (1 + k)) b o₂ o₃ n) e (subst (λ m. PutText (operand_bytes bytes (1 + r)) m o₂ o₃ n) y t) in
        let f : PutText (take 4 bytes ++ operand_bytes bytes 1) 0 o o₂ b = put_after_lem (omega arith) p q' in
        let w = put_whole (put_after_lem (omega arith) f t') in
        let s = append_assoc (take 4 bytes) (operand_bytes bytes 1) (operand_bytes bytes (right_table bytes)) in
        (w.0 ∙ ap length s, w.1 ∙ ap (λ l. overlay l o) s)

-- ---- the answer

counts : {n : ℕ} (l : List ℕ) → n ≤ length l → IsPrefixLen n l
counts {n} l h = (h, sym (length-take-le n l h))

module _ (bytes old : List ℕ) where
  pub refused_job : {f : ℕ} → f ≡ tables_fault bytes → (f ≡ 0 → ⊥) → (record { fault = f; size = 0 } ≡ made_of bytes) × ((old ≡ bytes_made bytes old) × IsPrefixLen 0 old)
  refused_job e d =
      let n : tables_fault bytes ≡ 0 → ⊥ = λ z. d (e ∙ z) in
      (rw (ne_eqb (tables_fault bytes) 0 n) (λ k. record { fault = e k; size = 0 }), (sym (refused_buffer n (job_of bytes) old), counts old (omega arith)))

  pub made_job : tables_fault bytes ≡ 0 → 147516 ≤ length old → {n : ℕ} {b : List ℕ} → (n ≡ length (job_of bytes)) × (b ≡ overlay (job_of bytes) old)
      → (record { fault = 0; size = n } ≡ made_of bytes) × ((b ≡ bytes_made bytes old) × IsPrefixLen n b)
  made_job z h {n} {b} w =
      let m = length_job bytes (good bytes z) in (
        rw (eq-eqb (tables_fault bytes) 0 z) (λ k. record { fault = sym z k; size = w.0 k }),
        (w.1 ∙ sym (accepted_buffer z (job_of bytes) old), counts b (omega (arith, w.0, m, h, ap length w.1, length_overlay (job_of bytes) old (omega (arith, m, h))))),
      )
