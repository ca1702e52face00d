-- Of what a job answered before its lines, with the walks of both operands and their numbers: it
-- can be put (`started`), and its pieces are the job's (`pieces_in_lem`). Assumes nothing.
use mathlib.Core.Path.{◌≡◌, refl, sym, ◌∙◌, ap, ap₂, subst}
use mathlib.Core.Bool.{Bool}
use mathlib.Core.List.{List, [], ◌∷◌, map, flatten}
use Prim.Native.Nat.{ℕ, zero, suc, ◌*◌, ◌/◌, ◌%◌, ◌<◌}
use native.Mathlib.Nat.{div-lt_iff_lt-mul}
use native.Mathlib.Omega.{arith}
use borrow.Author.Tests.{eqb-true, eqb-false, eq-eqb, ne_eqb}
use lib.Dec.{eqb}
use lib.ListN.{length, get_or}
use lib.IntN.{ℤ}
use Rattle.integers.specs.Faults.{first_fault}
use Rattle.integers.specs.Lists.{up_to}
use Rattle.integers.proofs.Order.{by_test}
use Rattle.integers.proofs.Counting.{all_up_to}
use Rattle.integers.proofs.Elements.{all_map, map_all}
use Rattle.table.specs.Table.{part_count}
use Rattle.table.proofs.Rules.{count_parts}
use Rattle.pair.specs.Pair.{pair_contour}
use Rattle.minkowski.specs.Pairs.{Operand, operand_parts, result_bounds, pair_kinds}
use Rattle.minkowski_work.proofs.Faults.{Judged, operands_none, judged}
use Rattle.minkowski_work.proofs.Counted.{pairs_count}
use Rattle.minkowski_work.specs.Scratch.{Call, Accepted, BothWalked}
use Rattle.minkowski_work.proofs.Walked.{unrolleds, contours_in_lem}
use Rattle.pair_lines.specs.Lines.{pairs_head, pair_line}
use Rattle.pair_lines.proofs.Pairs.{line_of_pair}
use Rattle.pairs_job.specs.Job.{reflected_of, left_of, right_of, job_fault, shape_fault}
use Rattle.pairs_job.proofs.Shape.{shape_told, shape_passed}
use Rattle.pairs_work.specs.declared.Begun.{Begun}
use Rattle.pairs_work.specs.Begun.{job_call, job_begun, Begins, refused_begun, accepted_begun}
use Rattle.pairs_text.specs.Pieces.{head_piece, lines_of_pairs, pieces_of}
use Rattle.pairs_text.specs.Walks.{first_in, line_in, pieces_in, JobStarted}
use Rattle.pairs_text.proofs.Rows.{rows_numbered}

-- ---- the answer, by its fault

module _ (x : Call) where
  begun_refused : {f : ℕ} → (f ≡ 0 → ⊥) → job_begun x f ≡ refused_begun f
  unfolding job_begun
  begun_refused {f} d = rw (ne_eqb f 0 d)

  begun_accepted : {f : ℕ} → f ≡ 0 → job_begun x f ≡ accepted_begun x
  unfolding job_begun
  begun_accepted {f} e = rw (eq-eqb f 0 e)

-- ---- a job that is refused

module _ (bytes : List ℕ) (firsts : List ℕ) (points : List (List ℤ)) (d : job_fault bytes ≡ 0 → ⊥) where
  refused_pieces : pieces_in (refused_begun (job_fault bytes)) firsts points ≡ pieces_of bytes
  unfolding pieces_in first_in pieces_of head_piece up_to
  refused_pieces = rw (ne_eqb (job_fault bytes) 0 d)

  refused_started : (numbers : List ℕ) → JobStarted (refused_begun (job_fault bytes)) firsts points numbers
  refused_started numbers = record { few = omega arith; refused = λ _. refl; keyed = λ e. absurd (d e) }

-- ---- a job without a fault

module _ (bytes : List ℕ) (e : job_fault bytes ≡ 0) where
  abbrev t : Bool
  t = reflected_of bytes

  abbrev l : Operand
  l = left_of bytes

  abbrev r : Operand
  r = right_of bytes

  pairs_passed : first_fault (pair_kinds t l r) ≡ 0
  pairs_passed =
      by_test (eqb (shape_fault bytes) 0) (λ h. sym (shape_passed bytes (eqb-true (shape_fault bytes) 0 h)) ∙ e)
      (λ h. let d = eqb-false (shape_fault bytes) 0 h in absurd (d (sym (shape_told bytes d) ∙ e)))

  both_passed : Accepted (job_call bytes)
  both_passed = operands_none t l r pairs_passed

  both_judged : Judged l × Judged r
  both_judged = judged l r both_passed

  module _ {points : List (List ℤ)} {firsts numbers : List ℕ} {x : Begun} (b : Begins (job_call bytes) (job_fault bytes) points firsts numbers x) where
    abbrev w : BothWalked (job_call bytes) points firsts
    w = b.walked e

    accepted_started : JobStarted (accepted_begun (job_call bytes)) firsts points numbers
    accepted_started =
        let u = unrolleds (job_call bytes) w both_passed refl in
        record {
          few = omega (arith, u.few_contours);
          refused = λ d. absurd (d refl);
          keyed = λ _. b.keyed e;
        }

    -- as many contours as pairs of parts, and as many corners as the merges of their walks have
    accepted_first : first_in (accepted_begun (job_call bytes)) firsts points ≡ head_piece bytes
    unfolding first_in head_piece
    accepted_first =
        let j = both_judged in
        rw (eq-eqb (job_fault bytes) 0 e)
        (ap₂ (λ n k. pairs_head n k (result_bounds t l.bounds r.bounds)) (sym (pairs_count t l r j.0.sound j.1.sound))
        (ap (λ ps. length (flatten ps)) (contours_in_lem (job_call bytes) w)))

    -- the line of parts i and k
    abbrev line : ℕ → ℕ → List ℕ
    line i k = pair_line i k (pair_contour t (get_or (operand_parts l) i []) (get_or (operand_parts r) k []))

    -- line n is that of parts n / right and n % right
    line_at : (n : ℕ) → n < part_count l.starts * part_count r.starts → line_in (accepted_begun (job_call bytes)) firsts points n ≡ line (n / part_count r.starts) (n % part_count r.starts)
    line_at n h =
        line_of_pair t (operand_parts l) (operand_parts r) firsts points (part_count r.starts) (n % part_count r.starts)
        ((div-lt_iff_lt-mul (some (part_count l.starts) (part_count r.starts) (omega arith))).1 h) w.lefts w.rights
      where
        some : (m n : ℕ) → 0 < m * n → 0 < n
        some m zero h = absurd (omega arith)
        some m (suc n) h = omega arith

    accepted_lines : map (line_in (accepted_begun (job_call bytes)) firsts points) (up_to (part_count l.starts * part_count r.starts)) ≡ lines_of_pairs t (operand_parts l) (operand_parts r)
    unfolding lines_of_pairs
    accepted_lines =
        let j = both_judged in
        let m = part_count l.starts * part_count r.starts in
        map_all _ (λ n. line (n / part_count r.starts) (n % part_count r.starts)) (up_to m) (all_map (up_to m) line_at (all_up_to m))
        ∙ sym (rows_numbered line (part_count r.starts) (part_count l.starts))
        ∙ ap₂ (λ m n. flatten (map (λ i. map (line i) (up_to n)) (up_to m))) (sym (count_parts l.starts l.corners j.0.sound)) (sym (count_parts r.starts r.corners j.1.sound))

    accepted_pieces : pieces_in (accepted_begun (job_call bytes)) firsts points ≡ pieces_of bytes
    unfolding pieces_in pieces_of
    accepted_pieces = rw (eq-eqb (job_fault bytes) 0 e) (ap₂ (λ p ps. p ∷ ps) accepted_first accepted_lines)

-- ---- any job

module _ (bytes : List ℕ) {points : List (List ℤ)} {firsts numbers : List ℕ} {x : Begun} (b : Begins (job_call bytes) (job_fault bytes) points firsts numbers x) where
  -- what holds of either answer
  by_answer : (P : Begun → Type 0) → ((d : job_fault bytes ≡ 0 → ⊥) → P (refused_begun (job_fault bytes))) → ((e : job_fault bytes ≡ 0) → P (accepted_begun (job_call bytes))) → P x
  by_answer P p q =
      by_test (eqb (job_fault bytes) 0)
      (λ h. let e = eqb-true (job_fault bytes) 0 h in subst P (sym (b.answer ∙ begun_accepted (job_call bytes) e)) (q e))
      (λ h. let d = eqb-false (job_fault bytes) 0 h in subst P (sym (b.answer ∙ begun_refused (job_call bytes) d)) (p d))

  pub started : JobStarted x firsts points numbers
  started = by_answer (λ y. JobStarted y firsts points numbers) (λ d. refused_started bytes firsts points d numbers) (λ e. accepted_started bytes e b)

  pub pieces_in_lem : pieces_in x firsts points ≡ pieces_of bytes
  pieces_in_lem = by_answer (λ y. pieces_in y firsts points ≡ pieces_of bytes) (refused_pieces bytes firsts points) (λ e. accepted_pieces bytes e b)
