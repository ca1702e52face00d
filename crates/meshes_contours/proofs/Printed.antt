-- Every contour that is printed is exact (`every_printed_exact`). Assumes nothing.
use mathlib.Core.Path.{◌≡◌, sym, ◌∙◌, ap, ap₂}
use mathlib.Core.Bool.{cond}
use mathlib.Core.List.{List, [], ◌++◌, flatten}
use Prim.Native.Nat.{ℕ, ◌<◌}
use borrow.Author.Tests.{eqb-true, eq-eqb}
use lib.Dec.{eqb}
use lib.ListN.{length, get_or, drop}
use Rattle.integers.proofs.Order.{by_test}
use Rattle.integers.proofs.Elements.{all_get_d}
use Rattle.plane.specs.Plane.{Pt}
use Rattle.table.proofs.Rules.{parts_table}
use Rattle.text.specs.Text.{refusal}
use Rattle.pair.specs.Pair.{pair_contour}
use Rattle.minkowski.specs.Pairs.{operand_parts}
use Rattle.split_pairs.specs.Premise.{PartMeets}
use Rattle.split_pairs.proofs.Theorem.{split_meets_premise}
use Rattle.split_results.specs.Chain.{Exact}
use Rattle.split_results.proofs.Chain.{exact_pair}
use Rattle.listing.specs.File.{corner_limit, split_number, strategy_of, mesh_of, file_parts, file_fault}
use Rattle.listing.proofs.File.{accepted_mesh}
use Rattle.pair_lines.specs.Lines.{pair_lines}
use Rattle.pair_lines.proofs.Order.{lines_in_order}
use Rattle.pairs_job.specs.Job.{reflected_of}
use Rattle.mesh_pair.specs.Files.{left_file, right_file, left_operand, right_operand}
use Rattle.meshes_job.specs.Job.{meshes_fault, contours_text}
use Rattle.meshes_job.specs.Printed.{result_fault, contours_fault, printed_of}
use Rattle.meshes_job.proofs.Refused.{files_accepted, both_accepted}
use Rattle.meshes_job.proofs.Printed.{contours_printed}
use Rattle.meshes_contours.specs.Exact.{left_parts, right_parts, head_of, lines_with, PrintedExact, EveryPrintedExact}

-- files that are not refused are accepted
files_good : (bytes : List ℕ) → contours_fault bytes ≡ 0 → meshes_fault bytes ≡ 0
unfolding contours_fault
files_good bytes e =
    by_test (eqb (meshes_fault bytes) 0) (λ t. eqb-true (meshes_fault bytes) 0 t) (λ t. ap (λ b. cond b (result_fault (reflected_of bytes) (left_operand (drop 4 bytes)) (right_operand (drop 4 bytes))) (meshes_fault bytes)) (sym t) ∙ e)

-- a part of an accepted file meets demand 3's premise
part_meets : (file : List ℕ) → file_fault file ≡ 0 → {i : ℕ} → i < length (file_parts file) → PartMeets (get_or (file_parts file) i [])
part_meets file h {i} k = all_get_d PartMeets (file_parts file) [] (split_meets_premise (strategy_of (split_number file)) (corner_limit file) (mesh_of file) (accepted_mesh file h)) i k

module _ (bytes : List ℕ) (e : contours_fault bytes ≡ 0) where
  abbrev K : ℕ → ℕ → List Pt
  K i j = pair_contour (reflected_of bytes) (get_or (left_parts bytes) i []) (get_or (right_parts bytes) j [])

  printed_text : contours_text bytes ≡ head_of bytes ++ lines_with K (length (left_parts bytes)) (length (right_parts bytes))
  unfolding printed_of
  printed_text =
      contours_printed bytes ∙ ap (λ b. cond b (printed_of (reflected_of bytes) (left_operand (drop 4 bytes)) (right_operand (drop 4 bytes))) (refusal (contours_fault bytes))) (eq-eqb (contours_fault bytes) 0 e)
      ∙ ap₂ (λ l r. head_of bytes ++ pair_lines (reflected_of bytes) l r) (parts_table (left_parts bytes)) (parts_table (right_parts bytes))
      ∙ ap (λ t. head_of bytes ++ t) (lines_in_order (reflected_of bytes) (left_parts bytes) (right_parts bytes))

  exact : (i j : ℕ) → i < length (left_parts bytes) → j < length (right_parts bytes) → Exact (reflected_of bytes) (get_or (left_parts bytes) i []) (get_or (right_parts bytes) j []) (K i j)
  exact i j hi hj =
      let h = both_accepted (drop 4 bytes) (files_accepted bytes (files_good bytes e)) in
      exact_pair (reflected_of bytes) (part_meets (left_file (drop 4 bytes)) h.0 hi) (part_meets (right_file (drop 4 bytes)) h.1 hj)

pub every_printed_exact : EveryPrintedExact
every_printed_exact bytes e = record { contour = K bytes e; text = printed_text bytes e; exact = exact bytes e }
