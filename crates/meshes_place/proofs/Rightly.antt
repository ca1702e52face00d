-- What is told of a place and two mesh files is so (`placed_rightly`). Assumes nothing.
use mathlib.Core.Path.{◌≡◌, refl, sym, ◌∙◌, ap, ap₂, subst}
use mathlib.Core.Bool.{true, cond}
use mathlib.Core.List.{List}
use Prim.Native.Nat.{ℕ}
use borrow.Author.Tests.{eq-eqb, eqb-true}
use lib.Dec.{eqb}
use Rattle.integers.proofs.Order.{by_test}
use Rattle.integers.proofs.Tests.{differ}
use Rattle.table.proofs.Rules.{parts_table}
use Rattle.minkowski.specs.Pairs.{pair_contours, pairs_of}
use Rattle.listing.specs.File.{corner_limit, split_number, strategy_of, mesh_of, file_parts}
use Rattle.listing.proofs.File.{accepted_mesh}
use Rattle.mesh_pair.specs.Files.{left_file, right_file, files_fault, left_operand, right_operand}
use Rattle.meshes_job.specs.Printed.{result_fault}
use Rattle.meshes_job.proofs.Refused.{both_accepted}
use Rattle.placement.specs.declared.Placed.TheVariants.{At, Refused}
use Rattle.placement.specs.Placement.{contact_by}
use Rattle.placement_meshes.specs.Rightly.{Rightly}
use Rattle.placement_meshes.proofs.Theorem.{difference_rightly}
use Rattle.meshes_place.specs.Placed.{place_of, files_of, point_fault, placed_fault, contact_of, answer_text, contact_text, placed_text}
use Rattle.meshes_place.specs.Rightly.{PlacedRight, PlacedRightly}

module _ (bytes : List ℕ) (e : placed_fault bytes ≡ 0) where
  files_good : files_fault (files_of bytes) ≡ 0
  unfolding placed_fault
  files_good =
      let F = files_fault (files_of bytes) in
      let R = result_fault true (left_operand (files_of bytes)) (right_operand (files_of bytes)) in
      let P = point_fault bytes in
      by_test (eqb P 0)
      (λ t. let d : cond (eqb F 0) R F ≡ 0 = ap (λ b. cond b (cond (eqb F 0) R F) P) (sym t) ∙ e in
      by_test (eqb F 0) (λ u. eqb-true F 0 u) (λ u. ap (λ b. cond b R F) (sym u) ∙ d))
      (λ t. let d : P ≡ 0 = ap (λ b. cond b (cond (eqb F 0) R F) P) (sym t) ∙ e in differ (sym t ∙ eq-eqb P 0 d))

  text : placed_text bytes ≡ contact_text (contact_of bytes)
  unfolding answer_text
  text = rw (eq-eqb (placed_fault bytes) 0 e)

  rightly : Rightly (contact_of bytes) (mesh_of (left_file (files_of bytes))) (mesh_of (right_file (files_of bytes))) (place_of bytes)
  unfolding contact_of
  rightly =
      let l = left_file (files_of bytes) in
      let r = right_file (files_of bytes) in
      let h = both_accepted (files_of bytes) files_good in
      subst (λ ps. Rightly (contact_by (place_of bytes) ps) (mesh_of l) (mesh_of r) (place_of bytes)) (sym (ap₂ (pairs_of true) (parts_table (file_parts l)) (parts_table (file_parts r))))
      (difference_rightly (strategy_of (split_number l)) (corner_limit l) (mesh_of l) (strategy_of (split_number r)) (corner_limit r) (mesh_of r) (accepted_mesh l h.0) (accepted_mesh r h.1) (place_of bytes))

pub placed_rightly : PlacedRightly
placed_rightly bytes e = record { text = text bytes e; rightly = rightly bytes e }
