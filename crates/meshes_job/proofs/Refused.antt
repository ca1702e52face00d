-- Two accepted files are both operands without faults of their own, so that only the pair's are
-- left (`meshes_paired`). Assumes nothing.
use mathlib.Core.Path.{◌≡◌, refl, sym, ◌∙◌, ap}
use mathlib.Core.Bool.{false, cond}
use mathlib.Core.List.{List}
use Prim.Native.Nat.{ℕ, zero, suc, ◌≤◌}
use native.Mathlib.Omega.{arith}
use borrow.Author.Tests.{ne_eqb, ltb-false}
use lib.Dec.{eqb, ltb}
use lib.ListN.{length, drop}
use Rattle.integers.proofs.Faults.{first_none}
use Rattle.table.specs.Stored.{word_at}
use Rattle.listing.specs.File.{file_fault}
use Rattle.split_operand.proofs.Operand.{split_pairs}
use Rattle.mesh_operand.proofs.Operand.{file_is_operand}
use Rattle.mesh_pair.specs.Files.{left_file, right_file, files_fault, left_operand, right_operand}
use Rattle.meshes_job.specs.Job.{operation_fault, meshes_fault}
use Rattle.meshes_job.specs.Refused.{MeshesPaired}

-- of two faults, the first that there is: none where neither is
neither : (a b : ℕ) → cond (eqb a 0) b a ≡ 0 → (a ≡ 0) × (b ≡ 0)
neither zero b e = (refl, e)
neither (suc a) b e =
    let n : eqb (suc a) 0 ≡ false = ne_eqb (suc a) 0 (λ z. absurd (omega (arith, z))) in
    let h : suc a ≡ 0 = ap (λ t. cond t b (suc a)) (sym n) ∙ e in
    absurd (omega (arith, h))

pub files_accepted : (bytes : List ℕ) → meshes_fault bytes ≡ 0 → files_fault (drop 4 bytes) ≡ 0
unfolding meshes_fault
files_accepted bytes e = (neither (operation_fault bytes) (files_fault (drop 4 bytes)) e).1

pub operation_accepted : (bytes : List ℕ) → meshes_fault bytes ≡ 0 → word_at bytes 0 ≤ 1
unfolding meshes_fault operation_fault
operation_accepted bytes e =
    let o = (neither (operation_fault bytes) (files_fault (drop 4 bytes)) e).0 in
    let a = first_none (ltb (length bytes) 4) _ (omega arith) o in
    ltb-false 1 (word_at bytes 0) (first_none (ltb 1 (word_at bytes 0)) _ (omega arith) a.1).0

pub both_accepted : (files : List ℕ) → files_fault files ≡ 0 → (file_fault (left_file files) ≡ 0) × (file_fault (right_file files) ≡ 0)
unfolding files_fault
both_accepted files e = neither (file_fault (left_file files)) (file_fault (right_file files)) e

pub meshes_paired : MeshesPaired
meshes_paired bytes reflected e =
    let h = both_accepted (drop 4 bytes) (files_accepted bytes e) in
    split_pairs reflected (left_operand (drop 4 bytes)) (right_operand (drop 4 bytes)) (file_is_operand (left_file (drop 4 bytes)) h.0) (file_is_operand (right_file (drop 4 bytes)) h.1)
