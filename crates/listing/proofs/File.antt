-- The fault of a mesh file: its header's where there is one (`header_told`), else its mesh's
-- (`mesh_told`); an accepted file's mesh is accepted (`accepted_mesh`). What a sound header tells
-- of the bytes' length (`sound`). Assumes nothing.
use mathlib.Core.Path.{◌≡◌, sym, ◌∙◌}
use mathlib.Core.Bool.{false}
use mathlib.Core.List.{List}
use Prim.Native.Nat.{ℕ, ◌+◌, ◌*◌, ◌≤◌}
use native.Mathlib.Omega.{arith}
use borrow.Author.Tests.{ltb-false, eqb-true, not-false}
use lib.Dec.{eqb, ltb}
use lib.ListN.{length}
use Rattle.integers.specs.Faults.{first_fault}
use Rattle.integers.proofs.Faults.{first_none, append_some, append_none}
use Rattle.integers.proofs.Tests.{either_false}
use Rattle.mesh.specs.Mesh.{max_triangles, mesh_kinds}
use Rattle.mesh.specs.Rows.{row_bytes}
use Rattle.corners.proofs.Range.{was_taken}
use Rattle.listing.specs.File.{total_bytes, triangle_count, record_offset, split_number, mesh_of, header_broken, header_kinds, file_fault}

module _ (bytes : List ℕ) where
  pub header_told : (first_fault (header_kinds bytes) ≡ 0 → ⊥) → file_fault bytes ≡ first_fault (header_kinds bytes)
  unfolding file_fault
  header_told h = append_some (header_kinds bytes) (mesh_kinds (mesh_of bytes)) h

  pub mesh_told : first_fault (header_kinds bytes) ≡ 0 → file_fault bytes ≡ first_fault (mesh_kinds (mesh_of bytes))
  unfolding file_fault
  mesh_told e = append_none (header_kinds bytes) (mesh_kinds (mesh_of bytes)) (omega arith, (omega arith, (omega arith, tt))) e

  pub accepted_mesh : file_fault bytes ≡ 0 → first_fault (mesh_kinds (mesh_of bytes)) ≡ 0
  unfolding file_fault
  accepted_mesh e = (first_none _ _ (omega arith) (first_none _ _ (omega arith) (first_none _ _ (omega arith) e).1).1).1

-- a sound header: its length and its count
pub record Sound (bytes : List ℕ) : Type 0 where
  pub enough : 20 ≤ length bytes
  pub few : triangle_count bytes ≤ max_triangles
  pub whole : length bytes ≡ 20 + row_bytes * triangle_count bytes

pub unbroken : (bytes : List ℕ) → header_broken bytes ≡ false → length bytes ≡ 20 + row_bytes * triangle_count bytes
unfolding header_broken
unbroken bytes e =
    let a = was_taken (eqb (record_offset bytes) 20) _ e in
    let b = either_false (ltb 2 (split_number bytes)) _ a.1 in
    let c = was_taken (eqb (total_bytes bytes) (20 + row_bytes * triangle_count bytes)) _ b.1 in
    sym (eqb-true (total_bytes bytes) (length bytes) (not-false _ c.1)) ∙ eqb-true _ _ c.0

pub sound : (bytes : List ℕ) → first_fault (header_kinds bytes) ≡ 0 → Sound bytes
sound bytes e =
    let a = first_none _ _ (omega arith) e in
    let b = first_none _ _ (omega arith) a.1 in
    let c = first_none _ _ (omega arith) b.1 in
    record { enough = ltb-false (length bytes) 20 a.0; few = ltb-false max_triangles (triangle_count bytes) b.0; whole = unbroken bytes c.0 }
