-- Each triangle of either mesh is taken into exactly one part (`either_taken_whole`): there is room
-- for the parts of any accepted mesh. Assumes nothing.
use mathlib.Core.Path.{◌≡◌, refl, ◌∙◌}
use mathlib.Core.List.{List, [], ◌∷◌, flatten}
use Prim.Native.Nat.{ℕ, ◌/◌, ◌≤◌}
use native.Mathlib.Omega.{arith}
use borrow.Author.Tests.{le-ltb}
use lib.Dec.{ltb}
use lib.ListN.{length, drop}
use lib.IntN.{ℤ}
use Rattle.integers.specs.Faults.{first_fault}
use Rattle.integers.proofs.Faults.{append_none, first_next, first_empty}
use Rattle.mesh.specs.Mesh.{Mesh, mesh_kinds}
use Rattle.mesh.proofs.Accepted.{accepted}
use Rattle.table.specs.Table.{starts_of, room_kinds}
use Rattle.table.proofs.Parts.{length_starts}
use Rattle.convex.specs.Joining.{parts, parts_fault}
use Rattle.convex.proofs.Sizes.{parts_few, parts_size}
use Rattle.cover_parts.specs.Taken.{TakenWhole}
use Rattle.cover_parts.proofs.Taken.{each_taken_whole}
use Rattle.listing.specs.File.{mesh_of, file_fault}
use Rattle.listing.proofs.File.{accepted_mesh}
use Rattle.mesh_pair.specs.Files.{left_file, right_file}
use Rattle.meshes_job.proofs.Refused.{files_accepted, both_accepted}
use Rattle.meshes_contours.specs.Exact.{EitherTakenWhole}

module _ (s : List ℕ) (c : List ℤ) (hs : 1025 ≤ length s) (hc : 6144 ≤ length c) where
  -- no more parts than triangles, and no more corners than theirs
  room : (m : Mesh) → first_fault (mesh_kinds m) ≡ 0 → parts_fault m (length s) (length c) ≡ 0
  unfolding parts_fault
  room m h =
      let a = accepted m h in
      append_none (mesh_kinds m) (room_kinds (parts m) (length s) (length c)) (omega arith, (omega arith, (omega arith, (omega arith, (omega arith, (omega arith, (omega arith, tt))))))) h
      ∙ first_next 22 _ (le-ltb (length s) (length (starts_of (parts m))) (omega (arith, length_starts (parts m), parts_few a, a.few)))
      ∙ first_next 21 _ (le-ltb (length c / 2) (length (flatten (parts m))) (omega (arith, parts_size a, a.few))) ∙ first_empty

  file_taken : (file : List ℕ) → file_fault file ≡ 0 → TakenWhole (mesh_of file) s c
  file_taken file h = each_taken_whole (mesh_of file) s c (room (mesh_of file) (accepted_mesh file h))

pub either_taken_whole : EitherTakenWhole
either_taken_whole bytes s c e hs hc =
    let h = both_accepted (drop 4 bytes) (files_accepted bytes e) in
    record { left = file_taken s c hs hc (left_file (drop 4 bytes)) h.0; right = file_taken s c hs hc (right_file (drop 4 bytes)) h.1 }
