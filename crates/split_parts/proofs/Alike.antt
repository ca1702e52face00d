-- Calls that answer alike: where no part can have more corners than the limit, splitting is joining
-- (`left_whole`, of an accepted mesh), and limits that are raised to one number split alike
-- (`same_limit`). Assumes an accepted mesh where it says so.
use mathlib.Core.Path.{◌≡◌, sym, ap, subst}
use mathlib.Core.List.{List, ◌++◌, map, flatten}
use Prim.Native.Nat.{ℕ, ◌+◌, ◌≤◌}
use lib.ListN.{length}
use lib.IntN.{ℤ}
use Rattle.integers.specs.Faults.{first_fault}
use Rattle.mesh.specs.Mesh.{Mesh, mesh_kinds}
use Rattle.mesh.proofs.Accepted.{accepted}
use Rattle.table.specs.declared.Counts.{Counts}
use Rattle.table.specs.Table.{room_kinds, Answered}
use Rattle.convex.specs.Joining.{parts, parts_fault, PartsAnswered}
use Rattle.split.specs.declared.ConvexSplitStrategy.{ConvexSplitStrategy}
use Rattle.split.specs.Splitting.{raised, split_contour, split_parts, split_fault, SplitAnswered}
use Rattle.split.proofs.Sizes.{split_whole}

module _ (how : ConvexSplitStrategy) (limit : ℕ) (m : Mesh) {s : List ℕ} {c : List ℤ} {r : Counts} {s' : List ℕ} {c' : List ℤ} where
  pub left_whole : first_fault (mesh_kinds m) ≡ 0 → length m + 2 ≤ raised limit → PartsAnswered m s c r s' c' → SplitAnswered how limit m s c r s' c'
  unfolding parts_fault split_fault
  left_whole a h = subst (λ ps. Answered (first_fault (mesh_kinds m ++ room_kinds ps (length s) (length c))) ps s c r s' c') (sym (split_whole how limit (accepted m a) h))

  pub same_limit : (k : ℕ) → raised k ≡ raised limit → SplitAnswered how k m s c r s' c' → SplitAnswered how limit m s c r s' c'
  unfolding split_fault split_parts
  same_limit k e = subst (λ ps. Answered (first_fault (mesh_kinds m ++ room_kinds ps (length s) (length c))) ps s c r s' c') (ap (λ n. flatten (map (split_contour how n) (parts m))) e)
