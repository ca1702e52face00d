-- The parts of an accepted mesh, once gathered, are answered as document 01 says (`answered`).
-- Assumes nothing.
use mathlib.Core.Path.{◌≡◌}
use mathlib.Core.List.{List}
use Prim.Native.Nat.{ℕ}
use lib.IntN.{ℤ}
use Rattle.integers.specs.Faults.{first_fault}
use Rattle.table.specs.declared.Counts.{Counts}
use Rattle.mesh.specs.Mesh.{Mesh, mesh_kinds}
use Rattle.convex.specs.Joining.{parts, parts_fault, PartsAnswered}
use Rattle.points.specs.declared.Tally.{Tally}
use Rattle.points.specs.Gathered.{Gathered}
use Rattle.convex_gather.specs.Gather.{HandedOut}
use Rattle.convex_gather.proofs.Answer.{mesh_answered}

pub answered : (m : Mesh) {begins : List ℕ} {points : List (List ℤ)} {t : Tally} {s : List ℕ} {c : List ℤ} {r : Counts} {s' : List ℕ} {c' : List ℤ} → first_fault (mesh_kinds m) ≡ 0 → Gathered begins points t (parts m) → HandedOut begins points t s c r s' c' → PartsAnswered m s c r s' c'
unfolding parts_fault
answered m {s = s} {c = c} e g h = mesh_answered m e (h.answer (parts m) g)
