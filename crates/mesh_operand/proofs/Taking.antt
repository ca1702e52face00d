-- What is told of a file as an operand: its refusal, or what stands on the front of the arrays.
-- Assumes nothing.
use mathlib.Core.Path.{◌≡◌, sym, ◌∙◌}
use mathlib.Core.List.{List}
use Prim.Native.Nat.{ℕ}
use lib.ListN.{length}
use lib.IntN.{ℤ}
use Rattle.table.specs.declared.Counts.{Counts}
use Rattle.table.specs.declared.IntRect.{IntRect}
use Rattle.listing.specs.File.{mesh_of, file_fault}
use Rattle.file_parts.proofs.Files.{Left, fault_is, starts_in, corners_in, starts_taken, corners_taken}
use Rattle.mesh_bounds.specs.Bounds.{mesh_bounds}
use Rattle.mesh_operand.specs.declared.Taken.{Taken}
use Rattle.mesh_operand.specs.Operand.{Held, TakenFrom}

module _ {file : List ℕ} (s : List ℕ) (c : List ℤ) {told : Counts} {s' : List ℕ} {c' : List ℤ} (left : Left file s c told s' c') where
  pub taken_refused : (told.fault ≡ 0 → ⊥) → {b : IntRect} → TakenFrom file (record { fault = told.fault; parts = 0; corners = 0; bounds = b }) s' c'
  taken_refused h = record { fault = fault_is file s c left; held = λ z. absurd (h z) }

  pub taken_held : told.fault ≡ 0 → {b : IntRect} → b ≡ mesh_bounds (mesh_of file) → TakenFrom file (record { fault = told.fault; parts = told.parts; corners = told.corners; bounds = b }) s' c'
  taken_held z eb = record {
    fault = fault_is file s c left;
    held = λ _. record {
      accepted = sym (fault_is file s c left) ∙ z;
      starts_in = starts_in file s c left z;
      corners_in = corners_in file s c left z;
      starts = starts_taken file s c left z;
      corners = corners_taken file s c left z;
      bounds = eb;
    };
  }
