-- The split parts of an accepted mesh as an operand of pairs. Assumes nothing.
use Rattle.std.specs.Prelude.{◌≡◌, Bool, false, ℕ, eqb}
use mathlib.Core.List.{[], ◌∷◌, flatten}
use Rattle.integers.specs.Faults.{first_fault, fault_empty, fault_result}
use Rattle.mesh.specs.Mesh.{Mesh, mesh_kinds}
use Rattle.table.specs.declared.IntRect.{IntRect}
use Rattle.corners.specs.Corners.{points_of, off_range}
use Rattle.table.specs.Table.{starts_of, corners_of, table_broken, bounds_list, bounds_broken, part_count}
use Rattle.split.specs.declared.ConvexSplitStrategy.{ConvexSplitStrategy}
use Rattle.split.specs.Splitting.{split_parts}
use Rattle.minkowski.specs.Pairs.{Operand, operand_parts, operand_off, some_winding_leaves, result_bounds, pair_kinds}

-- their table with bounds b
abbrev pub split_operand : ConvexSplitStrategy → ℕ → Mesh → IntRect → Operand
split_operand how m mesh b = record { starts = starts_of (split_parts how m mesh); corners = corners_of (split_parts how m mesh); bounds = b }

-- no fault 7, 2, 9 or 8, on the left or on the right, in a sum or a difference
pub record Unfaulted (o : Operand) : Type 0 where
  pub table : table_broken o.starts o.corners ≡ false
  pub range : operand_off o ≡ false
  pub bounds : bounds_broken o.bounds (points_of o.corners) ≡ false
  pub windings : (reflected : Bool) → some_winding_leaves reflected (operand_parts o) ≡ false

-- with bounds in range that hold their corners
abbrev pub SplitIsOperand : Type 0
SplitIsOperand =
    (how : ConvexSplitStrategy) (m : ℕ) (mesh : Mesh) (b : IntRect) → first_fault (mesh_kinds mesh) ≡ 0 → off_range (bounds_list b) ≡ false → bounds_broken b (flatten (split_parts how m mesh)) ≡ false →
    Unfaulted (split_operand how m mesh b)

-- so of two such operands only the result's bounds (10) and an operand without parts (20) are
-- refused
abbrev pub SplitPairs : Type 0
SplitPairs =
    (reflected : Bool) (l r : Operand) → Unfaulted l → Unfaulted r →
    first_fault (pair_kinds reflected l r)
    ≡ first_fault ((fault_result, off_range (bounds_list (result_bounds reflected l.bounds r.bounds))) ∷ (fault_empty, eqb (part_count l.starts) 0) ∷ (fault_empty, eqb (part_count r.starts) 0) ∷ [])
