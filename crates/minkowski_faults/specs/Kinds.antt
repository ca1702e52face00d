-- The faults of two operands as code tells them (document 01: "Pairs: 7, 2, 9, 8, 10, 20, 22, 21"):
-- those before 8 need no walk, those after it only bounds and counts. Assumes nothing.
use Rattle.std.specs.Prelude.{Bool, List, [], ◌∷◌, eqb, ℤ, ℕ}
use Rattle.integers.specs.Faults.{Kind, fault_bounds, fault_empty, fault_range, fault_result, fault_rules}
use Rattle.plane.specs.Plane.{Pt}
use Rattle.table.specs.declared.IntRect.{IntRect}
use Rattle.corners.specs.Corners.{points_of, off_range}
use Rattle.table.specs.Table.{table_broken, bounds_list, bounds_broken, part_count}
use Rattle.minkowski.specs.Pairs.{Operand, operand_off, result_bounds}

-- an operand as it is lent
abbrev pub operand : List ℕ → List ℤ → IntRect → Operand
operand starts corners bounds = record { starts = starts; corners = corners; bounds = bounds }

-- 7, 2, 9, "left before right"
abbrev pub operand_kinds : Operand → Operand → List Kind
operand_kinds l r =
    (fault_rules, table_broken l.starts l.corners) ∷ (fault_rules, table_broken r.starts r.corners)
    ∷ (fault_range, operand_off l) ∷ (fault_range, operand_off r)
    ∷ (fault_bounds, bounds_broken l.bounds (points_of l.corners)) ∷ (fault_bounds, bounds_broken r.bounds (points_of r.corners))
    ∷ []

-- 10, 20
abbrev pub result_kinds : Bool → Operand → Operand → List Kind
result_kinds reflected l r =
    (fault_result, off_range (bounds_list (result_bounds reflected l.bounds r.bounds)))
    ∷ (fault_empty, eqb (part_count l.starts) 0) ∷ (fault_empty, eqb (part_count r.starts) 0)
    ∷ []
