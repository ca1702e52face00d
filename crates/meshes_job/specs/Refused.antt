-- What two accepted files' operands can be refused for: the result's bounds (10) and an empty mesh
-- (20), and nothing else. Proved in proofs/. Assumes nothing.
use Rattle.std.specs.Prelude.{◌≡◌, Bool, List, [], ◌∷◌, ℕ, eqb, drop}
use Rattle.integers.specs.Faults.{first_fault, fault_empty, fault_result}
use Rattle.corners.specs.Corners.{off_range}
use Rattle.table.specs.Table.{bounds_list, part_count}
use Rattle.minkowski.specs.Pairs.{result_bounds, pair_kinds}
use Rattle.mesh_pair.specs.Files.{left_operand, right_operand}
use Rattle.meshes_job.specs.Job.{meshes_fault}

-- so 7, 2, 9 and 8 cannot come of the operands that the job is made of
abbrev pub MeshesPaired : Type 0
MeshesPaired =
    (bytes : List ℕ) (reflected : Bool) → meshes_fault bytes ≡ 0 →
    first_fault (pair_kinds reflected (left_operand (drop 4 bytes)) (right_operand (drop 4 bytes)))
    ≡ first_fault (
    (fault_result, off_range (bounds_list (result_bounds reflected (left_operand (drop 4 bytes)).bounds (right_operand (drop 4 bytes)).bounds)))
    ∷ (fault_empty, eqb (part_count (left_operand (drop 4 bytes)).starts) 0) ∷ (fault_empty, eqb (part_count (right_operand (drop 4 bytes)).starts) 0) ∷ []
    )
