-- What is told of a judgement: the number of its fault, 0 where it is accepted. Assumes nothing.
use Rattle.std.specs.Prelude.{ℕ, cond, Result, Ok, Err, eqb}
use Rattle.integers.specs.Faults.{fault_triangles, fault_range, fault_stray, fault_naming, fault_edge, fault_flat, fault_rules, fault_winding, fault_bounds, fault_result, fault_total, fault_part, fault_file, fault_path, fault_empty, fault_corner_room, fault_start_room, fault_place}
use Rattle.faults.specs.declared.Fault.{Fault}
use Rattle.faults.specs.declared.Fault.TheVariants as fault

-- the number of a fault
abbrev pub number : Fault → ℕ
number fault.Triangles = fault_triangles
number fault.Range = fault_range
number fault.Stray = fault_stray
number fault.Naming = fault_naming
number fault.Edge = fault_edge
number fault.Flat = fault_flat
number fault.Rules = fault_rules
number fault.Winding = fault_winding
number fault.Bounds = fault_bounds
number fault.Result = fault_result
number fault.Total = fault_total
number fault.Part = fault_part
number fault.File = fault_file
number fault.Path = fault_path
number fault.Empty = fault_empty
number fault.CornerRoom = fault_corner_room
number fault.StartRoom = fault_start_room
number fault.Place = fault_place

-- the fault's number; 0 where there is none
abbrev pub told : {T : Type 0} → Result T Fault → ℕ
told (Ok _) = 0
told (Err f) = number f

-- the fault of a number; any other number than a fault's is read as the last
unfoldable pub numbered : ℕ → Fault
numbered n =
    cond (eqb n fault_triangles) fault.Triangles (
    cond (eqb n fault_range) fault.Range (
    cond (eqb n fault_stray) fault.Stray (
    cond (eqb n fault_naming) fault.Naming (
    cond (eqb n fault_edge) fault.Edge (
    cond (eqb n fault_flat) fault.Flat (
    cond (eqb n fault_rules) fault.Rules (
    cond (eqb n fault_winding) fault.Winding (
    cond (eqb n fault_bounds) fault.Bounds (
    cond (eqb n fault_result) fault.Result (
    cond (eqb n fault_total) fault.Total (
    cond (eqb n fault_part) fault.Part (
    cond (eqb n fault_file) fault.File (
    cond (eqb n fault_path) fault.Path (
    cond (eqb n fault_empty) fault.Empty (
    cond (eqb n fault_corner_room) fault.CornerRoom (
    cond (eqb n fault_start_room) fault.StartRoom (
    fault.Place)))))))))))))))))

-- a value that is judged by a number, 0 where it is accepted
abbrev pub judged : {T : Type 0} → ℕ → T → Result T Fault
judged n x = cond (eqb n 0) (Ok x) (Err (numbered n))
