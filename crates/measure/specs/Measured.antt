-- What the calls tell that measure: the doubled area of a contour, of part k and of all parts, and
-- the bounds of all corners; the fault of each. Starts and corners are a part table's or a pair
-- result's: "The limits above don't bind it." A contour may run either way, cross itself or be
-- empty. Assumes nothing.
use Rattle.std.specs.Prelude.{cond, List, [], ◌∷◌, ℕ, eqb, leb, get_or, ℤ, pos}
use Rattle.integers.specs.Faults.{first_fault, fault_rules, fault_range, fault_total, fault_part}
use Rattle.plane.specs.Contour.{contour_area}
use Rattle.table.specs.declared.IntRect.{IntRect}
use Rattle.table.specs.Table.{table_parts, part_count, result_broken}
use Rattle.corners.specs.Corners.{points_of, off_range, ragged}
use Rattle.pair.specs.Walk.{in_word}
use Rattle.mesh_bounds.specs.Bounds.{bounds_of}
use Rattle.table_areas.specs.Areas.{total_area}
use Rattle.measure.specs.declared.Measured.{Measured}
use Rattle.measure.specs.declared.Bounded.{Bounded}

-- ---- the faults

-- 7 for a number without its fellow, 2 for a coordinate out of range
unfoldable pub contour_fault : List ℤ → ℕ
contour_fault contour = first_fault ((fault_rules, ragged contour) ∷ (fault_range, off_range contour) ∷ [])

-- 7 for starts or corners against a pair result's rules
unfoldable pub table_fault : List ℕ → List ℤ → ℕ
table_fault starts corners = first_fault ((fault_rules, result_broken starts corners) ∷ (fault_range, off_range corners) ∷ [])

-- then "12: part number past the table"
unfoldable pub part_fault : List ℕ → List ℤ → ℕ → ℕ
part_fault starts corners k = first_fault ((fault_rules, result_broken starts corners) ∷ (fault_range, off_range corners) ∷ (fault_part, leb (part_count starts) k) ∷ [])

-- ---- doubled areas

-- "A refusal returns the number and zero counts"
abbrev pub area_refused : ℕ → Measured
area_refused f = record { fault = f; area_two = pos 0 }

-- a doubled area, which may leave signed 64 bits: 11
unfoldable pub area_told : ℤ → Measured
area_told z = cond (in_word z) (record { fault = 0; area_two = z }) (area_refused fault_total)

-- what is told of an area behind the fault f
abbrev pub area_behind : ℕ → ℤ → Measured
area_behind f z = cond (eqb f 0) (area_told z) (area_refused f)

unfoldable pub contour_measured : List ℤ → Measured
contour_measured contour = area_behind (contour_fault contour) (contour_area (points_of contour))

unfoldable pub part_measured : List ℕ → List ℤ → ℕ → Measured
part_measured starts corners k = area_behind (part_fault starts corners k) (contour_area (get_or (table_parts starts corners) k []))

unfoldable pub table_measured : List ℕ → List ℤ → Measured
table_measured starts corners = area_behind (table_fault starts corners) (total_area (table_parts starts corners))

-- ---- bounds

abbrev pub bounds_laid : ℕ → IntRect → Bounded
bounds_laid f b = record { fault = f; min_x = b.min_x; max_x = b.max_x; min_y = b.min_y; max_y = b.max_y }

-- "least and greatest x and y" of all corners, 0 for a table without corners, as of a mesh
-- (mesh_bounds/Bounds.`bounds_of`, `Bounding`)
unfoldable pub bounds_told : List ℕ → List ℤ → Bounded
bounds_told starts corners = cond (eqb (table_fault starts corners) 0) (bounds_laid 0 (bounds_of (points_of corners))) (bounds_laid (table_fault starts corners) (bounds_of []))
