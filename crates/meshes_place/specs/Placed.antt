-- A place and two mesh files: "two i32, then a left mesh file, then a right mesh file, each as long
-- as its own header's total says". Where the right mesh, moved by the place, lies by the left one,
-- and what is printed of it. Assumes nothing.
use Rattle.std.specs.Prelude.{◌≡◌, true, not, cond, List, [], ◌∷◌, ℕ, ◌≤◌, eqb, ltb, length, drop}
use Rattle.integers.specs.Faults.{first_fault, fault_file, fault_range}
use Rattle.plane.specs.Plane.{Pt, on_grid}
use Rattle.table.specs.Stored.{word_at, signed}
use Rattle.text.specs.Text.{refusal}
use Rattle.minkowski.specs.Pairs.{pair_contours}
use Rattle.mesh_pair.specs.Files.{files_fault, left_operand, right_operand}
use Rattle.meshes_job.specs.Printed.{result_fault}
use Rattle.placement.specs.declared.Contact.{Contact}
use Rattle.placement.specs.declared.Contact.TheVariants.{Apart, Touching, Overlapping}
use Rattle.placement.specs.declared.Placed.{Placed}
use Rattle.placement.specs.declared.Placed.TheVariants.{At, Refused}
use Rattle.placement.specs.Placement.{contact_by}

-- ---- what is read

abbrev pub place_of : List ℕ → Pt
place_of bytes = record { x = signed (word_at bytes 0); y = signed (word_at bytes 1) }

abbrev pub files_of : List ℕ → List ℕ
files_of bytes = drop 8 bytes

-- ---- its faults

-- "13 for fewer than 8 bytes; 2 for a place not strictly between −2^30 and 2^30"
unfoldable pub point_fault : List ℕ → ℕ
point_fault bytes = first_fault ((fault_file, ltb (length bytes) 8) ∷ (fault_range, not (on_grid (place_of bytes))) ∷ [])

-- "then the left file's own numbers; then the right's"; then 10 and 20 of their difference
unfoldable pub placed_fault : List ℕ → ℕ
placed_fault bytes =
    cond (eqb (point_fault bytes) 0)
    (cond (eqb (files_fault (files_of bytes)) 0) (result_fault true (left_operand (files_of bytes)) (right_operand (files_of bytes))) (files_fault (files_of bytes)))
    (point_fault bytes)

-- ---- what is told and printed

-- where the place lies by the contours of all pairs of the difference of the two meshes' split
-- parts
unfoldable pub contact_of : List ℕ → Contact
contact_of bytes = contact_by (place_of bytes) (pair_contours true (left_operand (files_of bytes)) (right_operand (files_of bytes)))

abbrev pub placed_of : List ℕ → Placed
placed_of bytes = cond (eqb (placed_fault bytes) 0) (At (contact_of bytes)) (Refused (placed_fault bytes))

-- `apart`, `touching`, `overlapping`, and a line's end
abbrev pub contact_text : Contact → List ℕ
contact_text Apart = 97 ∷ 112 ∷ 97 ∷ 114 ∷ 116 ∷ 10 ∷ []
contact_text Touching = 116 ∷ 111 ∷ 117 ∷ 99 ∷ 104 ∷ 105 ∷ 110 ∷ 103 ∷ 10 ∷ []
contact_text Overlapping = 111 ∷ 118 ∷ 101 ∷ 114 ∷ 108 ∷ 97 ∷ 112 ∷ 112 ∷ 105 ∷ 110 ∷ 103 ∷ 10 ∷ []

unfoldable pub answer_text : Placed → List ℕ
answer_text (At c) = contact_text c
answer_text (Refused f) = refusal f

abbrev pub placed_text : List ℕ → List ℕ
placed_text bytes = answer_text (placed_of bytes)
