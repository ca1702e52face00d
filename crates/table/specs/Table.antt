-- The part table (document 01, "Tables the desks exchange"): "a list of starts and a list of
-- corners (x, y in turn)", its rules, limits and bounds; parts to table and back. Assumes nothing.
use Rattle.std.specs.Prelude.{◌≡◌, Bool, true, false, not, cond, ℕ, ◌+◌, ◌*◌, ◌-◌, ◌/◌, ◌%◌, eqb, ltb, length, take, get_or, ℤ}
use mathlib.Core.List.{List, [], ◌∷◌, flatten}
use Rattle.std.proofs.Math.Seq.{slice}
use Rattle.std.specs.Int.Signed.{le_z, lt_z}
use Rattle.integers.specs.Faults.{Kind, fault_corner_room, fault_start_room}
use Rattle.integers.specs.Lists.{overlay}
use Rattle.plane.specs.Plane.{Pt}
use Rattle.corners.specs.Corners.{points_of, numbers_of}
use Rattle.table.specs.declared.IntRect.{IntRect}
use Rattle.table.specs.declared.Counts.{Counts}

-- ---- parts to table and back

-- "Starts begin at 0, .. end at the corner count; there is one more start than parts": from k on
unfoldable pub starts_from : ℕ → List (List Pt) → List ℕ
starts_from k [] = k ∷ []
starts_from k (p ∷ ps) = k ∷ starts_from (k + length p) ps

unfoldable pub starts_of : List (List Pt) → List ℕ
starts_of ps = starts_from 0 ps

unfoldable pub corners_of : List (List Pt) → List ℤ
corners_of ps = numbers_of (flatten ps)

-- the points from each start to the next
unfoldable pub parts_of : List ℕ → List Pt → List (List Pt)
parts_of [] l = []
parts_of (a ∷ []) l = []
parts_of (a ∷ b ∷ s) l = slice a b l ∷ parts_of (b ∷ s) l

-- the parts of a table as it is lent
unfoldable pub table_parts : List ℕ → List ℤ → List (List Pt)
table_parts starts corners = parts_of starts (points_of corners)

-- the first n contours of lent starts and corners, whatever stands behind them
abbrev pub first_contours : ℕ → List ℕ → List ℤ → List (List Pt)
first_contours n starts corners = table_parts (take (n + 1) starts) (take (2 * get_or starts n 0) corners)

-- ---- its rules and limits: fault 7, "a part table against its rules or limits"

-- "Limits: 2,048 parts, 8,192 corners, 1,026 corners a contour."
abbrev pub max_parts : ℕ
max_parts = 2048

abbrev pub max_corners : ℕ
max_corners = 8192

abbrev pub max_contour : ℕ
max_contour = 1026

-- how many parts: one fewer than starts
abbrev pub part_count : List ℕ → ℕ
part_count starts = length starts - 1

-- a start falls, or a contour has more than m corners, or the last is not the corner count n
unfoldable pub steps_broken : ℕ → ℕ → ℕ → List ℕ → Bool
steps_broken m n a [] = not (eqb a n)
steps_broken m n a (b ∷ s) = cond (ltb b a) true (cond (ltb (a + m) b) true (steps_broken m n b s))

unfoldable pub starts_broken : ℕ → ℕ → List ℕ → Bool
starts_broken m n [] = true
starts_broken m n (a ∷ s) = cond (eqb a 0) (steps_broken m n a s) true

unfoldable pub table_broken : List ℕ → List ℤ → Bool
table_broken starts corners =
    cond (eqb (length corners % 2) 0)
    (cond (ltb max_parts (part_count starts)) true (cond (ltb max_corners (length corners / 2)) true (starts_broken max_contour (length corners / 2) starts)))
    true

-- the same without the limits, which "don't bind" a pair result: no contour has more corners than
-- there are
unfoldable pub result_broken : List ℕ → List ℤ → Bool
result_broken starts corners = cond (eqb (length corners % 2) 0) (starts_broken (length corners / 2) (length corners / 2) starts) true

-- ---- bounds

abbrev pub bounds_list : IntRect → List ℤ
bounds_list b = b.min_x ∷ b.max_x ∷ b.min_y ∷ b.max_y ∷ []

-- a corner within its bounds
unfoldable pub within_bounds : IntRect → Pt → Bool
within_bounds b p = cond (le_z b.min_x p.x) (cond (le_z p.x b.max_x) (cond (le_z b.min_y p.y) (le_z p.y b.max_y) false) false) false

unfoldable pub some_outside : IntRect → List Pt → Bool
some_outside b [] = false
some_outside b (p ∷ l) = cond (within_bounds b p) (some_outside b l) true

-- fault 9: "a least bound above a greatest, or a corner outside its bounds"
unfoldable pub bounds_broken : IntRect → List Pt → Bool
bounds_broken b l = cond (lt_z b.max_x b.min_x) true (cond (lt_z b.max_y b.min_y) true (some_outside b l))

-- ---- a call that writes the table of some parts into lent starts and corners

-- "22: fewer places for starts than the answer has", "21: fewer places for corners (two numbers
-- each) than the answer has"
abbrev pub room_kinds : List (List Pt) → ℕ → ℕ → List Kind
room_kinds ps starts corners = (fault_start_room, ltb starts (length (starts_of ps))) ∷ (fault_corner_room, ltb (corners / 2) (length (flatten ps))) ∷ []

-- "A refusal returns the number and zero counts": f is the fault number, ps the parts where it is 0
abbrev pub counts_of : ℕ → List (List Pt) → Counts
counts_of f ps = cond (eqb f 0) (record { fault = 0; parts = length ps; corners = length (flatten ps) }) (record { fault = f; parts = 0; corners = 0 })

-- "changes no buffer"; "On success places past the answer keep what they held."
abbrev pub written : {A : Type 0} → ℕ → List A → List A → List A
written f answer old = cond (eqb f 0) (overlay answer old) old

-- what such a call with the fault number f answers, and leaves in the lent starts and corners,
-- which held s and c
pub record Answered (f : ℕ) (ps : List (List Pt)) (s : List ℕ) (c : List ℤ) (r : Counts) (s' : List ℕ) (c' : List ℤ) : Type 0 where
  pub counts : r ≡ counts_of f ps
  pub starts : s' ≡ written f (starts_of ps) s
  pub corners : c' ≡ written f (corners_of ps) c
