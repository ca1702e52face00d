-- Where a whole-number place lies by the contours of a pair result: inside none (apart), on the rim
-- of some and strictly inside none (touching), strictly inside some (overlapping). Of the
-- differences of two meshes that says whether the second, moved to the place, meets or overlaps the
-- first ("Those contours bound where a piece may lie"): placement_meshes/specs. Contours are any
-- starts and corners; of one that is not convex the tests say where the place lies by its edges, no
-- more. Assumes nothing.
use Rattle.std.specs.Prelude.{◌≡◌, Bool, true, false, cond, List, [], ◌∷◌, ℕ, ◌<◌, eqb, length, ℤ, pos}
use Rattle.std.specs.Int.Signed.{le_z, lt_z}
use Rattle.integers.specs.Faults.{first_fault, fault_rules, fault_range}
use Rattle.integers.specs.Lists.{neighbours}
use Rattle.plane.specs.Plane.{Pt, area_two, eq_pt}
use Rattle.corners.specs.Corners.{points_of, off_range}
use Rattle.table.specs.Table.{table_parts, result_broken}
use Rattle.placement.specs.declared.Contact.{Contact}
use Rattle.placement.specs.declared.Contact.TheVariants.{Apart, Touching, Overlapping}
use Rattle.placement.specs.declared.Placed.{Placed}
use Rattle.placement.specs.declared.Placed.TheVariants.{At, Refused}

module _ {A : Type 0} where
  -- whether a test holds of every element, and of some
  unfoldable pub every : (A → Bool) → List A → Bool
  every t [] = true
  every t (x ∷ l) = cond (t x) (every t l) false

  unfoldable pub some : (A → Bool) → List A → Bool
  some t [] = false
  some t (x ∷ l) = cond (t x) true (some t l)

-- ---- one contour, counter-clockwise and convex as those of meshes' parts are

-- how far z is left of an edge: the doubled area of its ends and z
abbrev pub side : Pt → Pt × Pt → ℤ
side z e = area_two e.0 e.1 z

-- z is on or left of an edge; left of it, where it has a length; left of it
abbrev pub on_or_left : Pt → Pt × Pt → Bool
on_or_left z e = le_z (pos 0) (side z e)

abbrev pub left_or_none : Pt → Pt × Pt → Bool
left_or_none z e = cond (lt_z (pos 0) (side z e)) true (eq_pt e.0 e.1)

abbrev pub left_of : Pt → Pt × Pt → Bool
left_of z e = lt_z (pos 0) (side z e)

-- z is within the corners' least and greatest x and y: by its edges alone a contour on one line, as
-- two segments in line give, would cover the whole line, and an empty one everything
unfoldable pub among : List Pt → Pt → Bool
among l z =
    cond (some (λ c. le_z c.x z.x) l)
    (cond (some (λ c. le_z z.x c.x) l) (cond (some (λ c. le_z c.y z.y) l) (some (λ c. le_z z.y c.y) l) false) false)
    false

-- inside: on or left of each edge
unfoldable pub inside_at : Pt → List Pt → Bool
inside_at z l = cond (every (on_or_left z) (neighbours l)) (among l z) false

-- strictly inside: left of each edge that has a length, and there is one
unfoldable pub strictly_inside_at : Pt → List Pt → Bool
strictly_inside_at z l = cond (every (left_or_none z) (neighbours l)) (some (left_of z) (neighbours l)) false

unfoldable pub contact_in : Pt → List Pt → Contact
contact_in z l = cond (strictly_inside_at z l) Overlapping (cond (inside_at z l) Touching Apart)

-- ---- some contours

unfoldable pub contact_by : Pt → List (List Pt) → Contact
contact_by z ps = cond (some (strictly_inside_at z) ps) Overlapping (cond (some (inside_at z) ps) Touching Apart)

-- its numbers
abbrev pub contact_number : Contact → ℕ
contact_number Apart = 0
contact_number Touching = 1
contact_number Overlapping = 2

-- ---- the call

-- 7 for starts or corners against a pair result's rules, 2 for a place or a corner not strictly
-- between −2^30 and 2^30
unfoldable pub place_fault : List ℕ → List ℤ → Pt → ℕ
place_fault starts corners z = first_fault ((fault_rules, result_broken starts corners) ∷ (fault_range, off_range (z.x ∷ z.y ∷ corners)) ∷ [])

unfoldable pub placed_of : List ℕ → List ℤ → Pt → Placed
placed_of starts corners z = cond (eqb (place_fault starts corners z) 0) (At (contact_by z (table_parts starts corners))) (Refused (place_fault starts corners z))

-- ---- what the steps of the call ask

-- two corners of a contour whose numbers are in range
pub record EdgeAt (contour : List ℤ) (i k : ℕ) : Type 0 where
  pub ranged : off_range contour ≡ false
  pub from : i < length (points_of contour)
  pub to : k < length (points_of contour)

-- starts and corners that neither 7 nor 2 is told of
pub record Placeable (starts : List ℕ) (corners : List ℤ) : Type 0 where
  pub whole : result_broken starts corners ≡ false
  pub ranged : off_range corners ≡ false
