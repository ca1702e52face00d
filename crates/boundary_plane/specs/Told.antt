-- What each function of the boundary tells: the fault number and the value. Assumes nothing.
use Rattle.std.specs.Prelude.{Bool, true, false, cond, List, [], ◌∷◌, ℤ, pos, negsuc}
use Rattle.integers.specs.Faults.{fault_range, fault_triangles}
use Rattle.std.specs.declared.cmp.Ordering.{Ordering}
use Rattle.std.specs.declared.cmp.Ordering.TheVariants.{Less, Equal, Greater}
use Rattle.plane.specs.Plane.{Pt, ◌-ᵖ◌, on_grid, cross, area_two, angle_cmp}
use Rattle.boundary_plane.specs.declared.Told.{Told}

-- each point is on the grid
unfoldable pub all_on : List Pt → Bool
all_on [] = true
all_on (p ∷ l) = cond (on_grid p) (all_on l) false

-- a value, or 2 and the value 0
unfoldable pub told : Bool → ℤ → Told
told ok v = cond ok (record { fault = 0; value = v }) (record { fault = fault_range; value = pos 0 })

-- less is -1, equal 0, greater 1
abbrev pub order_number : Ordering → ℤ
order_number Less = negsuc 0
order_number Equal = pos 0
order_number Greater = pos 1

-- of the vectors from a to b and from c to d
unfoldable pub told_cross : Pt → Pt → Pt → Pt → Told
told_cross a b c d = told (all_on (a ∷ b ∷ c ∷ d ∷ [])) (cross (b -ᵖ a) (d -ᵖ c))

unfoldable pub told_area : Pt → Pt → Pt → Told
told_area a b c = told (all_on (a ∷ b ∷ c ∷ [])) (area_two a b c)

unfoldable pub told_angle : Pt → Pt → Pt → Pt → Told
told_angle a b c d = told (all_on (a ∷ b ∷ c ∷ d ∷ [])) (order_number (angle_cmp (b -ᵖ a) (d -ᵖ c)))
