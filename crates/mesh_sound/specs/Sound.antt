-- A sound mesh: what one pass over the rows asks of each triangle by itself and of the total.
-- Assumes nothing.
use Rattle.std.specs.Prelude.{Bool, true, false, not, cond, List, [], ◌∷◌, ℤ, pos, ◌+ℤ◌}
use Rattle.std.specs.Int.Signed.{le_z, lt_z}
use Rattle.mesh.specs.Mesh.{Triangle, triangle_area, triangle_off}

-- a triangle on the grid, its doubled area above 0
unfoldable pub sound : Triangle → Bool
sound t = cond (triangle_off t) false (not (le_z (triangle_area t) (pos 0)))

-- every triangle is sound, and no sum of their doubled areas, onto z, is past 2^63 - 1
unfoldable pub sound_from : ℤ → List Triangle → Bool
sound_from z [] = true
sound_from z (t ∷ l) = cond (sound t) (cond (lt_z (pos 9223372036854775807) (z +ℤ triangle_area t)) false (sound_from (z +ℤ triangle_area t) l)) false
