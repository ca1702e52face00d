-- A lent contour read: its corners are on the grid (`grid_of`), and the corner at an index is the
-- list's (`corner_read`, `vector_read`). Assumes nothing.
use mathlib.Core.Path.{◌≡◌, refl, sym, ◌∙◌, ap₂}
use mathlib.Core.Bool.{true}
use mathlib.Core.List.{List, [], ◌∷◌, map}
use Prim.Native.Nat.{ℕ, zero, suc}
use lib.ListN.{get_or, get_or-map}
use lib.IntN.{ℤ}
use Rattle.integers.specs.Lists.{All}
use Rattle.plane.specs.Plane.{Pt, O, ◌-ᵖ◌, in_range, on_grid}
use Rattle.points.specs.Points.{corner_of, corner_in, Grid}

on_grid_at : (cs : List (List ℤ)) → All (λ p. on_grid p ≡ true) (map corner_of cs) → (i : ℕ) → on_grid (corner_in cs i) ≡ true
unfolding on_grid in_range
on_grid_at [] h i = refl
on_grid_at (r ∷ cs) h zero = h.0
on_grid_at (r ∷ cs) h (suc i) = on_grid_at cs h.1 i

pub grid_of : (cs : List (List ℤ)) → All (λ p. on_grid p ≡ true) (map corner_of cs) → Grid cs
grid_of cs h = record { at = on_grid_at cs h }

pub corner_read : (cs : List (List ℤ)) (i : ℕ) {p : Pt} → p ≡ corner_in cs i → p ≡ get_or (map corner_of cs) i O
corner_read cs i e = e ∙ sym (get_or-map corner_of cs i [])

-- the corner at i seen from that at j
pub vector_read : (cs : List (List ℤ)) (i j : ℕ) {v p q : Pt} → v ≡ p -ᵖ q → p ≡ corner_in cs i → q ≡ corner_in cs j → v ≡ get_or (map corner_of cs) i O -ᵖ get_or (map corner_of cs) j O
vector_read cs i j e a b = e ∙ ap₂ ◌-ᵖ◌ (corner_read cs i a) (corner_read cs j b)
