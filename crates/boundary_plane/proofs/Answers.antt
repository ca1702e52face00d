-- What the functions of this crate share. In order: what the test of several points tells; a point
-- made of two numbers; the two answers, a value or the refusal.
-- Assumes nothing.
use mathlib.Core.Path.{◌≡◌, refl, sym, ◌∙◌}
use mathlib.Core.Bool.{Bool, true, false, cond}
use mathlib.Core.List.{List, [], ◌∷◌}
use lib.IntN.{ℤ, pos}
use mir.Syntax.{w32}
use mir.Val.{SFits, to_z, of_z}
use Rattle.integers.proofs.Tests.{differ}
use Rattle.integers.proofs.Bits.{kept}
use Rattle.plane.specs.declared.IntPoint.{IntPoint}
use Rattle.plane.specs.Plane.{Pt, on_grid}
use Rattle.plane.specs.Machine.{OnGrid, point}
use Rattle.plane.proofs.Vectors.{pt_eq}
use Rattle.plane.proofs.Size.{on_grid_both}
use Rattle.boundary_plane.specs.declared.Told.{Told}
use Rattle.boundary_plane.specs.Told.{all_on, told}

-- ---- several points

-- the first point is on the grid, and so are the others
first_on : (p : IntPoint) (l : List Pt) → all_on (point p ∷ l) ≡ true → OnGrid p × (all_on l ≡ true)
unfolding all_on
first_on p l = of (on_grid (point p)) refl
  where
    of : (t : Bool) → on_grid (point p) ≡ t → cond t (all_on l) false ≡ true → OnGrid p × (all_on l ≡ true)
    of true e h = let k = on_grid_both (point p) e in (record { x_small = k.0; y_small = k.1 }, h)
    of false e h = differ h

pub three_on : {a b c : IntPoint} {r : Bool} → r ≡ all_on (point a ∷ point b ∷ point c ∷ []) → r ≡ true → OnGrid a × OnGrid b × OnGrid c
three_on {a} {b} {c} h e =
    let (p, h₁) = first_on a _ (sym h ∙ e) in
    let (q, h₂) = first_on b _ h₁ in
    (p, q, (first_on c _ h₂).0)

pub four_on : {a b c d : IntPoint} {r : Bool} → r ≡ all_on (point a ∷ point b ∷ point c ∷ point d ∷ []) → r ≡ true → OnGrid a × OnGrid b × OnGrid c × OnGrid d
four_on {a} {b} {c} {d} h e =
    let (p, h₁) = first_on a _ (sym h ∙ e) in
    let (q, r, s) = three_on {a = b} {b = c} {c = d} refl h₁ in
    (p, q, r, s)

-- a point made of two numbers that fit holds them
pub made : {x y : ℤ} → SFits w32 x → SFits w32 y → ◌≡◌ {A = Pt} (record { x = to_z w32 (of_z w32 x); y = to_z w32 (of_z w32 y) }) (record { x = x; y = y })
made f g = pt_eq (kept f) (kept g)

-- ---- the answers, by the flag that the code holds

pub answered : {ok r : Bool} {u v : ℤ} → r ≡ ok → r ≡ true → u ≡ v → ◌≡◌ {A = Told} (record { fault = 0; value = u }) (told ok v)
unfolding told
answered h e f = rw (sym h ∙ e, f)

pub refused : {ok r : Bool} (v : ℤ) → r ≡ ok → r ≡ false → ◌≡◌ {A = Told} (record { fault = 2; value = pos 0 }) (told ok v)
unfolding told
refused v h e = rw (sym h ∙ e)
