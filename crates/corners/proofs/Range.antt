-- Numbers in range: laws of `off_range` of `specs/Corners.antt`. In order: each number of a list in
-- range (`in_range_all`, `fit_all`); some of them (`off_take`, `off_drop`, `off_slice`); a corner
-- of theirs is on the grid (`range_on_grid`), and corners on the grid have such numbers
-- (`numbers_range`). Assumes nothing.
use mathlib.Core.Path.{◌≡◌, refl, sym}
use mathlib.Core.Bool.{Bool, true, false, cond}
use mathlib.Core.List.{List, [], ◌∷◌, ◌++◌}
use Prim.Native.Nat.{ℕ, zero, suc, ◌+◌, ◌*◌, ◌<◌}
use native.Mathlib.Omega.{arith}
use lib.ListN.{length, take, drop, get_or}
use lib.Seq.{slice}
use lib.IntN.{ℤ, pos}
use mir.Syntax.{w32}
use mir.Val.{SFits}
use Rattle.integers.specs.Lists.{All}
use Rattle.integers.proofs.Elements.{all_map, all_get_d}
use Rattle.integers.proofs.Tests.{differ, both_true}
use Rattle.plane.specs.Plane.{Pt, O, in_range, on_grid}
use Rattle.plane.proofs.Size.{in_range_coordinate, coordinate_fits}
use Rattle.corners.specs.Corners.{points_of, numbers_of, off_range}
use Rattle.corners.proofs.Corners.{length_points, points_at}

-- a test that holds, where the next does not
pub was_taken : (t b : Bool) → cond t b true ≡ false → (t ≡ true) × (b ≡ false)
was_taken true b e = (refl, e)
was_taken false b e = differ (sym e)

-- ---- each number

pub in_range_all : (l : List ℤ) → off_range l ≡ false → All (λ z. in_range z ≡ true) l
unfolding off_range
in_range_all [] e = tt
in_range_all (z ∷ l) e = let f = was_taken (in_range z) (off_range l) e in (f.0, in_range_all l f.1)

pub fit_all : (l : List ℤ) → off_range l ≡ false → All (SFits w32) l
fit_all l e = all_map l (λ z h. coordinate_fits (in_range_coordinate z h)) (in_range_all l e)

-- ---- some of them

off_take : (n : ℕ) (l : List ℤ) → off_range l ≡ false → off_range (take n l) ≡ false
unfolding off_range
off_take zero l h = refl
off_take (suc n) [] h = refl
off_take (suc n) (z ∷ l) h = let q = was_taken (in_range z) (off_range l) h in rw q.0 (off_take n l q.1)

off_drop : (n : ℕ) (l : List ℤ) → off_range l ≡ false → off_range (drop n l) ≡ false
unfolding off_range
off_drop zero l h = h
off_drop (suc n) [] h = refl
off_drop (suc n) (z ∷ l) h = off_drop n l (was_taken (in_range z) (off_range l) h).1

pub off_slice : (a b : ℕ) (l : List ℤ) → off_range l ≡ false → off_range (slice a b l) ≡ false
off_slice a b l h = off_drop a (take b l) (off_take b l h)

-- ---- corners

-- corner k is made of the numbers at 2k and 2k + 1
pub range_on_grid : (l : List ℤ) {k : ℕ} → off_range l ≡ false → k < length (points_of l) → on_grid (get_or (points_of l) k O) ≡ true
unfolding on_grid
range_on_grid l {k} e h =
    let inside : 2 * k + 1 < length l = omega (arith, length_points l) in
    let x = all_get_d (λ z. in_range z ≡ true) l (pos 0) (in_range_all l e) (2 * k) (omega arith) in
    let y = all_get_d (λ z. in_range z ≡ true) l (pos 0) (in_range_all l e) (2 * k + 1) inside in
    rw (points_at l k O (pos 0) inside, x, y)

pub numbers_range : (l : List Pt) (more : List ℤ) → All (λ p. on_grid p ≡ true) l → off_range more ≡ false → off_range (numbers_of l ++ more) ≡ false
unfolding numbers_of off_range on_grid
numbers_range [] more h k = k
numbers_range (p ∷ l) more h k = let g = both_true (in_range p.x) (in_range p.y) h.0 in rw (g.0, g.1) (numbers_range l more h.1 k)
