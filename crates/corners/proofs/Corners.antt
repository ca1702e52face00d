-- Corners as numbers, "x, y in turn", and as points: laws of `points_of` and `numbers_of` of
-- `specs/Corners.antt`.
-- In order: lengths (`whole_corners`, `is_ragged`, `not_ragged`); round trips; parts
-- (`points_drop`, `points_take`, `points_slice`, `take-drop`); point k (`points_at`, `numbers_at`)
-- and put (`points_put`, `length_put`); numbers of parts (`numbers_slice`) and of joined lists.
-- Assumes nothing.
use mathlib.Core.Path.{◌≡◌, refl, ◌∙◌, ap}
use mathlib.Core.Bool.{true, false}
use mathlib.Core.List.{List, [], ◌∷◌, ◌++◌}
use Prim.Native.Nat.{ℕ, zero, suc, ◌+◌, ◌*◌, ◌-◌, ◌/◌, ◌%◌, ◌<◌, ◌≤◌}
use native.Mathlib.Omega.{arith}
use borrow.Author.Tests.{not-true, not-false}
use lib.Dec.{eqb}
use lib.ListN.{length, take, drop, get_or, set, length-set}
use lib.Seq.{slice, take-nil}
use lib.IntN.{ℤ}
use Rattle.plane.specs.Plane.{Pt}
use Rattle.corners.specs.Corners.{points_of, numbers_of, ragged, with_corner}

-- ---- lengths

pub length_points : (l : List ℤ) → length (points_of l) ≡ length l / 2
unfolding points_of
length_points [] = refl
length_points (x ∷ []) = refl
length_points (x ∷ y ∷ l) = omega (arith, length_points l)

pub length_numbers : (ps : List Pt) → length (numbers_of ps) ≡ 2 * length ps
unfolding numbers_of
length_numbers [] = refl
length_numbers (p ∷ ps) = omega (arith, length_numbers ps)

-- n corners are there where 2 n numbers are
pub whole_corners : (n : ℕ) (l : List ℤ) → 2 * n ≤ length l → n ≤ length (points_of l)
whole_corners n l h = omega (arith, length_points l)

-- a last x without its y, or none
pub is_ragged : (l : List ℤ) → ragged l ≡ true → eqb (length l % 2) 0 ≡ false
is_ragged l h = not-true _ h

pub not_ragged : (l : List ℤ) → ragged l ≡ false → eqb (length l % 2) 0 ≡ true
not_ragged l h = not-false _ h

-- ---- round trips

pub points_numbers : (ps : List Pt) → points_of (numbers_of ps) ≡ ps
unfolding points_of numbers_of
points_numbers [] = refl
points_numbers (p ∷ ps) = ap (λ r. p ∷ r) (points_numbers ps)

pub numbers_points : (l : List ℤ) → length l % 2 ≡ 0 → numbers_of (points_of l) ≡ l
unfolding points_of numbers_of
numbers_points [] h = refl
numbers_points (x ∷ []) h = absurd (omega arith)
numbers_points (x ∷ y ∷ l) h = ap (λ r. x ∷ y ∷ r) (numbers_points l (omega arith))

-- ---- parts

-- 2 (k + 1) = 2 k + 2
double_suc : (k : ℕ) → 2 * suc k ≡ suc (suc (2 * k))
double_suc k = omega arith

double_suc_odd : (k : ℕ) → 2 * suc k + 1 ≡ suc (suc (2 * k + 1))
double_suc_odd k = omega arith

pub points_drop : (k : ℕ) (l : List ℤ) → points_of (drop (2 * k) l) ≡ drop k (points_of l)
unfolding points_of
points_drop zero l = refl
points_drop (suc k) [] = rw double_suc
points_drop (suc k) (x ∷ []) = rw double_suc
points_drop (suc k) (x ∷ y ∷ l) = rw double_suc (points_drop k l)

pub points_take : (k : ℕ) (l : List ℤ) → points_of (take (2 * k) l) ≡ take k (points_of l)
unfolding points_of
points_take zero l = refl
points_take (suc k) [] = rw double_suc
points_take (suc k) (x ∷ []) = rw double_suc
points_take (suc k) (x ∷ y ∷ l) = rw double_suc (ap (λ r. record { x = x; y = y } ∷ r) (points_take k l))

pub points_slice : (a b : ℕ) (l : List ℤ) → points_of (slice (2 * a) (2 * b) l) ≡ slice a b (points_of l)
points_slice a b l = points_drop a (take (2 * b) l) ∙ ap (drop a) (points_take b l)

-- a part of a slice, as the machine takes it
pub take-drop : {A : Type 0} (a e : ℕ) (l : List A) → a ≤ e → take (e - a) (drop a l) ≡ slice a e l
take-drop zero e l h = let z : e - 0 ≡ e = omega arith in ap (λ n. take n l) z
take-drop (suc a) zero l h = absurd (omega arith)
take-drop (suc a) (suc e) [] h = take-nil (suc e - suc a)
take-drop (suc a) (suc e) (x ∷ l) h =
    let z : suc e - suc a ≡ e - a = omega arith in
    ap (λ n. take n (drop a l)) z ∙ take-drop a e l (omega arith)

-- ---- point k

-- from numbers 2 k and 2 k + 1
pub points_at : (l : List ℤ) (k : ℕ) (d : Pt) (z : ℤ) → 2 * k + 1 < length l → get_or (points_of l) k d ≡ record { x = get_or l (2 * k) z; y = get_or l (2 * k + 1) z }
unfolding points_of
points_at [] k d z h = absurd (omega arith)
points_at (x ∷ []) k d z h = absurd (omega arith)
points_at (x ∷ y ∷ l) zero d z h = refl
points_at (x ∷ y ∷ l) (suc k) d z h = rw (double_suc_odd, double_suc) (points_at l k d z (omega arith))

-- and back: numbers 2 k and 2 k + 1 of point k
pub numbers_at : (ps : List Pt) (k : ℕ) (d : Pt) (z : ℤ) → k < length ps → (get_or (numbers_of ps) (2 * k) z ≡ (get_or ps k d).x) × (get_or (numbers_of ps) (2 * k + 1) z ≡ (get_or ps k d).y)
unfolding numbers_of
numbers_at [] k d z h = absurd (omega arith)
numbers_at (p ∷ ps) zero d z h = (refl, refl)
numbers_at (p ∷ ps) (suc k) d z h = rw (double_suc_odd, double_suc) (numbers_at ps k d z (omega arith))

-- point k put
pub points_put : (l : List ℤ) (k : ℕ) (p : Pt) → k < length (points_of l) → points_of (with_corner l k p) ≡ set (points_of l) k p
unfolding points_of
points_put [] k p h = absurd (omega arith)
points_put (x ∷ []) k p h = absurd (omega arith)
points_put (x ∷ y ∷ l) zero p h = refl
points_put (x ∷ y ∷ l) (suc k) p h = rw (double_suc_odd, double_suc) (ap (λ r. record { x = x; y = y } ∷ r) (points_put l k p (omega arith)))

pub length_put : (l : List ℤ) (k : ℕ) (p : Pt) → length (with_corner l k p) ≡ length l
length_put l k p = rw (length-set, length-set)

-- ---- numbers of parts and of joined lists

pub numbers_drop : (k : ℕ) (ps : List Pt) → numbers_of (drop k ps) ≡ drop (2 * k) (numbers_of ps)
unfolding numbers_of
numbers_drop zero ps = refl
numbers_drop (suc k) [] = rw double_suc
numbers_drop (suc k) (p ∷ ps) = rw double_suc (numbers_drop k ps)

pub numbers_take : (k : ℕ) (ps : List Pt) → numbers_of (take k ps) ≡ take (2 * k) (numbers_of ps)
unfolding numbers_of
numbers_take zero ps = refl
numbers_take (suc k) [] = rw double_suc
numbers_take (suc k) (p ∷ ps) = rw double_suc (ap (λ r. p.x ∷ p.y ∷ r) (numbers_take k ps))

pub numbers_slice : (a b : ℕ) (ps : List Pt) → numbers_of (slice a b ps) ≡ slice (2 * a) (2 * b) (numbers_of ps)
numbers_slice a b ps = numbers_drop a (take b ps) ∙ ap (drop (2 * a)) (numbers_take b ps)

pub numbers_append : (ps qs : List Pt) → numbers_of (ps ++ qs) ≡ numbers_of ps ++ numbers_of qs
unfolding numbers_of
numbers_append [] qs = refl
numbers_append (p ∷ ps) qs = ap (λ r. p.x ∷ p.y ∷ r) (numbers_append ps qs)
