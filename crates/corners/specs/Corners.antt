-- A list of corners (document 01, "Tables the desks exchange": "x, y in turn") as numbers and as
-- points; one put, a piece of it, its front, where a corner lies; a number out of range. Assumes
-- nothing.
use Rattle.std.specs.Prelude.{Bool, true, false, not, cond, List, [], ◌∷◌, ℕ, ◌+◌, ◌*◌, ◌%◌, eqb, length, take, set, ℤ}
use Rattle.std.proofs.Math.Seq.{slice}
use Rattle.plane.specs.Plane.{Pt, in_range}

-- the points of a list of numbers; a last x without its y is no point
unfoldable pub points_of : List ℤ → List Pt
points_of [] = []
points_of (x ∷ []) = []
points_of (x ∷ y ∷ l) = record { x = x; y = y } ∷ points_of l

unfoldable pub numbers_of : List Pt → List ℤ
numbers_of [] = []
numbers_of (p ∷ l) = p.x ∷ p.y ∷ numbers_of l

-- whether there is a last x without its y
abbrev pub ragged : List ℤ → Bool
ragged l = not (eqb (length l % 2) 0)

-- corner k becomes p
abbrev pub with_corner : List ℤ → ℕ → Pt → List ℤ
with_corner l k p = set (set l (2 * k) p.x) (2 * k + 1) p.y

-- the numbers of the corners from a to before b
abbrev pub corners_between : ℕ → ℕ → List ℤ → List ℤ
corners_between a b l = slice (2 * a) (2 * b) l

-- the numbers of the first n corners
abbrev pub front_corners : ℕ → List ℤ → List ℤ
front_corners n l = take (2 * n) l

-- where corner k lies, of corners that lie at a place: a block of memory and the bytes before it in
-- that block; a corner is two numbers of four bytes
abbrev pub corner_place : ℕ × ℕ → ℕ → ℕ × ℕ
corner_place place k = (place.0, place.1 + 8 * k)

-- fault 2: "a coordinate or bound not strictly between −2^30 and 2^30"
unfoldable pub off_range : List ℤ → Bool
off_range [] = false
off_range (z ∷ l) = cond (in_range z) (off_range l) true
