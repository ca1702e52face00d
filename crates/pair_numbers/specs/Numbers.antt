-- The numbers of points in a buffer of walks (direction_keys has what those are), and walks that
-- can be merged by them (`Keyed`). Assumes nothing.
use Rattle.std.specs.Prelude.{◌≡◌, Bool, cond, List, [], ℕ, ◌+◌, ◌≤◌, ◌<◌, ◌^◌, ltb, length, get_or, ℤ}
use Rattle.plane.specs.Plane.{Pt}
use Rattle.direction_keys.specs.Marks.{left_number, right_number, Close}
use Rattle.pair_merge.specs.Putting.{points_in}
use Rattle.pair_walks.specs.Walks.{walks_in, walk_in, Walks}

-- of a point of a left walk, or of a right one
abbrev pub number_of : Bool → List Pt → ℕ → ℕ
number_of first a i = cond first (left_number a i) (right_number a i)

-- those of the points of one walk
pub record NumbersOf (first : Bool) (numbers : List ℕ) (points : List (List ℤ)) : Type 0 where
  pub size : length numbers ≡ length points
  pub at : (i : ℕ) → i < length points → get_or numbers i 0 ≡ number_of first (points_in points) i

-- those of the first m of some walks in a buffer, of which the first `left` are the left operand's
pub record NumberedTo (m : ℕ) (ws : List (List Pt)) (firsts numbers : List ℕ) (left : ℕ) : Type 0 where
  pub at : (n i : ℕ) → n < m → i < length (get_or ws n []) → get_or numbers (get_or firsts n 0 + i) 0 ≡ number_of (ltb n left) (get_or ws n []) i

-- two operands' walks in one buffer, and a place a point for their numbers
pub record Numberable (firsts : List ℕ) (points : List (List ℤ)) (left right : ℕ) (numbers : List ℕ) : Type 0 where
  pub walks : Walks firsts points (left + right)
  pub few : length points < 2 ^ 32
  pub room : length points ≤ length numbers
  pub counted : left + right < 2 ^ 32

-- two operands' walks in one buffer, with a number a point, and the numbers compare as directions
-- do
pub record Keyed (firsts : List ℕ) (points : List (List ℤ)) (numbers : List ℕ) (left right : ℕ) : Type 0 where
  pub walks : Walks firsts points (left + right)
  pub few : length points < 2 ^ 32
  pub size : length points ≤ length numbers
  pub numbered : NumberedTo (left + right) (walks_in firsts points (left + right)) firsts numbers left
  pub close : (p q : ℕ) → p < left → q < right → Close (walk_in firsts points (left + right) p) (walk_in firsts points (left + right) (left + q))
