-- Two walks in one buffer of points merged by the numbers of their points (direction_keys has what
-- those are): the places at which they stand, turn by turn (`chain`), the corners at those
-- (`contour_from`), and what running along a chain asks (`Runs`, `Buffers`). Assumes nothing.
use Rattle.std.specs.Prelude.{Bool, false, cond, List, [], ◌∷◌, map, ℕ, zero, suc, ◌+◌, ◌-◌, ◌≤◌, ◌<◌, ◌^◌, ltb, length, get_or, ℤ}
use Rattle.integers.specs.Lists.{All}
use Rattle.plane.specs.Plane.{Pt, ◌+ᵖ◌}
use Rattle.points.specs.Points.{corner_in, Grid}
use Rattle.pair_merge.specs.Putting.{RoomAfter, CornersPut}
use Rattle.direction_keys.specs.Marks.{step_over}
use Rattle.pair_chains.specs.declared.Lane.{Lane}
use Rattle.pair_chains.specs.declared.Pair.{Pair}
use Rattle.pair_chains.specs.declared.Pairs.{Pairs}
use Rattle.pair_chains.specs.declared.Four.{Four}

-- ---- places

-- where the left and the right walk stand after a turn
abbrev pub left_after : List ℕ → ℕ → ℕ → ℕ
left_after numbers i j = i + step_over (get_or numbers i 0) (get_or numbers j 0)

abbrev pub right_after : List ℕ → ℕ → ℕ → ℕ
right_after numbers i j = j + step_over (get_or numbers j 0) (get_or numbers i 0)

-- the places from i and j on until their sum is `end`, at most n of them
unfoldable pub chain_for : List ℕ → ℕ → ℕ → ℕ → ℕ → List (ℕ × ℕ)
chain_for numbers end zero i j = []
chain_for numbers end (suc n) i j = cond (ltb (i + j) end) ((i, j) ∷ chain_for numbers end n (left_after numbers i j) (right_after numbers i j)) []

-- all of them: each turn adds one at least
abbrev pub chain : List ℕ → ℕ → ℕ → ℕ → List (ℕ × ℕ)
chain numbers end i j = chain_for numbers end (end - (i + j)) i j

-- ---- corners

-- the sum of the two points at each place
abbrev pub along : List (List ℤ) → List (ℕ × ℕ) → List Pt
along points places = map (λ p. corner_in points p.0 +ᵖ corner_in points p.1) places

abbrev pub contour_from : List (List ℤ) → List ℕ → ℕ → ℕ → ℕ → List Pt
contour_from points numbers end i j = along points (chain numbers end i j)

-- of a pair
abbrev pub chain_of : List ℕ → Pair → List (ℕ × ℕ)
chain_of numbers x = chain numbers x.end x.i x.j

abbrev pub chain_contour : List (List ℤ) → List ℕ → Pair → List Pt
chain_contour points numbers x = along points (chain_of numbers x)

-- how many corners each of four pairs has
abbrev pub four_lengths : List ℕ → Pairs → Four
four_lengths numbers x = record {
  a = length (chain_of numbers x.a);
  b = length (chain_of numbers x.b);
  c = length (chain_of numbers x.c);
  d = length (chain_of numbers x.d);
}

-- ---- lanes

-- a pair's at its start
abbrev pub lane_of : Pair → ℕ → Lane
lane_of x k = record { i = x.i; j = x.j; k = k }

-- whether two have a corner to come
abbrev pub is_going : Lane → Pair → Bool
is_going s x = ltb (s.i + s.j) x.end

abbrev pub both_going : Lane → Pair → Lane → Pair → Bool
both_going a x b y = cond (is_going a x) (is_going b y) false

-- ---- what it asks

-- a point of the grid and a number a place
pub record Buffers (points : List (List ℤ)) (numbers : List ℕ) : Type 0 where
  pub grid : Grid points
  pub size : length points ≤ length numbers
  pub few : length points < 2 ^ 32

-- from i and j on a chain stays among n places
pub record Runs (n : ℕ) (numbers : List ℕ) (end i j : ℕ) : Type 0 where
  pub left : i ≤ n
  pub right : j ≤ n
  pub inside : All (λ p. (p.0 < n) × (p.1 < n)) (chain numbers end i j)

abbrev pub RunsOf : List (List ℤ) → List ℕ → Pair → Type 0
RunsOf points numbers x = Runs (length points) numbers x.end x.i x.j

-- a lane's places are such that their sum does not wrap
pub record Low (s : Lane) : Type 0 where
  pub left : s.i < 2 ^ 33
  pub right : s.j < 2 ^ 33

-- and its corners have room after the first k
pub record Fits (points : List (List ℤ)) (numbers : List ℕ) (x : Pair) (out : List ℤ) (k : ℕ) : Type 0 where
  pub runs : RunsOf points numbers x
  pub room : RoomAfter (chain_contour points numbers x) out k

-- of four pairs
pub record FourFit (points : List (List ℤ)) (numbers : List ℕ) (x : Pairs) (out : List ℤ) (k : ℕ) (wb wc wd : List ℤ) : Type 0 where
  pub first : Fits points numbers x.a out k
  pub second : Fits points numbers x.b wb 0
  pub third : Fits points numbers x.c wc 0
  pub fourth : Fits points numbers x.d wd 0

-- what counting asks
pub record Countable (numbers : List ℕ) (x : Pair) : Type 0 where
  pub few : length numbers < 2 ^ 32
  pub runs : Runs (length numbers) numbers x.end x.i x.j
  pub short : x.end < 2 ^ 63
