-- The tests of a drawing's numbers (document 02, P1), a grid coordinate, and what is sure of one.
-- Assumes nothing.
use Rattle.std.specs.Prelude.{ℕ, zero, suc, ◌*◌, ◌+◌, ◌/◌, ◌^◌, ◌≤◌, ◌≡◌, Bool, true, false, ◌&&◌, leb, ltb, ℤ, pos, negsuc, nat_abs, ◌-ℤ◌, ◌*ℤ◌, Float}
use Rattle.std.specs.Float.{nan, inf, fin, binary64}
use Rattle.std.specs.Float.Ieee.{sub, mul}
use Rattle.std.specs.Float.Ieee.Scale.{finite}
use Rattle.floats.specs.Floats.{number, multiple, nearest}

-- "Each coordinate of a current point may lie within 1,048,576 of zero", ends included
unfoldable pub within_range : Float → Bool
within_range x = number x && leb (nat_abs (multiple x)) (1048576 * 2 ^ 1074)

-- "a power of two from 1 to 1,024": 2 ^ k is `fin false 1 (pos k)` and nothing else
unfoldable pub step_count : Float → Bool
step_count (fin false (suc zero) (pos k)) = leb k 10
step_count (fin false (suc zero) (negsuc k)) = false
step_count (fin false zero e) = false
step_count (fin false (suc (suc m)) e) = false
step_count (fin true m e) = false
step_count (inf s) = false
step_count nan = false

-- fault 2 "for a grid coordinate": v rounds to a number strictly between -2 ^ 30 and 2 ^ 30, which
-- an infinity does not
unfoldable pub on_grid : Float → Bool
on_grid v = finite v && ltb (nat_abs (nearest (multiple v))) (2 ^ 30)

-- "Origin is subtracted, the step count multiplied"
abbrev pub scaled : Float → Float → Float → Float
scaled x origin steps = mul binary64 (sub binary64 x origin) steps

-- "and the result rounded to the nearest whole number, halves away from zero"
abbrev pub coordinate : Float → Float → Float → ℤ
coordinate x origin steps = nearest (multiple (scaled x origin steps))

-- a step count as a whole number
abbrev pub count : Float → ℕ
count steps = nat_abs (multiple steps) / 2 ^ 1074

-- what is sure of the grid coordinate g of x; `multiple` is times 2 ^ 1074
pub record Placed (x origin steps : Float) (g : ℤ) : Type 0 where
  -- "within one half plus 2^-23 of the exact difference times the step count"
  pub near : nat_abs (g *ℤ pos (2 ^ 1074) -ℤ (multiple x -ℤ multiple origin) *ℤ pos (count steps)) ≤ 2 ^ 1073 + 2 ^ 1051
  -- "rounded to the nearest whole number, halves away from zero": of the exact product
  pub rounded : g ≡ nearest (multiple (sub binary64 x origin) *ℤ pos (count steps))
  -- where the exact difference is a whole number of steps, that number
  pub whole : (n : ℤ) → (multiple x -ℤ multiple origin) *ℤ pos (count steps) ≡ n *ℤ pos (2 ^ 1074) → g ≡ n
