-- The winding as the code forms it: place by place round the contour, its running total watched
-- (document 01, fault 8: "a winding's running total, as the walk forms it, leaves signed 64 bits").
-- Assumes nothing.
use Rattle.std.specs.Prelude.{cond, List, [], ◌∷◌, ℕ, ◌-◌, ltb, ℤ, ◌+ℤ◌, Option, Some, None}
use Rattle.pair.specs.Walk.{in_word}

-- place i of a contour of n corners, past its end from its first corner on
unfoldable pub round_to : ℕ → ℕ → ℕ
round_to n i = cond (ltb i n) i (i - n)

-- a total; none where it leaves
unfoldable pub added_of : ℤ → Option ℤ
added_of z = cond (in_word z) (Some z) None

-- the total of t and the terms; none where one of the totals so far leaves
unfoldable pub winding_of : ℤ → List ℤ → Option ℤ
winding_of t [] = Some t
winding_of t (k ∷ l) = cond (in_word (t +ℤ k)) (winding_of (t +ℤ k) l) None
