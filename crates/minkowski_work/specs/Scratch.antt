-- A call on two lent tables (`Call`, `call_of`); what it answers and leaves (`Answers`); work
-- buffers for the points of both operands (`AcceptedWithRoom`), and what they hold once both are
-- unrolled and the result is judged (`BothWalked`, `WalksTold`). Assumes nothing.
use Rattle.std.specs.Prelude.{◌≡◌, Bool, false, List, [], ◌∷◌, ◌++◌, ℕ, ◌+◌, ◌*◌, ◌/◌, ◌≤◌, ◌<◌, ◌^◌, length, ℤ}
use Rattle.integers.specs.Faults.{Kind, first_fault}
use Rattle.table.specs.Table.{part_count}
use Rattle.minkowski.specs.declared.Operation.{Operation}
use Rattle.minkowski.specs.declared.PairCounts.{PairCounts}
use Rattle.minkowski.specs.Pairs.{Operand, operand_parts, pairs_fault, pair_contours, result_bounds, some_winding_leaves}
use Rattle.minkowski_faults.specs.Kinds.{operand, operand_kinds, result_kinds}
use Rattle.pair_unroll_all.specs.Parts.{unrolled_parts}
use Rattle.pair_walks.specs.Walks.{Walks, lefts_in, rights_in}
use Rattle.minkowski_answer.specs.Answer.{PairsAnswered}

-- ---- a call

-- a sum, or a difference where `reflected`, of two operands
pub record Call : Type 0 where
  pub reflected : Bool
  pub left : Operand
  pub right : Operand

-- on the tables of ls and lc, and of rs and rc
abbrev pub call_of : Operation → List ℕ → List ℤ → List ℕ → List ℤ → Call
call_of o ls lc rs rc = record { reflected = o.reflected; left = operand ls lc o.left; right = operand rs rc o.right }

-- none of 7, 2 and 9 is told of its operands
abbrev pub Accepted : Call → Type 0
Accepted x = first_fault (operand_kinds x.left x.right) ≡ 0

-- the answer r, and what the lent starts and corners, which held s and c, hold then
abbrev pub Answers : Call → List ℕ → List ℤ → PairCounts → List ℕ → List ℤ → Type 0
Answers x s c r s' c' =
    PairsAnswered (pairs_fault x.reflected x.left x.right (length s) (length c)) (pair_contours x.reflected x.left x.right) (result_bounds x.reflected x.left.bounds x.right.bounds) s c r s' c'

-- ---- work buffers

-- how many points an operand has unrolled at most: one a corner, and one more a part
abbrev pub points_over : Operand → ℕ
points_over o = length o.corners / 2 + part_count o.starts

-- room for the points of both operands, and for their firsts and one more; every place has a number
-- of 32 bits
pub record Scratch (x : Call) (points : List (List ℤ)) (firsts : List ℕ) : Type 0 where
  pub for_points : points_over x.left + points_over x.right ≤ length points
  pub for_firsts : length x.left.starts + length x.right.starts ≤ length firsts + 1
  pub small : length points < 2 ^ 32

pub record AcceptedWithRoom (x : Call) (points : List (List ℤ)) (firsts : List ℕ) : Type 0 where
  pub accepted : Accepted x
  pub room : Scratch x points firsts

-- ---- what they hold then

-- 8, 10, 20: what is left of the kinds of pairs after 7, 2 and 9
abbrev pub walk_kinds : Bool → Operand → Operand → List Kind
walk_kinds reflected l r =
    ((8, some_winding_leaves false (operand_parts l)) ∷ (8, some_winding_leaves reflected (operand_parts r)) ∷ []) ++ result_kinds reflected l r

-- the walks of both operands' parts, the left one's first
pub record BothWalked (x : Call) (points : List (List ℤ)) (firsts : List ℕ) : Type 0 where
  pub walks : Walks firsts points (part_count x.left.starts + part_count x.right.starts)
  pub lefts : lefts_in firsts points (part_count x.left.starts) (part_count x.right.starts) ≡ unrolled_parts false (operand_parts x.left)
  pub rights : rights_in firsts points (part_count x.left.starts) (part_count x.right.starts) ≡ unrolled_parts x.reflected (operand_parts x.right)

-- the first fault of those; where there is none, the walks of both operands are there
pub record WalksTold (x : Call) (points : List (List ℤ)) (firsts : List ℕ) (f : ℕ) : Type 0 where
  pub told : f ≡ first_fault (walk_kinds x.reflected x.left x.right)
  pub walked : f ≡ 0 → BothWalked x points firsts
