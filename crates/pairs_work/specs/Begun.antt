-- What a pair job answers before its lines: its fault, or how many parts its operands have and the
-- result's bounds, with the walks of both operands, and a number a point, in work buffers for any
-- two (`Begins`). Assumes nothing.
use Rattle.std.specs.Prelude.{◌≡◌, cond, List, ℕ, ◌+◌, ◌*◌, eqb, length, ℤ}
use Rattle.integers.specs.Faults.{first_fault}
use Rattle.table.specs.Table.{part_count, max_parts, max_corners}
use Rattle.minkowski.specs.Pairs.{no_bounds, result_bounds, pair_kinds}
use Rattle.pair_numbers.specs.Numbers.{Keyed}
use Rattle.minkowski_work.specs.Scratch.{Call, BothWalked}
use Rattle.pairs_job.specs.Job.{reflected_of, left_of, right_of, shape_fault}
use Rattle.pairs_work.specs.declared.Begun.{Begun}

-- of either operand a point for each of 8,192 corners and one more for each of 2,048 parts, and a
-- first for each of 2,049 starts
pub record Large (points : List (List ℤ)) (firsts : List ℕ) : Type 0 where
  pub for_points : length points ≡ 2 * (max_corners + max_parts)
  pub for_firsts : length firsts ≡ 2 * (max_parts + 1)

-- and a number a point
pub record Places (points : List (List ℤ)) (firsts numbers : List ℕ) : Type 0 where
  pub large : Large points firsts
  pub for_numbers : length numbers ≡ length points

-- a job without a fault of its shape, and places for any tables within the limits
pub record Shapely (bytes : List ℕ) (ls : List ℕ) (lc : List ℤ) (rs : List ℕ) (rc : List ℤ) : Type 0 where
  pub shape : shape_fault bytes ≡ 0
  pub left_starts : length ls ≡ max_parts + 1
  pub left_corners : length lc ≡ 2 * max_corners
  pub right_starts : length rs ≡ max_parts + 1
  pub right_corners : length rc ≡ 2 * max_corners

-- the call that a job is
abbrev pub job_call : List ℕ → Call
job_call bytes = record { reflected = reflected_of bytes; left = left_of bytes; right = right_of bytes }

-- 7, 2, 9, 8, 10, 20
abbrev pub call_fault : Call → ℕ
call_fault x = first_fault (pair_kinds x.reflected x.left x.right)

-- the first fault of two operands; where there is none, the walks of both are there
pub record PairsTold (x : Call) (points : List (List ℤ)) (firsts : List ℕ) (f : ℕ) : Type 0 where
  pub told : f ≡ call_fault x
  pub walked : f ≡ 0 → BothWalked x points firsts

abbrev pub refused_begun : ℕ → Begun
refused_begun f = record { fault = f; left = 0; right = 0; bounds = no_bounds }

abbrev pub accepted_begun : Call → Begun
accepted_begun x = record {
  fault = 0;
  left = part_count x.left.starts;
  right = part_count x.right.starts;
  bounds = result_bounds x.reflected x.left.bounds x.right.bounds;
}

-- how many parts each operand has, and the result's bounds; f is the fault number
unfoldable pub job_begun : Call → ℕ → Begun
job_begun x f = cond (eqb f 0) (accepted_begun x) (refused_begun f)

-- that answer, and where there is no fault the walks of both operands, which can be merged by their
-- numbers
pub record Begins (x : Call) (f : ℕ) (points : List (List ℤ)) (firsts numbers : List ℕ) (b : Begun) : Type 0 where
  pub answer : b ≡ job_begun x f
  pub walked : f ≡ 0 → BothWalked x points firsts
  pub keyed : f ≡ 0 → Keyed firsts points numbers (part_count x.left.starts) (part_count x.right.starts)

-- of its own fault
abbrev pub CallBegins : Call → List (List ℤ) → List ℕ → List ℕ → Begun → Type 0
CallBegins x points firsts numbers b = Begins x (call_fault x) points firsts numbers b
