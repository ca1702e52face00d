-- What writing and showing tell at the boundary: the answer of the first, laid out for C, and of
-- the part shown where it lies in the lent corners. Assumes nothing.
use Rattle.std.specs.Prelude.{Bool, cond, List, ℕ, ◌*◌, eqb, length, get_or, ℤ}
use Rattle.table.specs.Shown.{shown_fault, shown_part}
use Rattle.table_write.specs.declared.Stored.{Stored}
use Rattle.boundary_table.specs.declared.ToldLength.{ToldLength}
use Rattle.boundary_table.specs.declared.ToldPart.{ToldPart}

abbrev pub told_stored : Stored → ToldLength
told_stored s = record { fault = s.fault; length = s.length }

-- how many numbers stand before part k, two a corner; "A refusal .. shows an empty part", at the
-- front
unfoldable pub shown_offset : List ℕ → List ℤ → List ℕ → List ℤ → Bool → ℕ → ℕ
shown_offset ls lc rs rc right k = cond (eqb (shown_fault ls lc rs rc right k) 0) (2 * get_or (cond right rs ls) k 0) 0

-- the fault of the part asked for, where its numbers begin in the corners of its operand, and how
-- many are shown
abbrev pub told_shown : List ℕ → List ℤ → List ℕ → List ℤ → Bool → ℕ → ToldPart
told_shown ls lc rs rc right k =
    record {
      fault = shown_fault ls lc rs rc right k;
      offset = shown_offset ls lc rs rc right k;
      length = length (shown_part ls lc rs rc right k);
    }
