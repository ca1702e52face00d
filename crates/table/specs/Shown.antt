-- The part shown (document 01): "The desk asks for part k of the left or the right operand and gets
-- those corners themselves, not a copy." Assumes nothing.
use Rattle.std.specs.Prelude.{Bool, cond, List, [], ◌∷◌, ℕ, suc, ◌*◌, eqb, leb, get_or, ℤ}
use Rattle.std.proofs.Math.Seq.{slice}
use Rattle.integers.specs.Faults.{first_fault, fault_part, fault_rules}
use Rattle.table.specs.Table.{table_broken, part_count}

-- "Part shown: 7, 12", left before right; 12: "part number past the table"
unfoldable pub shown_fault : List ℕ → List ℤ → List ℕ → List ℤ → Bool → ℕ → ℕ
shown_fault ls lc rs rc right k = first_fault ((fault_rules, table_broken ls lc) ∷ (fault_rules, table_broken rs rc) ∷ (fault_part, leb (part_count (cond right rs ls)) k) ∷ [])

-- the numbers of part k's corners
unfoldable pub part_numbers : List ℕ → List ℤ → ℕ → List ℤ
part_numbers starts corners k = slice (2 * get_or starts k 0) (2 * get_or starts (suc k) 0) corners

-- "A refusal .. shows an empty part."
unfoldable pub shown_part : List ℕ → List ℤ → List ℕ → List ℤ → Bool → ℕ → List ℤ
shown_part ls lc rs rc right k = cond (eqb (shown_fault ls lc rs rc right k) 0) (part_numbers (cond right rs ls) (cond right rc lc) k) []
