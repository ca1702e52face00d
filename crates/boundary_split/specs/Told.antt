-- What splitting answers and leaves where the split is a number: "split: 0 ear, 1 fan, 2 centroid",
-- and a wrong split gives 13, before the mesh's own order (document 01, "The file and its
-- listing"). Assumes nothing.
use Rattle.std.specs.Prelude.{cond, List, ℕ, ltb, length, ℤ}
use Rattle.integers.specs.Faults.{fault_file}
use Rattle.mesh.specs.Mesh.{Mesh}
use Rattle.table.specs.declared.Counts.{Counts}
use Rattle.table.specs.Table.{Answered}
use Rattle.split.specs.Splitting.{split_parts, split_fault}
use Rattle.listing.specs.File.{strategy_of}

-- 13 is told before anything else
unfoldable pub numbered_fault : ℕ → ℕ → Mesh → ℕ → ℕ → ℕ
numbered_fault split m mesh starts corners = cond (ltb 2 split) fault_file (split_fault (strategy_of split) m mesh starts corners)

-- what a call answers and leaves in the lent starts and corners, which held s and c
abbrev pub NumberedAnswered : ℕ → ℕ → Mesh → List ℕ → List ℤ → Counts → List ℕ → List ℤ → Type 0
NumberedAnswered split m mesh s c r s' c' = Answered (numbered_fault split m mesh (length s) (length c)) (split_parts (strategy_of split) m mesh) s c r s' c'
