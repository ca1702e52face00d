-- What writing a table into lent bytes answers, and what the bytes hold as it returns; faults and
-- layout are table's `specs/Stored.antt`. Assumes nothing.
use Rattle.std.specs.Prelude.{cond, List, ℕ, eqb, length, ℤ}
use Rattle.table.specs.Table.{written}
use Rattle.table.specs.Stored.{stored_of, write_fault}
use Rattle.table_write.specs.declared.Stored.{Stored}

abbrev pub fault_written : List ℕ → List ℤ → List ℕ → ℕ
fault_written starts corners bytes = write_fault starts corners (length bytes)

-- "A refusal returns the number and zero counts"
abbrev pub answer_written : List ℕ → List ℤ → List ℕ → Stored
answer_written starts corners bytes =
    cond (eqb (fault_written starts corners bytes) 0) (record { fault = 0; length = length (stored_of starts corners) })
    (record { fault = fault_written starts corners bytes; length = 0 })

abbrev pub bytes_written : List ℕ → List ℤ → List ℕ → List ℕ
bytes_written starts corners bytes = written (fault_written starts corners bytes) (stored_of starts corners) bytes
