-- What reading bytes into lent starts and corners answers, and what the lent buffers hold as it
-- returns; faults and layout are table's `specs/Stored.antt`. Assumes nothing.
use Rattle.std.specs.Prelude.{List, ℕ, length, ℤ}
use Rattle.table.specs.declared.Counts.{Counts}
use Rattle.table.specs.Table.{counts_of, written}
use Rattle.table.specs.Stored.{stored_starts, stored_corners, stored_parts, read_fault}

abbrev pub fault_read : List ℕ → List ℕ → List ℤ → ℕ
fault_read bytes starts corners = read_fault bytes (length starts) (length corners)

abbrev pub counts_read : List ℕ → List ℕ → List ℤ → Counts
counts_read bytes starts corners = counts_of (fault_read bytes starts corners) (stored_parts bytes)

abbrev pub starts_read : List ℕ → List ℕ → List ℤ → List ℕ
starts_read bytes starts corners = written (fault_read bytes starts corners) (stored_starts bytes) starts

abbrev pub corners_read : List ℕ → List ℕ → List ℤ → List ℤ
corners_read bytes starts corners = written (fault_read bytes starts corners) (stored_corners bytes) corners
