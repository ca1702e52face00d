-- What reading the stored table of a file's split parts gives: the parts. Proved in proofs/.
-- Assumes nothing.
use Rattle.std.specs.Prelude.{◌≡◌, ℕ, ◌+◌, ◌*◌, ◌≤◌, length, ℤ}
use mathlib.Core.List.{List, flatten}
use Rattle.integers.specs.Lists.{overlay}
use Rattle.table.specs.Table.{starts_of, corners_of}
use Rattle.table_read.specs.Read.{counts_read, starts_read, corners_read}
use Rattle.listing.specs.File.{file_fault, file_parts}
use Rattle.parts_file.specs.Parts.{parts_bytes}

-- read into starts and corners that held os and oc
pub record PartsRead (bytes os : List ℕ) (oc : List ℤ) : Type 0 where
  pub counts : counts_read (parts_bytes bytes) os oc ≡ record { fault = 0; parts = length (file_parts bytes); corners = length (flatten (file_parts bytes)) }
  pub starts : starts_read (parts_bytes bytes) os oc ≡ overlay (starts_of (file_parts bytes)) os
  pub corners : corners_read (parts_bytes bytes) os oc ≡ overlay (corners_of (file_parts bytes)) oc

-- of any accepted file, where there are places enough
abbrev pub PartsReadBack : Type 0
PartsReadBack =
    (bytes os : List ℕ) (oc : List ℤ) → file_fault bytes ≡ 0 → length (file_parts bytes) + 1 ≤ length os → 2 * length (flatten (file_parts bytes)) ≤ length oc → PartsRead bytes os oc
