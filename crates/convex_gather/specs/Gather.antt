-- Parts gathered in work buffers, handed out to lent ones. Assumes nothing.
use Rattle.std.specs.Prelude.{List, ℕ, length, ℤ}
use Rattle.integers.specs.Faults.{first_fault}
use Rattle.plane.specs.Plane.{Pt}
use Rattle.table.specs.declared.Counts.{Counts}
use Rattle.table.specs.Table.{room_kinds, Answered}
use Rattle.points.specs.declared.Tally.{Tally}
use Rattle.points.specs.Gathered.{Gathered}

-- ---- parts handed out to lent starts and corners, which held s and c

-- whatever parts are gathered: 22 and 21 are told of them, or they are written
pub record HandedOut (starts : List ℕ) (points : List (List ℤ)) (t : Tally) (s : List ℕ) (c : List ℤ) (r : Counts) (s' : List ℕ) (c' : List ℤ) : Type 0 where
  pub answer : (ps : List (List Pt)) → Gathered starts points t ps → Answered (first_fault (room_kinds ps (length s) (length c))) ps s c r s' c'
