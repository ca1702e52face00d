-- `mesh_file::read_rows` meets its contract. The loop's invariant: the first k rows are the first k
-- records. Assumes nothing.
use mathlib.Core.Path.{◌≡◌}
use lib.ListN.{length, take}
use Rattle.mesh.specs.Rows.{rows_mesh}
use Rattle.table.specs.Stored.{words_of}
use Rattle.listing.specs.File.{records_of}
use Rattle.mesh_file.proofs.read_rows.Given as goal

abbrev pub invariant-loop-k : goal.invariant-loop-k
invariant-loop-k l = (length l.rows ≡ length l.initial.rows) × (rows_mesh (take l.k l.rows) ≡ records_of l.k (words_of l.bytes))
