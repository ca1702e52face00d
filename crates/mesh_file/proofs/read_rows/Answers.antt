-- `mesh_file::read_rows` meets its contract. The loop's invariant: the first k rows are the first k
-- records. Assumes nothing.
use mathlib.Core.Path.{refl}
use native.Mathlib.Omega.{arith}
use lib.ListN.{length-set}
use Rattle.table.specs.Stored.{words_of}
use Rattle.mesh_file.proofs.Records.{no_records, row_more}
use Rattle.mesh_file.proofs.read_rows.Goals as goal

pub loop-k-init : goal.loop-k-init
loop-k-init c = let s = c.args in (refl, no_records s.rows.now (words_of s.bytes.now))

pub loop-k-preserved : goal.loop-k-preserved
loop-k-preserved c = let s = c.args in (
  simp length-set c.loop-k.invariant.0,
  row_more (words_of s.bytes.now) c.loop-k.rows (omega arith) c.loop-k.invariant.1 _ c.row_at.ensures,
)
