-- `triangles::rows_in` meets its contract. The loop's invariant: the rows' first k are those of
-- the structs' first k. Assumes nothing.
use mathlib.Core.Path.{◌≡◌}
use lib.ListN.{length, take}
use Rattle.mesh.specs.Rows.{rows_mesh}
use Rattle.triangles.specs.Triangles.{triangles_mesh}
use Rattle.triangles.proofs.rows_in.Given as goal

abbrev pub invariant-loop-k : goal.invariant-loop-k
invariant-loop-k g l = record { long : length l.rows ≡ g.row.ROWS; so : rows_mesh (take l.k l.rows) ≡ triangles_mesh (take l.k l.mesh) }
