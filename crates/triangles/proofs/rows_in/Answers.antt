-- `triangles::rows_in` meets its contract. Assumes nothing.
use mathlib.Core.List.{[]}
use native.Mathlib.Omega.{arith}
use borrow.Author.Rules.{rules}
use lib.ListN.{length-replicate, length-set}
use Rattle.triangles.proofs.Reading.{none_read, next_read, all_read}
use Rattle.triangles.proofs.rows_in.Goals as goal

pub loop-k-init : goal.loop-k-init
loop-k-init g c = record { long = length-replicate g.row.ROWS _; so = none_read c.args.mesh.now [] }

pub loop-k-preserved : goal.loop-k-preserved
loop-k-preserved g c = record {
  long = search (rules, length-set);
  so = next_read c.args.mesh.now c.loop-k.rows c.row_of.result (omega arith) (omega arith) c.triangle_at.ensures c.row_of.ensures c.loop-k.invariant.so;
}

pub returns : goal.returns
returns g c = all_read c.args.mesh.now c.loop-k.rows (omega arith) (omega arith) c.loop-k.invariant.so
