-- `mesh_bounds::mesh_bounds` meets its contract. The loop's invariant: the bounds of the whole are
-- those so far with the rows that are left brought in. Assumes nothing.
use mathlib.Core.Path.{sym, ◌∙◌}
use native.Mathlib.Omega.{arith}
use Rattle.mesh_bounds.proofs.Widening.{rows_none, rows_begin, rows_more, rows_done}
use Rattle.mesh_bounds.proofs.mesh_bounds.Goals as goal

pub returns-in_default : goal.returns-in_default
returns-in_default c = rows_none c.args.rows.now (omega (arith, c.in_default.len_below))

pub loop-row-init : goal.loop-row-init
loop-row-init c = rows_begin c.args.rows.now _ (λ e. omega (arith, e, c.in-len1-up.len_at_least)) c.vertex_of.ensures c.bounds_of-b.ensures

pub loop-row-preserved : goal.loop-row-preserved
loop-row-preserved c = let l = c.loop-row in
    sym (rows_more c.args.rows.now _ l.b c.loop-row-test.true c.with_row-b.ensures) ∙ l.invariant

pub returns : goal.returns
returns c = let l = c.loop-row in sym (rows_done c.args.rows.now l.b l.row-index (omega (arith, c.loop-row-test.false))) ∙ l.invariant
