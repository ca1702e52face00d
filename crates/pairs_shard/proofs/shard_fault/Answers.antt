-- `pairs_shard::shard_fault` meets its contract: the shape first, then the rules of the left table.
-- Assumes nothing.
use mathlib.Core.Path.{sym, ◌∙◌, ap}
use Rattle.pairs_job.proofs.Shape.{shaped, left_inside}
use Rattle.pairs_shard.proofs.Faults.{shape_refused, left_counted, rules_refused, none_refused}
use Rattle.std.proofs.lemmas.Result.{err_from_is_err_and}
use Rattle.faults.specs.Told.{number, told}
use Rattle.faults.proofs.Numbers.{not_0}
use Rattle.pairs_shard.proofs.shard_fault.Goals as goal

pub returns-in_err-shape_fault : goal.returns-in_err-shape_fault
returns-in_err-shape_fault c = let p = err_from_is_err_and c.from_residual.result c.from_residual.ensures.1 in
    let was = ap told c.in_err-shape_fault.was in
    ap told p.1 ∙ ap number p.2 ∙ sym was ∙ shape_refused _ c.shape_fault.ensures (not_0 c.in_err-shape_fault.field-0.0 was)

pub table_broken-requires : goal.table_broken-requires
table_broken-requires c = let z = sym c.shape_fault.ensures ∙ ap told c.in_ok-shape_fault.was in
    (left_inside _ (shaped _ z).right_length, left_counted _ z)

pub returns-then-table_broken : goal.returns-then-table_broken
returns-then-table_broken c = rules_refused _ (sym c.shape_fault.ensures ∙ ap told c.in_ok-shape_fault.was) (sym c.table_broken.ensures ∙ c.if-table_broken.true)

pub returns : goal.returns
returns c = none_refused _ (sym c.shape_fault.ensures ∙ ap told c.in_ok-shape_fault.was) (sym c.table_broken.ensures ∙ c.if-table_broken.false)
