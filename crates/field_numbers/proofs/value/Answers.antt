-- `field_numbers::value` meets its contract. The loop's invariant: v and then the digits from i on
-- write the number. Assumes nothing.
use mathlib.Core.Path.{sym, ◌∙◌}
use native.Mathlib.Omega.{arith}
use Rattle.fields.specs.Fields.{is_digit}
use Rattle.fields.proofs.Runs.{run_whole}
use Rattle.field_numbers.proofs.Values.{larger, value_more, value_end}
use Rattle.field_numbers.proofs.value.Goals as goal

pub digit-requires : goal.digit-requires
digit-requires c = run_whole is_digit _ c.requires.1 c.loop-b.b-index (omega arith)

pub loop-b-preserved : goal.loop-b-preserved
loop-b-preserved c = let digits = c.args.digits.now in
    let v = c.loop-b.v in
    let i = c.loop-b.b-index in
    let d = c.digit.result in
    (larger i c.loop-b.invariant.0 c.digit.ensures.1, c.loop-b.invariant.1 ∙ value_more v digits (omega arith) c.digit.ensures.0)

pub returns : goal.returns
returns c = sym (c.loop-b.invariant.1 ∙ value_end c.loop-b.v c.args.digits.now c.loop-b.b-index (omega arith))
