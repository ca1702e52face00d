-- `measure::table_bounds` meets its contract: refused by its fault, or the bounds of the corners.
-- Assumes nothing.
use mathlib.Core.Path.{◌∙◌}
use borrow.Author.Rules.{rules}
use mir.Syntax.{w32}
use mir.Val.{SFits}
use Rattle.integers.proofs.Bits.{kept}
use Rattle.mesh_bounds.specs.Bounds.{bounds_of}
use Rattle.measure.proofs.Answers.{bounds_refused, bounds_told_lem}
use Rattle.measure.proofs.table_bounds.Goals as goal

pub returns-then-fault-ne0 : goal.returns-then-fault-ne0
unfolding bounds_of
returns-then-fault-ne0 c = bounds_refused _ _ c.table_fault-fault.ensures c.if-fault-ne0.true

pub returns : goal.returns
returns c = let b = c.corner_bounds-b.result in
    let x : SFits w32 b.min_x = search rules in
    let z : SFits w32 b.max_x = search rules in
    let y : SFits w32 b.min_y = search rules in
    let w : SFits w32 b.max_y = search rules in
    (λ i. record { fault = 0; min_x = kept x i; max_x = kept z i; min_y = kept y i; max_y = kept w i })
    ∙ bounds_told_lem _ _ c.table_fault-fault.ensures c.if-fault-ne0.false c.corner_bounds-b.ensures
