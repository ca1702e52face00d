-- `grid::nearest` meets its contract. Assumes nothing.
use mathlib.Core.Path.{◌∙◌, sym, ap}
use mathlib.Core.Bool.{false}
use native.Mathlib.Omega.{arith}
use lib.IntN.{pos}
use lib.Ieee.{fin, binary64, add, eq, lt, of_bits, to_signed}
use lib.Ieee.Casts.{to_signed_in}
use mir.Syntax.{w32}
use Rattle.integers.proofs.Bits.{got, add_fits, add_is}
use Rattle.floats.proofs.Sums.{abs_signed}
use Rattle.grid.proofs.Shifted.{near, shifted}
use Rattle.grid.proofs.nearest.Goals as goal

pub float_to_int-k : goal.float_to_int-k
unfolding of_bits
float_to_int-k c = (shifted c.args.v c.well_formed.0.1 c.requires).casts

pub overflow_add-result : goal.overflow_add-result
unfolding of_bits
overflow_add-result c = let v = c.args.v in
    let r = shifted v c.well_formed.0.1 c.requires in
    let o = c.one_beside in
    let b = lt v (fin false 0 (pos 0)) in
    add_fits (got w32 (to_signed 31 (near v)) (to_signed_in 31 (near v)) ∙ r.gives) (got w32 o.result o.type_inv ∙ o.ensures)
    (omega (arith, abs_signed b r.size, abs_signed b 1, r.small))

pub returns-then-v-whole : goal.returns-then-v-whole
unfolding of_bits
returns-then-v-whole c = let v = c.args.v in
    let r = shifted v c.well_formed.0.1 c.requires in
    let o = c.one_beside in
    add_is (got w32 (to_signed 31 (near v)) (to_signed_in 31 (near v)) ∙ r.gives) (got w32 o.result o.type_inv ∙ o.ensures) (overflow_add-result c)
    ∙ r.tie_away (ap (λ h. eq v (add binary64 (near v) h)) (sym c.half_beside.ensures) ∙ c.if-v-whole.true)

pub returns-else-v-whole : goal.returns-else-v-whole
unfolding of_bits
returns-else-v-whole c = let v = c.args.v in
    let r = shifted v c.well_formed.0.1 c.requires in
    got w32 (to_signed 31 (near v)) (to_signed_in 31 (near v)) ∙ r.gives
    ∙ r.no_tie (ap (λ h. eq v (add binary64 (near v) h)) (sym c.half_beside.ensures) ∙ c.if-v-whole.false)
