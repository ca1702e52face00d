-- `records::rows` meets its contract. The loop's invariant: the first k rows stand on the front of
-- `to`. Assumes nothing.
use mathlib.Core.Path.{◌≡◌, refl, sym, ◌∙◌, ap}
use native.Mathlib.Omega.{arith}
use lib.ListN.{length-set}
use Rattle.integers.specs.Lists.{overlay}
use Rattle.integers.proofs.Overlay.{overlay_nil}
use Rattle.records.specs.Record.{rows_in}
use Rattle.records.proofs.Lists.{listed, no_rows, length_rows, row_more}
use Rattle.records.proofs.rows.Goals as goal

pub loop-k-init : goal.loop-k-init
loop-k-init c = let s = c.args in
    (refl, sym (ap (λ l. overlay l s.to.now) (no_rows s.bytes.now) ∙ overlay_nil _))

pub loop-k-preserved : goal.loop-k-preserved
loop-k-preserved c = let s = c.args in (
  simp length-set c.loop-k.invariant.0,
  row_more s.bytes.now s.to.now (omega arith) c.loop-k.invariant.1 c.row.ensures,
)

pub returns : goal.returns
returns c = let s = c.args in
    let e = c.min-count.ensures in
    let k : c.loop-k.k ≡ c.min-count.result = omega arith in
    let n = length_rows s.bytes.now _ in
    listed _ _ (e ∙ sym n) (omega (arith, n)) (c.loop-k.invariant.1 ∙ ap (λ m. overlay (rows_in s.bytes.now m) s.to.now) (k ∙ e))
