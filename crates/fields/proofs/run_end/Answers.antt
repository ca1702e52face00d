-- `fields::run_end` meets its contract. Assumes nothing.
use mathlib.Core.Path.{◌≡◌, ◌∙◌, ap}
use Prim.Native.Nat.{◌-◌}
use native.Mathlib.Omega.{arith}
use lib.ListN.{length, take, drop, length-drop}
use lib.Seq.{take_all}
use Rattle.fields.specs.Fields.{in_run, run_length}
use Rattle.fields.proofs.Runs.{length_front, run_length_lem}
use Rattle.fields.proofs.run_end.Goals as goal

pub returns : goal.returns
returns c =
    let text = c.args.text.now in
    let from = c.args.from in
    let p = in_run c.args.kind in
    let whole : take (length text - from) (drop from text) ≡ drop from text = take_all (length text - from) (drop from text) (omega (arith, length-drop from text)) in
    let e : c.front.result ≡ run_length p (drop from text) = c.front.ensures ∙ length_front p (take (length text - from) (drop from text)) ∙ ap (run_length p) whole in
    (omega (arith, e), omega arith, omega (arith, e, run_length_lem p (drop from text), length-drop from text))
