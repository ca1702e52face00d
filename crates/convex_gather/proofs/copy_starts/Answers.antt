-- `convex_gather::copy_starts` meets its contract. Assumes nothing.
use mathlib.Core.Path.{refl, sym, ◌∙◌}
use native.Mathlib.Omega.{arith}
use lib.ListN.{length-set}
use Rattle.integers.proofs.Overlay.{overlay_nil, copy_turn}
use Rattle.convex_gather.proofs.copy_starts.Goals as goal

pub loop-i-init : goal.loop-i-init
loop-i-init c = (refl, sym (overlay_nil c.args.to.now))

pub loop-i-preserved : goal.loop-i-preserved
loop-i-preserved c = let h = c.loop-i-test.true in
    let g = c.args in
    (length-set c.loop-i.to c.loop-i.i _ ∙ c.loop-i.invariant.0, copy_turn g.from.now g.to.now 0 (omega (arith, h, c.requires.0)) (omega (arith, h, c.requires.1)) c.loop-i.invariant.1 refl)
