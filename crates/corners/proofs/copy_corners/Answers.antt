-- `corners::copy_corners` meets its contract: the numbers are put in one piece. Assumes nothing.
use mathlib.Core.Path.{sym, subst}
use Prim.Native.Nat.{◌+◌, ◌*◌, ◌-◌}
use native.Mathlib.Omega.{arith}
use borrow.Rule.Slice.PartMut.{put_mid}
use Rattle.corners.specs.Copying.{Copied}
use Rattle.corners.proofs.Copying.{copied}
use Rattle.corners.proofs.copy_corners.Goals as goal

pub returns : goal.returns
returns c = let g = c.args in
    subst (λ l. Copied g.from.now g.at (2 * g.count) g.out.now (put_mid (2 * g.at) (2 * (g.at + g.count) - 2 * g.at) g.out.now l)) (sym c.copy_from_slice.ensures.after)
    (copied g.from.now g.out.now g.at (omega (arith, c.requires.0)) (omega (arith, c.requires.1)) (omega arith))
