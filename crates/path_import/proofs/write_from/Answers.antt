-- `path_import::write_from` meets its contract: a turn and the end of `Writing`, whose items are
-- the first n. Assumes nothing.
use mathlib.Core.Path.{refl}
use native.Mathlib.Omega.{arith}
use lib.Seq.{length-take-le}
use Rattle.corners.proofs.Corners.{length_points}
use Rattle.path.proofs.Turns.{writing_now, writing_next, writing_done}
use Rattle.path_import.proofs.write_from.Goals as goal

pub write_item-at-requires : goal.write_item-at-requires
write_item-at-requires c = let h = c.loop-i-test.true in
    let J = c.loop-i.invariant in (
      writing_now J _ h refl,
      omega (arith, h, length-take-le c.args.n c.args.path.now c.requires.items, c.requires.room, J.long, length_points c.args.corners.now, length_points c.loop-i.corners),
    )

pub loop-i-preserved : goal.loop-i-preserved
loop-i-preserved c = writing_next c.loop-i.invariant _ c.loop-i-test.true refl c.write_item-at.ensures.0 c.write_item-at.ensures.1

pub returns : goal.returns
returns c = writing_done c.loop-i.invariant c.loop-i-test.false
