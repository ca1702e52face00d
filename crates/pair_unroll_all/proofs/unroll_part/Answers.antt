-- `pair_unroll_all::unroll_part` meets its contract: part p of a sound table is a contour of sound
-- length and range. Assumes nothing.
use mathlib.Core.Path.{◌∙◌, ap}
use native.Mathlib.Omega.{arith}
use Rattle.corners.specs.Corners.{points_of}
use Rattle.corners.proofs.Corners.{length_points}
use Rattle.table.proofs.Shown.{placed, numbers_between, part_is}
use Rattle.pair_unroll_all.proofs.Parts.{unrollable_at, unrolled_at}
use Rattle.pair_unroll_all.proofs.unroll_part.Goals as goal

pub part-requires : goal.part-requires
part-requires c = let p = placed _ _ c.requires.whole c.requires.inside in
    (p.rises, omega (arith, p.within, length_points c.args.corners.now))

pub unroll-requires : goal.unroll-requires
unroll-requires c = unrollable_at (c.part.ensures.numbers ∙ numbers_between _ _ _) c.requires

pub returns : goal.returns
returns c = unrolled_at (ap points_of (c.part.ensures.numbers ∙ numbers_between _ _ _) ∙ part_is _ _ c.requires.inside) c.unroll.ensures
