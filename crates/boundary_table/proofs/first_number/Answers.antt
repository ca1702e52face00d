-- `boundary_table::first_number` meets its contract: part k of a table that is not broken begins
-- within its corners. Assumes nothing.
use mathlib.Core.Path.{◌∙◌, ap}
use native.Mathlib.Omega.{arith}
use borrow.Author.Rules.{rules}
use lib.ListN.{length}
use lib.Seq.{length-take-le}
use Rattle.corners.proofs.Corners.{whole_corners}
use Rattle.table.proofs.Shown.{placed}
use Rattle.boundary_table.proofs.first_number.Goals as goal

pub front-requires : goal.front-requires
front-requires c = let p = placed _ _ c.requires.0 c.requires.1 in
    whole_corners _ _ (omega (arith, p.rises, p.within))

pub returns : goal.returns
returns c = let p = placed _ _ c.requires.0 c.requires.1 in
    ap length c.front.ensures.numbers ∙ length-take-le _ _ (omega (arith, p.rises, p.within))
