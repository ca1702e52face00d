-- `convex_regions::gather_within` meets its contract: fresh work arrays are ready for `visit_all`.
-- Assumes nothing.
use mathlib.Core.Path.{◌∙◌, ap}
use native.Mathlib.Omega.{arith}
use lib.ListN.{length, get_or, length-set}
use lib.Seq.{get_or-set_same}
use Rattle.convex_regions.proofs.Regions.{first_ready, first_marked}
use Rattle.convex_regions.proofs.gather_within.Goals as goal

pub visit_all-requires : goal.visit_all-requires
visit_all-requires c = let rows = c.args.mesh.now in
    let starts = c.args.starts.now in
    let e = c.put_start.ensures in
    let u = c.requires.1 in (
      first_ready rows u c.requires.0,
      first_marked rows u,
      omega (arith, ap length e, length-set starts 0 0, c.requires.2),
      c.requires.3,
      ap (λ l. get_or l 0 0) e ∙ get_or-set_same starts 0 0 0 (omega (arith, c.requires.2)),
    )
