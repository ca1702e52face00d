-- `convex_regions::gather_in` meets its contract: arrays of one value are fresh. Assumes nothing.
use mathlib.Core.Path.{refl, sym, ◌∙◌}
use mathlib.Core.Bool.{false}
use mathlib.Core.List.{[], ◌∷◌}
use native.Mathlib.Omega.{arith}
use lib.ListN.{length-replicate}
use lib.IntN.{pos}
use Rattle.convex_regions.specs.Parts.{in_corner, in_edge, in_flag}
use Rattle.convex_regions.proofs.Regions.{total_blank}
use Rattle.convex_regions.proofs.gather_in.Goals as goal

pub gather_within-requires : goal.gather_within-requires
gather_within-requires g c = let n = g.row.PLACES in
    let m = g.row.MARKS in (
      c.requires.4,
      record {
        for_corners = omega (arith, c.requires.1, length-replicate n (pos 0 ∷ pos 0 ∷ []));
        for_edges = length-replicate n (0 ∷ 0 ∷ []) ∙ sym (length-replicate n (pos 0 ∷ pos 0 ∷ []));
        for_flags = omega (arith, c.requires.0, length-replicate m false);
        no_corners = total_blank in_corner (pos 0 ∷ pos 0 ∷ []) n refl;
        no_edges = total_blank in_edge (0 ∷ 0 ∷ []) n refl;
        no_flags = total_blank in_flag false m refl;
      },
      c.requires.5,
      c.requires.6,
    )
