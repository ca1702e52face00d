-- `pair_numbers::edge_number` meets its contract. Assumes nothing.
use mathlib.Core.Path.{sym, ◌∙◌, ap, subst}
use Prim.Native.Nat.{◌*◌}
use native.Mathlib.Omega.{arith}
use lib.ListN.{length-map}
use Rattle.points.specs.Points.{corner_of}
use Rattle.pair_merge.specs.Putting.{points_in}
use Rattle.plane.specs.Halves.{Nz}
use Rattle.direction_keys.specs.Keys.{key}
use Rattle.direction_keys.proofs.Steps.{edge_nz, right_is}
use Rattle.pair_numbers.proofs.Filling.{small_edge}
use Rattle.pair_numbers.proofs.edge_number.Goals as goal

pub key_of-requires : goal.key_of-requires
key_of-requires c = (c.edge.ensures.1, subst Nz (sym c.edge.ensures.0) (edge_nz c.args.i c.requires.1.turning (omega (arith, c.requires.0, length-map c.args.a.now corner_of))))

pub returns : goal.returns
returns c = let e = c.edge in
    (ap (λ n. 2 * n) (c.key_of.ensures.0 ∙ ap key e.ensures.0) ∙ sym (right_is (points_in c.args.a.now) c.args.i (omega (arith, c.requires.0, length-map c.args.a.now corner_of))), small_edge e.ensures.1 e.ensures.0)
