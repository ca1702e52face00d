-- `pair_merge::second_next` meets its contract: with no edge left in the first list, and by the
-- comparison of edges. Assumes nothing.
use mathlib.Core.Path.{sym, ◌∙◌, ap}
use lib.ListN.{length-map}
use Rattle.plane.specs.Plane.{is_greater}
use Rattle.points.specs.Points.{corner_of}
use Rattle.pair_points.specs.Points.{edge_at}
use Rattle.pair_points.proofs.Turns.{second_last}
use Rattle.pair_merge.specs.Putting.{points_in}
use Rattle.pair_merge.proofs.Merging.{tie_broken}
use Rattle.pair_merge.proofs.second_next.Goals as goal

pub returns-then-i-a : goal.returns-then-i-a
returns-then-i-a c = sym (second_last (points_in c.args.a.now) c.args.i (edge_at (points_in c.args.b.now) c.args.j) (c.if-i-a.true ∙ sym (length-map c.args.a.now corner_of)))

pub returns-in-Greater : goal.returns-in-Greater
returns-in-Greater c = sym (tie_broken c.args.a.now c.args.b.now c.args.j c.requires.0 c.if-i-a.false ∙ ap is_greater (sym c.edge_cmp-order.ensures ∙ c.in-Greater.is))

pub returns-in-Less : goal.returns-in-Less
returns-in-Less c = sym (tie_broken c.args.a.now c.args.b.now c.args.j c.requires.0 c.if-i-a.false ∙ ap is_greater (sym c.edge_cmp-order.ensures ∙ c.in-Less.is))

pub returns-in-Equal : goal.returns-in-Equal
returns-in-Equal c = sym (tie_broken c.args.a.now c.args.b.now c.args.j c.requires.0 c.if-i-a.false ∙ ap is_greater (sym c.edge_cmp-order.ensures ∙ c.in-Equal.is))
