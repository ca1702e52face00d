-- `pair_numbers::mark` meets its contract: with no edge after, and by how the two compare. Assumes
-- nothing.
use mathlib.Core.Path.{sym, ◌∙◌, ap₂}
use native.Mathlib.Omega.{arith}
use lib.ListN.{length-map}
use Rattle.points.specs.Points.{corner_of}
use Rattle.pair_merge.specs.Putting.{points_in}
use Rattle.plane.specs.Plane.{angle_cmp}
use Rattle.pair_numbers.proofs.Filling.{mark_last, mark_by}
use Rattle.pair_numbers.proofs.mark.Goals as goal

pub returns-then-i-a : goal.returns-then-i-a
returns-then-i-a c = sym (mark_last (points_in c.args.a.now) c.args.i (c.if-i-a.true ∙ sym (length-map c.args.a.now corner_of)))

pub returns-in-Less : goal.returns-in-Less
returns-in-Less c = sym (mark_by (points_in c.args.a.now) c.args.i (omega (arith, c.requires.0, c.if-i-a.false, length-map c.args.a.now corner_of)) (ap₂ angle_cmp (sym c.edge.ensures.0) (sym c.edge-2.ensures.0) ∙ sym c.angle_cmp-order.ensures ∙ c.in-Less.is))

pub returns-in-Equal : goal.returns-in-Equal
returns-in-Equal c = sym (mark_by (points_in c.args.a.now) c.args.i (omega (arith, c.requires.0, c.if-i-a.false, length-map c.args.a.now corner_of)) (ap₂ angle_cmp (sym c.edge.ensures.0) (sym c.edge-2.ensures.0) ∙ sym c.angle_cmp-order.ensures ∙ c.in-Equal.is))

pub returns-in-Greater : goal.returns-in-Greater
returns-in-Greater c = sym (mark_by (points_in c.args.a.now) c.args.i (omega (arith, c.requires.0, c.if-i-a.false, length-map c.args.a.now corner_of)) (ap₂ angle_cmp (sym c.edge.ensures.0) (sym c.edge-2.ensures.0) ∙ sym c.angle_cmp-order.ensures ∙ c.in-Greater.is))
