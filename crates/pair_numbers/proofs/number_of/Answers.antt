-- `pair_numbers::number_of` meets its contract: of the last point, and of an edge, whose mark can
-- be taken off. Assumes nothing.
use mathlib.Core.Path.{◌≡◌, sym, ◌∙◌, ap, ap₂}
use mathlib.Core.Bool.{Bool, true, false}
use mathlib.Core.List.{List}
use Prim.Native.Nat.{ℕ, ◌+◌, ◌-◌, ◌<◌}
use native.Mathlib.Omega.{arith}
use lib.ListN.{length, length-map}
use Rattle.plane.specs.Plane.{Pt}
use Rattle.points.specs.Points.{corner_of}
use Rattle.pair_merge.specs.Putting.{points_in}
use Rattle.direction_keys.specs.Marks.{last}
use Rattle.direction_keys.proofs.Steps.{left_last, right_last, left_is, right_is, mark_most}
use Rattle.pair_numbers.specs.Numbers.{number_of}
use Rattle.pair_numbers.proofs.number_of.Goals as goal

at_last : (first : Bool) (a : List Pt) (i : ℕ) → i + 1 ≡ length a → last ≡ number_of first a i
at_last true a i e = sym (left_last a i e)
at_last false a i e = sym (right_last a i e)

pub returns-then-i-a : goal.returns-then-i-a
returns-then-i-a c = at_last c.args.first (points_in c.args.a.now) c.args.i (c.if-i-a.true ∙ sym (length-map c.args.a.now corner_of))

pub overflow_sub-result : goal.overflow_sub-result
overflow_sub-result c = let h : c.args.i + 1 < length (points_in c.args.a.now) = omega (arith, c.requires.0, c.if-i-a.false, length-map c.args.a.now corner_of) in
    let e = c.edge_number-number.ensures in
    omega (arith, c.mark.ensures, e.0, right_is (points_in c.args.a.now) c.args.i h, mark_most c.args.i c.requires.1.turning e.1 h)

pub returns-then-first : goal.returns-then-first
returns-then-first c = let h : c.args.i + 1 < length (points_in c.args.a.now) = omega (arith, c.requires.0, c.if-i-a.false, length-map c.args.a.now corner_of) in
    ap₂ ◌-◌ (c.edge_number-number.ensures.0 ∙ right_is (points_in c.args.a.now) c.args.i h) c.mark.ensures ∙ sym (left_is (points_in c.args.a.now) c.args.i h)
    ∙ ap (λ t. number_of t (points_in c.args.a.now) c.args.i) (sym c.if-first.true)
