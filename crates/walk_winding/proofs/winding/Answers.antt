-- `walk_winding::winding` meets its contract. Assumes nothing.
use mathlib.Core.Path.{sym, ◌∙◌, ap}
use Prim.Native.Nat.{◌+◌}
use native.Mathlib.Omega.{arith}
use lib.ListN.{drop}
use mir.Syntax.{w64}
use mir.Val.{to_z}
use Rattle.integers.proofs.Bits.{kept, got}
use Rattle.corners.specs.Corners.{points_of}
use Rattle.pair.specs.Walk.{winding_terms}
use Rattle.walk_winding.specs.Winding.{winding_of}
use Rattle.walk_winding.proofs.Windings.{length_terms, wound_turn, wound_leaves, wound_ends}
use borrow.Author.Rules.{rules}
use Rattle.walk_winding.proofs.winding.Goals as goal

pub returns-in_err-total : goal.returns-in_err-total
returns-in_err-total c =
    let ts = winding_terms c.args.s (points_of c.args.contour.now) in
    let x = got w64 _ c.term_at.type_inv ∙ c.term_at.ensures.0 in
    c.from_residual.ensures ∙ sym
    (c.loop-k.invariant
    ∙ wound_leaves ts (to_z w64 c.loop-k.total-bits) x
    (omega (arith, length_terms c.args.s (points_of c.args.contour.now), c.corner_count-k-end.ensures))
    (sym c.add_term.ensures ∙ c.in_err-total.was))

pub loop-k-preserved : goal.loop-k-preserved
loop-k-preserved c =
    let ts = winding_terms c.args.s (points_of c.args.contour.now) in
    let x = got w64 _ c.term_at.type_inv ∙ c.term_at.ensures.0 in
    c.loop-k.invariant
    ∙ wound_turn ts (to_z w64 c.loop-k.total-bits) x
    (omega (arith, length_terms c.args.s (points_of c.args.contour.now), c.corner_count-k-end.ensures))
    (sym c.add_term.ensures ∙ c.in_ok-total.was)
    ∙ ap (λ z. winding_of z (drop (c.loop-k.k + 1) ts)) (sym (kept {w = w64} {z = c.in_ok-total.total} (search rules)))

pub returns : goal.returns
returns c =
    sym
    (c.loop-k.invariant
    ∙ wound_ends (winding_terms c.args.s (points_of c.args.contour.now)) c.loop-k.k
    (omega (arith, length_terms c.args.s (points_of c.args.contour.now), c.corner_count-k-end.ensures)))
