-- `pairs_place::placed_walks` meets its contract. The loop's invariant is placement's `ByTurn`,
-- where what is told so far says whether a contour was touched. Assumes nothing.
use mathlib.Core.Path.{◌≡◌, refl, sym, ◌∙◌, ap, subst}
use mathlib.Core.Bool.{cond}
use Prim.Native.Nat.{◌+◌, ◌<◌}
use native.Mathlib.Omega.{arith}
use lib.ListN.{length}
use Rattle.plane.specs.Machine.{point}
use Rattle.pair_walks.specs.Walks.{contours_in}
use Rattle.placement.specs.declared.Contact.TheVariants.{Apart, Touching}
use Rattle.placement.specs.Placement.{contact_in}
use Rattle.placement.proofs.Contours.{ByTurn, by_start, passed, touched, overlapped, by_end}
use Rattle.pairs_place.proofs.Pairs.{touching, pairs_count, pair_at, merging}
use Rattle.pairs_place.proofs.placed_walks.Goals as goal
use Rattle.pairs_place.proofs.placed_walks.Goals.{in-Apart, in-Touching}

pub loop-k-init : goal.loop-k-init
loop-k-init c = (refl, by_start _ _)

pub placed_pair-requires : goal.placed_pair-requires
placed_pair-requires c = (merging c.requires.0.walkable c.loop-k-test.true (omega (arith, c.requires.0.for_corners, c.loop-k.auto.work)), c.requires.1)

pub returns-in-Overlapping : goal.returns-in-Overlapping
returns-in-Overlapping c = let l = c.loop-k in
    let w = c.requires.0.walkable in
    let k = c.loop-k-test.true in
    overlapped _ _ l.invariant.1 (omega (arith, k, pairs_count w)) (ap (contact_in _) (pair_at w k) ∙ sym c.placed_pair.ensures ∙ c.in-Overlapping.is)

pub loop-k-preserved : goal.loop-k-preserved
loop-k-preserved c = let l = c.loop-k in
    let w = c.requires.0.walkable in
    let k = c.loop-k-test.true in
    let ps = contours_in c.args.firsts.now c.args.points.now c.args.left c.args.right in
    let inside : l.k < length ps = omega (arith, k, pairs_count w) in
    let told = ap (contact_in _) (pair_at w k) ∙ sym c.placed_pair.ensures in
    elim c.match-placed_pair.branch [
      | in-Apart m ↦ subst (λ x. (x ≡ cond (touching x) Touching Apart) × ByTurn (point c.args.z) ps (l.k + 1) (touching x)) (sym m.contact-is) (l.invariant.0, passed _ ps l.invariant.1 inside (told ∙ m.in-Apart.is))
      | in-Touching m ↦ subst (λ x. (x ≡ cond (touching x) Touching Apart) × ByTurn (point c.args.z) ps (l.k + 1) (touching x)) (sym m.contact-is) (refl, touched _ ps l.invariant.1 inside (told ∙ m.in-Touching.is))
    ]

pub returns : goal.returns
returns c = c.loop-k.invariant.0 ∙ by_end _ _ c.loop-k.invariant.1 (omega (arith, c.loop-k-test.false, pairs_count c.requires.0.walkable))
