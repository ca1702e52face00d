-- `walk_move::edge_of` meets its contract: the corners at its place and at the next, one less the
-- other. Assumes nothing.
use mathlib.Core.Path.{◌≡◌, sym, ◌∙◌, ap}
use mathlib.Core.Bool.{true, false}
use mathlib.Core.List.{List, [], ◌∷◌}
use native.Mathlib.Omega.{arith}
use lib.ListN.{length}
use Rattle.integers.proofs.Ring.{◌:≡ᵖ◌, pt, ringᵖ}
use Rattle.plane.specs.Plane.{Pt, ◌-ᵖ◌, negᵖ}
use Rattle.plane.proofs.Terms.{◌-E◌, neg_e}
use Rattle.corners.specs.Corners.{points_of}
use Rattle.pair.specs.declared.Place.{Place}
use Rattle.pair.specs.Walk.{corner_at, next_index, turned, edge_of}
use Rattle.walk.proofs.Answers.{few_corners, index_inside, next_inside}
use Rattle.walk_read.proofs.Grid.{not_off}
use Rattle.walk_move.proofs.edge_of.Goals as goal

turned_about : (a b : Pt) → a -ᵖ b ≡ negᵖ (b -ᵖ a)
turned_about = ringᵖ (pt ∷ pt ∷ []) (λ a b. a -E b :≡ᵖ neg_e (b -E a)) tt

-- e is the edge from a to b, the other way round where the walk is reflected
module _ (l : List Pt) (w : Place) {a b e : Pt} (ea : a ≡ corner_at l w.index) (eb : b ≡ corner_at l (next_index (length l) w)) where
  turned_back : w.reflected ≡ true → e ≡ a -ᵖ b → e ≡ edge_of l w
  unfolding edge_of
  turned_back h f = f ∙ turned_about a b ∙ (λ i. turned (sym h i) (eb i -ᵖ ea i))

  straight : w.reflected ≡ false → e ≡ b -ᵖ a → e ≡ edge_of l w
  unfolding edge_of
  straight h f = f ∙ (λ i. turned (sym h i) (eb i -ᵖ ea i))

pub next_index-next-requires : goal.next_index-next-requires
next_index-next-requires c = rw c.corner_count.ensures (few_corners c.args.contour.now c.requires.0, c.requires.1)

pub corner_at-a-requires : goal.corner_at-a-requires
corner_at-a-requires c = index_inside _ _ c.requires.1

pub corner_at-b-requires : goal.corner_at-b-requires
corner_at-b-requires c = let l = points_of c.args.contour.now in
    let w = c.args.w in
    omega (arith, c.next_index-next.ensures ∙ ap (λ n. next_index n w) c.corner_count.ensures, next_inside (length l) w c.requires.1)

pub subtract-requires : goal.subtract-requires
subtract-requires c = let l = points_of c.args.contour.now in
    let w = c.args.w in
    let p = c.requires in
    let a = not_off l w.index p.2 c.corner_at-a.ensures in
    let b = not_off l (next_index (length l) w) p.3 (c.corner_at-b.ensures ∙ ap (corner_at l) (c.next_index-next.ensures ∙ ap (λ n. next_index n w) c.corner_count.ensures)) in
    (a, b)

pub returns-then-w : goal.returns-then-w
returns-then-w c = let l = points_of c.args.contour.now in
    let w = c.args.w in
    let a = c.corner_at-a.ensures in
    let b = c.corner_at-b.ensures ∙ ap (corner_at l) (c.next_index-next.ensures ∙ ap (λ n. next_index n w) c.corner_count.ensures) in
    (turned_back l w a b c.if-w.true c.subtract.ensures.0, c.subtract.ensures.1)

pub subtract-requires-else-w : goal.subtract-requires-else-w
subtract-requires-else-w c = let l = points_of c.args.contour.now in
    let w = c.args.w in
    let p = c.requires in
    let a = not_off l w.index p.2 c.corner_at-a.ensures in
    let b = not_off l (next_index (length l) w) p.3 (c.corner_at-b.ensures ∙ ap (corner_at l) (c.next_index-next.ensures ∙ ap (λ n. next_index n w) c.corner_count.ensures)) in
    (b, a)

pub returns-else-w : goal.returns-else-w
returns-else-w c = let l = points_of c.args.contour.now in
    let w = c.args.w in
    let a = c.corner_at-a.ensures in
    let b = c.corner_at-b.ensures ∙ ap (corner_at l) (c.next_index-next.ensures ∙ ap (λ n. next_index n w) c.corner_count.ensures) in
    (straight l w a b c.if-w.false c.subtract-else-w.ensures.0, c.subtract-else-w.ensures.1)
