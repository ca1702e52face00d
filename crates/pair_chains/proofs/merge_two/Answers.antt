-- `pair_chains::merge_two` meets its contract. The loop's invariant: where each lane stands.
-- Assumes nothing.
use Rattle.pair_chains.proofs.Lanes.{two_going, of_turn, of_next}
use Rattle.pair_chains.proofs.merge_two.Goals as goal

pub step-a-requires : goal.step-a-requires
step-a-requires c = let l = c.lanes in
    let g = c.args in
    let h = two_going l.a g.x l.b g.y c.going_two.ensures c.lanes-test.true in
    of_turn g.points.now g.numbers.now g.x l.invariant.0 c.requires.0 c.requires.1 h.0

pub step-b-requires : goal.step-b-requires
step-b-requires c = let l = c.lanes in
    let g = c.args in
    let h = two_going l.a g.x l.b g.y c.going_two.ensures c.lanes-test.true in
    of_turn g.points.now g.numbers.now g.y l.invariant.1 c.requires.0 c.requires.2 h.1

pub lanes-preserved : goal.lanes-preserved
lanes-preserved c = let l = c.lanes in
    let g = c.args in
    let h = two_going l.a g.x l.b g.y c.going_two.ensures c.lanes-test.true in (
      of_next g.points.now g.numbers.now g.x l.invariant.0 h.0 c.step-a.ensures.places c.step-a.ensures.corner,
      of_next g.points.now g.numbers.now g.y l.invariant.1 h.1 c.step-b.ensures.places c.step-b.ensures.corner,
    )
