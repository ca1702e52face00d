-- `pair_chains::merge_four` meets its contract. The loop's invariant: where each lane stands.
-- Assumes nothing.
use Rattle.pair_chains.proofs.Lanes.{four_going, of_turn, of_next, of_done}
use Rattle.pair_chains.proofs.merge_four.Goals as goal

pub step-a-requires : goal.step-a-requires
step-a-requires c = let l = c.lanes in
    let g = c.args in
    let h = four_going l.a g.x.a l.b g.x.b l.c g.x.c l.d g.x.d c.going_four.ensures c.lanes-test.true in
    of_turn g.points.now g.numbers.now g.x.a l.invariant.0 c.requires.0 c.requires.1.first h.0

pub step-b-requires : goal.step-b-requires
step-b-requires c = let l = c.lanes in
    let g = c.args in
    let h = four_going l.a g.x.a l.b g.x.b l.c g.x.c l.d g.x.d c.going_four.ensures c.lanes-test.true in
    of_turn g.points.now g.numbers.now g.x.b l.invariant.1 c.requires.0 c.requires.1.second h.1

pub step-c-requires : goal.step-c-requires
step-c-requires c = let l = c.lanes in
    let g = c.args in
    let h = four_going l.a g.x.a l.b g.x.b l.c g.x.c l.d g.x.d c.going_four.ensures c.lanes-test.true in
    of_turn g.points.now g.numbers.now g.x.c l.invariant.2 c.requires.0 c.requires.1.third h.2

pub step-d-requires : goal.step-d-requires
step-d-requires c = let l = c.lanes in
    let g = c.args in
    let h = four_going l.a g.x.a l.b g.x.b l.c g.x.c l.d g.x.d c.going_four.ensures c.lanes-test.true in
    of_turn g.points.now g.numbers.now g.x.d l.invariant.3 c.requires.0 c.requires.1.fourth h.3

pub lanes-preserved : goal.lanes-preserved
lanes-preserved c = let l = c.lanes in
    let g = c.args in
    let h = four_going l.a g.x.a l.b g.x.b l.c g.x.c l.d g.x.d c.going_four.ensures c.lanes-test.true in (
      of_next g.points.now g.numbers.now g.x.a l.invariant.0 h.0 c.step-a.ensures.places c.step-a.ensures.corner,
      of_next g.points.now g.numbers.now g.x.b l.invariant.1 h.1 c.step-b.ensures.places c.step-b.ensures.corner,
      of_next g.points.now g.numbers.now g.x.c l.invariant.2 h.2 c.step-c.ensures.places c.step-c.ensures.corner,
      of_next g.points.now g.numbers.now g.x.d l.invariant.3 h.3 c.step-d.ensures.places c.step-d.ensures.corner,
    )

pub returns : goal.returns
returns c = let l = c.lanes in
    let g = c.args in (
      of_done g.points.now g.numbers.now g.x.a l.invariant.0 c.finish.ensures,
      of_done g.points.now g.numbers.now g.x.b l.invariant.1 c.finish-2.ensures,
      of_done g.points.now g.numbers.now g.x.c l.invariant.2 c.finish-3.ensures,
      of_done g.points.now g.numbers.now g.x.d l.invariant.3 c.finish-4.ensures,
    )
