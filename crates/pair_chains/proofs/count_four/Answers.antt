-- `pair_chains::count_four` meets its contract. The loop's invariant: what each lane has still to
-- count. Assumes nothing.
use Rattle.pair_chains.proofs.Lanes.{four_going, counting_turn, counting_next, counting_rest, count_small}
use Rattle.pair_chains.proofs.count_four.Goals as goal

pub step_on-a-requires : goal.step_on-a-requires
step_on-a-requires c = let l = c.lanes in
    let n = c.args.numbers.now in
    let x = c.args.x in
    let h = four_going l.a x.a l.b x.b l.c x.c l.d x.d c.going_four.ensures c.lanes-test.true in
    counting_turn c.requires.0.few (count_small c.requires.0) l.invariant.0 h.0

pub step_on-b-requires : goal.step_on-b-requires
step_on-b-requires c = let l = c.lanes in
    let n = c.args.numbers.now in
    let x = c.args.x in
    let h = four_going l.a x.a l.b x.b l.c x.c l.d x.d c.going_four.ensures c.lanes-test.true in
    counting_turn c.requires.1.few (count_small c.requires.1) l.invariant.1 h.1

pub step_on-c-requires : goal.step_on-c-requires
step_on-c-requires c = let l = c.lanes in
    let n = c.args.numbers.now in
    let x = c.args.x in
    let h = four_going l.a x.a l.b x.b l.c x.c l.d x.d c.going_four.ensures c.lanes-test.true in
    counting_turn c.requires.2.few (count_small c.requires.2) l.invariant.2 h.2

pub step_on-d-requires : goal.step_on-d-requires
step_on-d-requires c = let l = c.lanes in
    let n = c.args.numbers.now in
    let x = c.args.x in
    let h = four_going l.a x.a l.b x.b l.c x.c l.d x.d c.going_four.ensures c.lanes-test.true in
    counting_turn c.requires.3.few (count_small c.requires.3) l.invariant.3 h.3

pub lanes-preserved : goal.lanes-preserved
lanes-preserved c = let l = c.lanes in
    let n = c.args.numbers.now in
    let x = c.args.x in
    let h = four_going l.a x.a l.b x.b l.c x.c l.d x.d c.going_four.ensures c.lanes-test.true in (
      counting_next c.requires.0.few (count_small c.requires.0) l.invariant.0 h.0 c.step_on-a.ensures,
      counting_next c.requires.1.few (count_small c.requires.1) l.invariant.1 h.1 c.step_on-b.ensures,
      counting_next c.requires.2.few (count_small c.requires.2) l.invariant.2 h.2 c.step_on-c.ensures,
      counting_next c.requires.3.few (count_small c.requires.3) l.invariant.3 h.3 c.step_on-d.ensures,
    )

pub count_on-requires : goal.count_on-requires
count_on-requires c = let l = c.lanes in
    let n = c.args.numbers.now in
    let x = c.args.x in
    counting_rest c.requires.0.few (count_small c.requires.0) l.invariant.0

pub count_on-requires-2 : goal.count_on-requires-2
count_on-requires-2 c = let l = c.lanes in
    let n = c.args.numbers.now in
    let x = c.args.x in
    counting_rest c.requires.1.few (count_small c.requires.1) l.invariant.1

pub count_on-requires-3 : goal.count_on-requires-3
count_on-requires-3 c = let l = c.lanes in
    let n = c.args.numbers.now in
    let x = c.args.x in
    counting_rest c.requires.2.few (count_small c.requires.2) l.invariant.2

pub count_on-requires-4 : goal.count_on-requires-4
count_on-requires-4 c = let l = c.lanes in
    let n = c.args.numbers.now in
    let x = c.args.x in
    counting_rest c.requires.3.few (count_small c.requires.3) l.invariant.3
