-- `pair_merge::append_pair` meets its contract: the merge until one list has no edge left, then the
-- rest of either. Assumes nothing.
use native.Mathlib.Omega.{arith}
use Rattle.pair_merge.proofs.Merging.{first_room, second_room, both_put, none_first, none_second}
use Rattle.std.proofs.lemmas.Bool.Decides.{nat_tests}
use Rattle.pair_merge.proofs.append_pair.Goals as goal
use Rattle.pair_merge.proofs.append_pair.Goals.{then-is_empty-via-then-is_empty, then-is_empty-via-else-is_empty+then-is_empty-2}

pub returns-then-is_empty : goal.returns-then-is_empty
returns-then-is_empty c = let g = c.args in
    elim c.then-is_empty.branch [
      | then-is_empty-via-then-is_empty w ↦ none_first g.a.now g.b.now g.out.now g.at (grind (arith, nat_tests, c.is_empty.ensures, w.if-is_empty.true))
      | then-is_empty-via-else-is_empty+then-is_empty-2 w ↦ none_second g.a.now g.b.now g.out.now g.at (grind (arith, nat_tests, w.is_empty-else-is_empty.ensures, w.if-is_empty-2.true))
    ]

pub rest-k-requires : goal.rest-k-requires
rest-k-requires c = let m = c.merge-i in
    (m.ensures.places.0, c.requires.0.grid, m.ensures.places.1, c.requires.1.grid, first_room c.requires.0 c.requires.1 m.ensures.places.0 m.ensures.places.1 m.ensures.places.2 m.ensures.corners c.requires.2)

pub rest-requires : goal.rest-requires
rest-requires c = let m = c.merge-i in
    (m.ensures.places.1, c.requires.1.grid, omega (arith, m.ensures.places.0), c.requires.0.grid, second_room c.requires.0 c.requires.1 m.ensures.places.0 m.ensures.places.1 m.ensures.places.2 m.ensures.corners c.rest-k.ensures c.requires.2)

pub returns : goal.returns
returns c = let m = c.merge-i in
    both_put c.requires.0 c.requires.1 m.ensures.places.0 m.ensures.places.1 m.ensures.places.2 m.ensures.corners c.rest-k.ensures c.rest.ensures
