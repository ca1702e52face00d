-- `minkowski_rows::merge_walks` meets its contract: walks m and n lie between their first places.
-- Assumes nothing.
use mathlib.Core.Path.{sym, ap₂, subst}
use native.Mathlib.Omega.{arith}
use Prim.Native.Nat.{ℕ, ◌+◌, ◌≤◌, ◌<◌}
use mathlib.Core.List.{List}
use lib.ListN.{length, get_or}
use lib.IntN.{ℤ}
use Rattle.pair_points.specs.Points.{merged_of}
use Rattle.pair_merge.specs.Putting.{RoomAfter}
use Rattle.pair_walks.specs.Walks.{Walks}
use Rattle.pair_walks.proofs.Walks.{firsts_enough, walk_placed, walk_ready}
use Rattle.minkowski_rows.proofs.Pairs.{put_equal}
use Rattle.minkowski_rows.proofs.merge_walks.Goals as goal

-- where a walk lies
record Places (firsts : List ℕ) (points : List (List ℤ)) (k : ℕ) : Type 0 where
  enough : k + 1 < length firsts
  rises : get_or firsts k 0 ≤ get_or firsts (k + 1) 0
  within : get_or firsts (k + 1) 0 ≤ length points

both : {firsts : List ℕ} {points : List (List ℤ)} {count m n : ℕ} → Walks firsts points count → m < count → n < count → Places firsts points m × Places firsts points n
both {firsts} {points} {count} {m} {n} w h k = (at h, at k)
  where
    at : {i : ℕ} → i < count → Places firsts points i
    at {i} h = let p = walk_placed w h in record { enough = firsts_enough w h; rises = p.rises; within = p.within }

pub offset_bounds-firsts-m : goal.offset_bounds-firsts-m
offset_bounds-firsts-m c = let b = both c.requires.0 c.requires.1 c.requires.2 in
    omega (arith, b.0, b.1)

pub bounds-firsts-m : goal.bounds-firsts-m
bounds-firsts-m c = let b = both c.requires.0 c.requires.1 c.requires.2 in
    omega (arith, b.0, b.1)

pub offset_bounds-firsts-m-2 : goal.offset_bounds-firsts-m-2
offset_bounds-firsts-m-2 c = let b = both c.requires.0 c.requires.1 c.requires.2 in
    omega (arith, b.0, b.1)

pub bounds-firsts-m-2 : goal.bounds-firsts-m-2
bounds-firsts-m-2 c = let b = both c.requires.0 c.requires.1 c.requires.2 in
    omega (arith, b.0, b.1)

pub offset_bounds-firsts-n : goal.offset_bounds-firsts-n
offset_bounds-firsts-n c = let b = both c.requires.0 c.requires.1 c.requires.2 in
    omega (arith, b.0, b.1)

pub bounds-firsts-n : goal.bounds-firsts-n
bounds-firsts-n c = let b = both c.requires.0 c.requires.1 c.requires.2 in
    omega (arith, b.0, b.1)

pub offset_bounds-firsts-n-2 : goal.offset_bounds-firsts-n-2
offset_bounds-firsts-n-2 c = let b = both c.requires.0 c.requires.1 c.requires.2 in
    omega (arith, b.0, b.1)

pub bounds-firsts-n-2 : goal.bounds-firsts-n-2
bounds-firsts-n-2 c = let b = both c.requires.0 c.requires.1 c.requires.2 in
    omega (arith, b.0, b.1)

pub slice_bounds-append_pair-count : goal.slice_bounds-append_pair-count
slice_bounds-append_pair-count c = let b = both c.requires.0 c.requires.1 c.requires.2 in
    omega (arith, b.0, b.1)

pub slice_bounds-append_pair-start : goal.slice_bounds-append_pair-start
slice_bounds-append_pair-start c = let b = both c.requires.0 c.requires.1 c.requires.2 in
    omega (arith, b.0, b.1)

pub slice_bounds-append_pair-end : goal.slice_bounds-append_pair-end
slice_bounds-append_pair-end c = let b = both c.requires.0 c.requires.1 c.requires.2 in
    omega (arith, b.0, b.1)

pub slice_bounds-append_pair-count-2 : goal.slice_bounds-append_pair-count-2
slice_bounds-append_pair-count-2 c = let b = both c.requires.0 c.requires.1 c.requires.2 in
    omega (arith, b.0, b.1)

pub slice_bounds-append_pair-start-2 : goal.slice_bounds-append_pair-start-2
slice_bounds-append_pair-start-2 c = let b = both c.requires.0 c.requires.1 c.requires.2 in
    omega (arith, b.0, b.1)

pub slice_bounds-append_pair-end-2 : goal.slice_bounds-append_pair-end-2
slice_bounds-append_pair-end-2 c = let b = both c.requires.0 c.requires.1 c.requires.2 in
    omega (arith, b.0, b.1)

pub append_pair-requires : goal.append_pair-requires
append_pair-requires c = let g = c.args in
    let e = (walk_placed c.requires.0 c.requires.1).corners in
    let f = (walk_placed c.requires.0 c.requires.2).corners in (
      walk_ready c.requires.0 c.requires.1,
      walk_ready c.requires.0 c.requires.2,
      subst (λ l. RoomAfter l g.out.now g.at) (sym (ap₂ merged_of e f)) c.requires.3,
    )

pub returns : goal.returns
returns c = let g = c.args in
    let e = (walk_placed c.requires.0 c.requires.1).corners in
    let f = (walk_placed c.requires.0 c.requires.2).corners in
    put_equal (ap₂ merged_of e f) c.append_pair.ensures
