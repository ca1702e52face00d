-- `split_sizes::append_part` meets its contract: joined part k lies between its starts. Assumes
-- nothing.
use mathlib.Core.Path.{sym, subst}
use native.Mathlib.Omega.{arith}
use Rattle.points.specs.Gathered.{RoomFor}
use Rattle.split.specs.Splitting.{split_contour}
use Rattle.split_centre.specs.Centre.{Summable}
use Rattle.split_sizes.proofs.Each.{starts_enough, placed, sums_fit, at_part}
use Rattle.split_sizes.proofs.append_part.Goals as goal

pub offset_bounds-begins-k : goal.offset_bounds-begins-k
offset_bounds-begins-k c = omega (arith, starts_enough c.requires.0 c.requires.1, placed c.requires.0 c.requires.1)

pub bounds-begins-k : goal.bounds-begins-k
bounds-begins-k c = omega (arith, starts_enough c.requires.0 c.requires.1, placed c.requires.0 c.requires.1)

pub offset_bounds-begins-k-2 : goal.offset_bounds-begins-k-2
offset_bounds-begins-k-2 c = omega (arith, starts_enough c.requires.0 c.requires.1, placed c.requires.0 c.requires.1)

pub bounds-begins-k-2 : goal.bounds-begins-k-2
bounds-begins-k-2 c = omega (arith, starts_enough c.requires.0 c.requires.1, placed c.requires.0 c.requires.1)

pub slice_bounds-append_split-count : goal.slice_bounds-append_split-count
slice_bounds-append_split-count c = omega (arith, starts_enough c.requires.0 c.requires.1, placed c.requires.0 c.requires.1)

pub slice_bounds-append_split-start : goal.slice_bounds-append_split-start
slice_bounds-append_split-start c = omega (arith, starts_enough c.requires.0 c.requires.1, placed c.requires.0 c.requires.1)

pub slice_bounds-append_split-end : goal.slice_bounds-append_split-end
slice_bounds-append_split-end c = omega (arith, starts_enough c.requires.0 c.requires.1, placed c.requires.0 c.requires.1)

pub append_split-requires : goal.append_split-requires
append_split-requires c = let g = c.args in
    let p = placed c.requires.0 c.requires.1 in
    (c.requires.2, subst Summable (sym p.corners) (sums_fit c.requires.0 c.requires.1), subst (λ l. RoomFor g.starts.now g.points.now g.t (split_contour g.strategy g.limit l)) (sym p.corners) c.requires.3)

pub returns : goal.returns
returns c = let g = c.args in
    at_part g.strategy g.limit (placed c.requires.0 c.requires.1).corners c.append_split.ensures
