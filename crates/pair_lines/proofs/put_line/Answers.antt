-- `pair_lines::put_line` meets its contract: the merge of left walk p and right walk q on the front
-- of the work buffer. Assumes nothing.
use mathlib.Core.Path.{refl, ◌∙◌, ap}
use native.Mathlib.Omega.{arith}
use lib.ListN.{length}
use Rattle.corners.specs.Corners.{points_of}
use Rattle.text.proofs.Puts.{put_as}
use Rattle.pair_lines.specs.Lines.{pair_line}
use Rattle.pair_lines.proofs.Pairs.{merged_front, pair_inside, pair_room}
use borrow.Author.Rules.{rules}
use Rattle.pair_lines.proofs.put_line.Goals as goal

pub front-requires : goal.front-requires
front-requires c = let g = c.args in
    pair_inside g.firsts.now g.points.now g.numbers.now g.left g.right g.p g.q g.work.now g.out.now c.requires c.merge_pair-count.ensures refl

pub put_contour-requires : goal.put_contour-requires
put_contour-requires c = let g = c.args in
    let e = ap points_of c.front.ensures.numbers ∙ merged_front c.merge_pair-count.ensures in
    omega (arith, ap (λ ps. length (pair_line g.p g.q ps)) e, pair_room g.firsts.now g.points.now g.numbers.now g.left g.right g.p g.q g.work.now g.out.now c.requires)

pub returns : goal.returns
returns c = let g = c.args in
    let e = ap points_of c.front.ensures.numbers ∙ merged_front c.merge_pair-count.ensures in
    put_as (ap (pair_line g.p g.q) e) c.put_contour.ensures
