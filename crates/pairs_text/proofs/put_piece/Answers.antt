-- `pairs_text::put_piece` meets its contract: the first piece, or the line of the pair that has its
-- number. Assumes nothing.
use Rattle.text.proofs.Puts.{put_as}
use Rattle.pairs_text.proofs.Fitting.{piece_first, piece_line, puttable}
use Rattle.pairs_text.proofs.put_piece.Goals as goal

pub returns-then-k-eq0 : goal.returns-then-k-eq0
returns-then-k-eq0 c = let g = c.args in
    put_as (piece_first g.begun g.firsts.now g.points.now c.if-k-eq0.true) c.put_first.ensures

pub put_line-requires : goal.put_line-requires
put_line-requires c = let g = c.args in
    puttable g.begun g.firsts.now g.points.now c.requires c.if-k-eq0.false

pub returns : goal.returns
returns c = let g = c.args in
    put_as (piece_line g.begun g.firsts.now g.points.now g.k c.if-k-eq0.false c.requires.inside) c.put_line.ensures
