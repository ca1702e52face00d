-- `pair_lines::put_head` meets its contract: four pieces, one after another. Assumes nothing.
use native.Mathlib.Omega.{arith}
use Rattle.pair_lines.proofs.Pieces.{head_length, head_pieces}
use borrow.Author.Rules.{rules}
use Rattle.pair_lines.proofs.put_head.Goals as goal

pub put_word_decimal-first-requires : goal.put_word_decimal-first-requires
put_word_decimal-first-requires c = let s = c.args in
    omega (arith, head_length s.contours s.corners s.bounds)

pub put_word_decimal-second-requires : goal.put_word_decimal-second-requires
put_word_decimal-second-requires c = let s = c.args in
    omega (arith, head_length s.contours s.corners s.bounds, c.put_word_decimal-first.ensures.after)

pub put_bounds-third-requires : goal.put_bounds-third-requires
put_bounds-third-requires c = let s = c.args in
    omega (arith, head_length s.contours s.corners s.bounds, c.put_word_decimal-first.ensures.after, c.put_word_decimal-second.ensures.after)

pub put_bytes-requires : goal.put_bytes-requires
put_bytes-requires c = let s = c.args in
    omega (
      arith,
      head_length s.contours s.corners s.bounds,
      c.put_word_decimal-first.ensures.after,
      c.put_word_decimal-second.ensures.after,
      c.put_bounds-third.ensures.after,
    )

pub returns : goal.returns
returns c = let s = c.args in
    head_pieces s.contours s.corners s.bounds c.put_word_decimal-first.ensures c.put_word_decimal-second.ensures c.put_bounds-third.ensures
    c.put_bytes.ensures
