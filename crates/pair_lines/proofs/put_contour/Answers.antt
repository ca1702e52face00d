-- `pair_lines::put_contour` meets its contract: five pieces, one after another. Assumes nothing.
use mathlib.Core.Path.{ap}
use native.Mathlib.Omega.{arith}
use lib.ListN.{length}
use Rattle.corners.specs.Corners.{points_of}
use Rattle.text.specs.Text.{decimal}
use Rattle.pair_lines.proofs.Pieces.{line_length, line_pieces}
use borrow.Author.Rules.{rules}
use Rattle.pair_lines.proofs.put_contour.Goals as goal

pub put_decimal-left-requires : goal.put_decimal-left-requires
put_decimal-left-requires c = let s = c.args in
    omega (arith, line_length s.i s.j (points_of s.corners.now))

pub put_word_decimal-right-requires : goal.put_word_decimal-right-requires
put_word_decimal-right-requires c = let s = c.args in
    omega (arith, line_length s.i s.j (points_of s.corners.now), c.put_decimal-left.ensures.after)

pub put_word_decimal-size-requires : goal.put_word_decimal-size-requires
put_word_decimal-size-requires c = let s = c.args in
    omega (arith, line_length s.i s.j (points_of s.corners.now), ap (λ n. length (decimal n)) c.corner_count-count.ensures, c.put_decimal-left.ensures.after, c.put_word_decimal-right.ensures.after)

pub put_corners-after-requires : goal.put_corners-after-requires
put_corners-after-requires c = let s = c.args in
    omega (
      arith,
      line_length s.i s.j (points_of s.corners.now),
      ap (λ n. length (decimal n)) c.corner_count-count.ensures,
      c.put_decimal-left.ensures.after,
      c.put_word_decimal-right.ensures.after,
      c.put_word_decimal-size.ensures.after,
    )

pub put_bytes-requires : goal.put_bytes-requires
put_bytes-requires c = let s = c.args in
    omega (
      arith,
      line_length s.i s.j (points_of s.corners.now),
      ap (λ n. length (decimal n)) c.corner_count-count.ensures,
      c.put_decimal-left.ensures.after,
      c.put_word_decimal-right.ensures.after,
      c.put_word_decimal-size.ensures.after,
      c.put_corners-after.ensures.after,
    )

pub returns : goal.returns
returns c = let s = c.args in
    line_pieces s.i s.j s.corners.now c.corner_count-count.ensures c.put_decimal-left.ensures c.put_word_decimal-right.ensures c.put_word_decimal-size.ensures
    c.put_corners-after.ensures c.put_bytes.ensures
