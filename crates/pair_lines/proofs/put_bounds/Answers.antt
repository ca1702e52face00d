-- `pair_lines::put_bounds` meets its contract: four pieces, one after another. Assumes nothing.
use mathlib.Core.Path.{ap}
use native.Mathlib.Omega.{arith}
use lib.ListN.{length}
use mir.Syntax.{w32}
use Rattle.integers.proofs.Bits.{kept}
use Rattle.text.specs.Text.{signed_decimal}
use Rattle.pair_lines.proofs.Pieces.{bounds_length, bounds_pieces}
use borrow.Author.Rules.{rules}
use Rattle.pair_lines.proofs.put_bounds.Goals as goal

pub put_word_signed-least_x-requires : goal.put_word_signed-least_x-requires
put_word_signed-least_x-requires c = let s = c.args.bounds in
    omega (arith, bounds_length s, ap (λ z. length (signed_decimal z)) (kept {w = w32} {z = s.min_x} (search rules)))

pub put_word_signed-greatest_x-requires : goal.put_word_signed-greatest_x-requires
put_word_signed-greatest_x-requires c = let s = c.args.bounds in
    omega (arith, bounds_length s, ap (λ z. length (signed_decimal z)) (kept {w = w32} {z = s.min_x} (search rules)), ap (λ z. length (signed_decimal z)) (kept {w = w32} {z = s.max_x} (search rules)), c.put_word_signed-least_x.ensures.after)

pub put_word_signed-least_y-requires : goal.put_word_signed-least_y-requires
put_word_signed-least_y-requires c = let s = c.args.bounds in
    omega (
      arith,
      bounds_length s,
      ap (λ z. length (signed_decimal z)) (kept {w = w32} {z = s.min_x} (search rules)),
      ap (λ z. length (signed_decimal z)) (kept {w = w32} {z = s.max_x} (search rules)),
      ap (λ z. length (signed_decimal z)) (kept {w = w32} {z = s.min_y} (search rules)),
      c.put_word_signed-least_x.ensures.after,
      c.put_word_signed-greatest_x.ensures.after,
    )

pub put_word_signed-requires : goal.put_word_signed-requires
put_word_signed-requires c = let s = c.args.bounds in
    omega (
      arith,
      bounds_length s,
      ap (λ z. length (signed_decimal z)) (kept {w = w32} {z = s.min_x} (search rules)),
      ap (λ z. length (signed_decimal z)) (kept {w = w32} {z = s.max_x} (search rules)),
      ap (λ z. length (signed_decimal z)) (kept {w = w32} {z = s.min_y} (search rules)),
      ap (λ z. length (signed_decimal z)) (kept {w = w32} {z = s.max_y} (search rules)),
      c.put_word_signed-least_x.ensures.after,
      c.put_word_signed-greatest_x.ensures.after,
      c.put_word_signed-least_y.ensures.after,
    )

pub returns : goal.returns
returns c = let s = c.args.bounds in
    bounds_pieces (kept {w = w32} {z = s.min_x} (search rules)) (kept {w = w32} {z = s.max_x} (search rules)) (kept {w = w32} {z = s.min_y} (search rules)) (kept {w = w32} {z = s.max_y} (search rules)) (omega arith)
    c.put_word_signed-least_x.ensures c.put_word_signed-greatest_x.ensures c.put_word_signed-least_y.ensures c.put_word_signed.ensures
