-- `text::put_corner` meets its contract: three pieces, one after another. Assumes nothing.
use native.Mathlib.Omega.{arith}
use mir.Syntax.{w32}
use Rattle.integers.proofs.Bits.{kept}
use Rattle.text.proofs.Signed.{corner_length, corner_pieces}
use borrow.Author.Rules.{rules}
use Rattle.text.proofs.put_corner.Goals as goal

pub put_word_signed-first-requires : goal.put_word_signed-first-requires
put_word_signed-first-requires c = let p = c.args.p in omega (arith, corner_length (kept {w = w32} {z = p.x} (search rules)) (kept {w = w32} {z = p.y} (search rules)))

pub put_word_signed-second-requires : goal.put_word_signed-second-requires
put_word_signed-second-requires c = let p = c.args.p in omega (arith, corner_length (kept {w = w32} {z = p.x} (search rules)) (kept {w = w32} {z = p.y} (search rules)), c.put_word_signed-first.ensures.after)

pub put_bytes-requires : goal.put_bytes-requires
put_bytes-requires c = let p = c.args.p in
    omega (arith, corner_length (kept {w = w32} {z = p.x} (search rules)) (kept {w = w32} {z = p.y} (search rules)), c.put_word_signed-first.ensures.after, c.put_word_signed-second.ensures.after)

pub returns : goal.returns
returns c = let p = c.args.p in
    corner_pieces (kept {w = w32} {z = p.x} (search rules)) (kept {w = w32} {z = p.y} (search rules)) (omega arith) c.put_word_signed-first.ensures c.put_word_signed-second.ensures c.put_bytes.ensures
