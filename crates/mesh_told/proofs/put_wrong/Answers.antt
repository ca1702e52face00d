-- `mesh_told::put_wrong` meets its contract: one piece after another. Assumes nothing.
use native.Mathlib.Omega.{arith}
use Rattle.text.proofs.Sizes.{decimal_size}
use Rattle.mesh_told.proofs.Telling.{line_told, end_told}
use Rattle.mesh_told.proofs.put_wrong.Goals as goal

pub put_word_decimal-named-requires : goal.put_word_decimal-named-requires
put_word_decimal-named-requires c = omega (arith, decimal_size c.args.number)

pub put_bytes-at-requires : goal.put_bytes-at-requires
put_bytes-at-requires c = omega (arith, decimal_size c.args.number, c.put_word_decimal-named.ensures.after)

pub put_said-requires : goal.put_said-requires
put_said-requires c = omega (arith, decimal_size c.args.number, c.put_word_decimal-named.ensures.after, c.put_bytes-at.ensures.after)

pub returns-then-found : goal.returns-then-found
returns-then-found c = let g = c.args in
    line_told c.find-found.ensures c.put_word_decimal-named.ensures c.put_bytes-at.ensures c.if-found.true
    c.put_said.ensures

pub put_bytes-requires : goal.put_bytes-requires
put_bytes-requires c = omega (arith, decimal_size c.args.number, c.put_word_decimal-named.ensures.after, c.put_bytes-at.ensures.after)

pub returns : goal.returns
returns c = let g = c.args in
    end_told c.find-found.ensures c.put_word_decimal-named.ensures c.put_bytes-at.ensures c.if-found.false
    c.put_bytes.ensures
