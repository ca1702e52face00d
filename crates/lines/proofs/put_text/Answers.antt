-- `lines::put_text` meets its contract: `refused` and `answered` of Texts. Assumes nothing.
use native.Mathlib.Omega.{arith}
use Rattle.text.proofs.Fewest.{decimal_put}
use Rattle.lines.proofs.Texts.{refused, answered}
use Rattle.lines.proofs.put_text.Goals as goal

pub returns-then-out-name-2 : goal.returns-then-out-name-2
returns-then-out-name-2 c = let s = c.args in
    let d = c.decimal-places in
    refused s.name.now s.end.now s.out.now s.n d.result (decimal_put (omega arith) d.ensures.in_bounds.1 d.ensures.len d.ensures.digits).1 (omega arith)

pub returns-then-out-after : goal.returns-then-out-after
returns-then-out-after c = let s = c.args in
    let d = c.decimal-places in
    refused s.name.now s.end.now s.out.now s.n d.result (decimal_put (omega arith) d.ensures.in_bounds.1 d.ensures.len d.ensures.digits).1 (omega arith)

pub returns : goal.returns
returns c = let s = c.args in
    let d = c.decimal-places in
    let p = decimal_put (omega arith) d.ensures.in_bounds.1 d.ensures.len d.ensures.digits in
    answered s.name.now s.end.now s.out.now s.n d.result p.1 p.0 (omega arith) c.put_bytes-named.ensures c.put_bytes-numbered.ensures c.put_bytes.ensures
