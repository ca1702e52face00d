-- `records::numbers` meets its contract: as many words as there are, and as have places. Assumes
-- nothing.
use mathlib.Core.Path.{sym, ◌∙◌, ap}
use mathlib.Core.List.{map}
use native.Mathlib.Omega.{arith}
use Rattle.integers.specs.Lists.{overlay}
use Rattle.table.specs.Stored.{signed}
use Rattle.records.specs.Record.{numbers_in}
use Rattle.records.proofs.Lists.{listed, none_listed, taken_words, length_numbers}
use Rattle.records.proofs.numbers.Goals as goal

pub returns-then-count-eq0 : goal.returns-then-count-eq0
returns-then-count-eq0 c = let s = c.args in
    none_listed _ _ (sym c.if-count-eq0.true ∙ c.readable-count.ensures.count ∙ sym (length_numbers s.bytes.now s.k _))

pub returns : goal.returns
unfolding numbers_in
returns c = let s = c.args in
    let e = c.readable-count.ensures in
    let n = sym (length_numbers s.bytes.now s.k _) in
    listed _ _ (e.count ∙ n) (omega (arith, e.count, e.few, n)) (c.read_numbers.ensures ∙ ap (λ w. overlay (map signed w) s.to.now) (taken_words s.bytes.now s.k _ e.count))
