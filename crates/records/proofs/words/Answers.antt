-- `records::words` meets its contract: as many words as there are, and as have places. Assumes
-- nothing.
use mathlib.Core.Path.{sym, ◌∙◌, ap}
use native.Mathlib.Omega.{arith}
use Rattle.integers.specs.Lists.{overlay}
use Rattle.records.proofs.Lists.{listed, none_listed, taken_words}
use Rattle.records.proofs.words.Goals as goal

pub returns-then-count-eq0 : goal.returns-then-count-eq0
returns-then-count-eq0 c = none_listed _ _ (sym c.if-count-eq0.true ∙ c.readable-count.ensures.count)

pub returns : goal.returns
returns c = let s = c.args in
    let e = c.readable-count.ensures in
    listed _ _ e.count (omega (arith, e.count, e.few)) (c.read_words.ensures ∙ ap (λ w. overlay w s.to.now) (taken_words s.bytes.now s.k _ e.count))
