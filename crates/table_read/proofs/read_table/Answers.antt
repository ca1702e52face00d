-- `table_read::read_table` meets its contract: the fault first, then the two copies. Assumes
-- nothing.
use mathlib.Core.Path.{refl, sym, ◌∙◌, ap}
use native.Mathlib.Omega.{arith}
use Rattle.table.proofs.StoredForm.{sized, accepted}
use Rattle.faults.specs.Told.{told}
use Rattle.table_read.proofs.Reading.{room, accepted_read}
use Rattle.table_read.proofs.read_table.Goals as goal

pub word_at-parts-requires : goal.word_at-parts-requires
word_at-parts-requires c = let none = ap told c.in_default.is in
    omega (arith, sized _ (accepted _ _ _ (sym c.read_fault.ensures ∙ none)).sized_right)

pub word_at-count-requires : goal.word_at-count-requires
word_at-count-requires c = let none = ap told c.in_default.is in
    omega (arith, sized _ (accepted _ _ _ (sym c.read_fault.ensures ∙ none)).sized_right)

pub read_words-requires : goal.read_words-requires
read_words-requires c = let none = ap told c.in_default.is in
    let r = room (sym c.read_fault.ensures ∙ none) c.word_at-parts.ensures c.word_at-count.ensures in
    (r.starts_lie, r.starts_fit)

pub read_numbers-requires : goal.read_numbers-requires
read_numbers-requires c = let none = ap told c.in_default.is in
    let r = room (sym c.read_fault.ensures ∙ none) c.word_at-parts.ensures c.word_at-count.ensures in
    (r.corners_lie, r.corners_fit)

pub returns : goal.returns
returns c = let none = ap told c.in_default.is in
    let s = c.args in
    let r = accepted_read s.bytes.now s.starts.now s.corners.now (sym none ∙ c.read_fault.ensures) refl c.word_at-parts.ensures c.word_at-count.ensures c.read_words.ensures c.read_numbers.ensures in
    record { told = r.0; starts = r.1; corners = r.2 }
