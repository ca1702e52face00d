-- `table_write::write_table` meets its contract: the fault first, then the counts, the starts, the
-- numbers. Assumes nothing.
use mathlib.Core.Path.{refl, sym, ◌∙◌, ap}
use native.Mathlib.Omega.{arith}
use Rattle.corners.proofs.Corners.{length_points}
use Rattle.table.proofs.Rules.{sound}
use Rattle.faults.specs.Told.{told}
use Rattle.table_write.proofs.Writing.{writes, put_whole_length, put_table, accepted_write}
use Rattle.table_write.proofs.write_table.Goals as goal

pub overflow_sub-starts : goal.overflow_sub-starts
overflow_sub-starts c = let none = ap told c.in_default.is in
    let w = writes _ _ _ (sym c.write_fault.ensures ∙ none) in
    let t = sound _ _ w.whole in
    omega arith

pub overflow_cast-starts : goal.overflow_cast-starts
overflow_cast-starts c = let none = ap told c.in_default.is in
    let w = writes _ _ _ (sym c.write_fault.ensures ∙ none) in
    let t = sound _ _ w.whole in
    omega arith

pub put_word-requires : goal.put_word-requires
put_word-requires c = let none = ap told c.in_default.is in
    let w = writes _ _ _ (sym c.write_fault.ensures ∙ none) in
    omega arith

pub overflow_cast-count : goal.overflow_cast-count
overflow_cast-count c = let none = ap told c.in_default.is in
    let w = writes _ _ _ (sym c.write_fault.ensures ∙ none) in
    let t = sound _ _ w.whole in
    omega (arith, c.corner_count-count.ensures, length_points c.args.corners.now)

pub put_word-requires-2 : goal.put_word-requires-2
put_word-requires-2 c = let none = ap told c.in_default.is in
    let w = writes _ _ _ (sym c.write_fault.ensures ∙ none) in
    omega (arith, put_whole_length 0 _ _ (omega arith) c.put_word.ensures)

pub write_words-requires : goal.write_words-requires
write_words-requires c = let none = ap told c.in_default.is in
    let w = writes _ _ _ (sym c.write_fault.ensures ∙ none) in
    let l₁ = put_whole_length 0 _ _ (omega arith) c.put_word.ensures in
    let l₂ = put_whole_length 1 _ _ (omega arith) c.put_word-2.ensures in
    omega arith

pub write_corners-requires : goal.write_corners-requires
write_corners-requires c = let none = ap told c.in_default.is in
    let w = writes _ _ _ (sym c.write_fault.ensures ∙ none) in
    let l₁ = put_whole_length 0 _ _ (omega arith) c.put_word.ensures in
    let l₂ = put_whole_length 1 _ _ (omega arith) c.put_word-2.ensures in
    let l₃ = put_whole_length 2 _ _ (omega arith) c.write_words.ensures in
    omega arith

pub overflow_add-result-2 : goal.overflow_add-result-2
overflow_add-result-2 c = let none = ap told c.in_default.is in
    let w = writes _ _ _ (sym c.write_fault.ensures ∙ none) in
    let t = sound _ _ w.whole in
    omega arith

pub returns : goal.returns
returns c = let none = ap told c.in_default.is in
    let a = c.args in
    let w = writes _ _ _ (sym c.write_fault.ensures ∙ none) in
    let v = accepted_write a.starts.now a.corners.now a.bytes.now (sym none ∙ c.write_fault.ensures) refl
    (put_table a.starts.now a.corners.now a.bytes.now w.fits refl (c.corner_count-count.ensures ∙ length_points a.corners.now) c.put_word.ensures c.put_word-2.ensures c.write_words.ensures c.write_corners.ensures) in
    record { told = v.0; bytes = v.1 }
