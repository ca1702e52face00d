-- `measure::told` meets its contract: a high word leaves 64 bits; without one the low word is the
-- size. Assumes nothing.
use mathlib.Core.Path.{sym, ◌∙◌, ap}
use native.Mathlib.Omega.{arith}
use mir.Syntax.{w64}
use mir.ValLaws.{to_z_pos}
use Rattle.measure.specs.Measured.{area_told}
use Rattle.measure.proofs.Answers.{above_told, above_refused, high_refused, value_above}
use Rattle.measure.proofs.told.Goals as goal

pub returns-then-words-ne0 : goal.returns-then-words-ne0
returns-then-words-ne0 c = c.refused.ensures ∙ high_refused c.args.total c.if-words-ne0.true

pub returns-then-words-ge-LARGEST_BELOW : goal.returns-then-words-ge-LARGEST_BELOW
returns-then-words-ge-LARGEST_BELOW c = let t = c.args.total in
    c.refused-then-words-ge-LARGEST_BELOW.ensures ∙ above_refused (omega (arith, c.if-words-ge-LARGEST_BELOW.true)) ∙ ap area_told (sym (value_above c.if-words-ne0.false c.if-total.false))

pub returns : goal.returns
returns c = let t = c.args.total in
    above_told (omega (arith, c.if-words-ge-LARGEST_BELOW.false)) (to_z_pos w64 t.words.low (omega (arith, c.if-words-ge-LARGEST_BELOW.false))) ∙ ap area_told (sym (value_above c.if-words-ne0.false c.if-total.false))
