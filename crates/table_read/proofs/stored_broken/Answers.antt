-- `table_read::stored_broken` meets its contract: the code's tests are the definition's. Assumes
-- nothing.
use mathlib.Core.Path.{sym, ◌∙◌}
use native.Mathlib.Omega.{arith}
use Rattle.table.proofs.StoredForm.{sized}
use Rattle.table_read.proofs.Reading.{broken_length, many_parts, many_corners, from_starts}
use Rattle.table_read.proofs.stored_broken.Goals as goal
use Rattle.table_read.proofs.stored_broken.Goals.{then-parts-gt-MAX_PARTS-via-then-parts-gt-MAX_PARTS, then-parts-gt-MAX_PARTS-via-else-parts-gt-MAX_PARTS+then-count-gt-MAX_CORNERS}

pub returns-then-length_broken : goal.returns-then-length_broken
returns-then-length_broken c = sym (broken_length _ (sym c.length_broken.ensures ∙ c.if-length_broken.true))

pub word_at-parts-requires : goal.word_at-parts-requires
word_at-parts-requires c = omega (arith, sized _ (sym c.length_broken.ensures ∙ c.if-length_broken.false))

pub word_at-count-requires : goal.word_at-count-requires
word_at-count-requires c = omega (arith, sized _ (sym c.length_broken.ensures ∙ c.if-length_broken.false))

pub returns-then-parts-gt-MAX_PARTS : goal.returns-then-parts-gt-MAX_PARTS
returns-then-parts-gt-MAX_PARTS c = elim c.then-parts-gt-MAX_PARTS.branch [
  | then-parts-gt-MAX_PARTS-via-then-parts-gt-MAX_PARTS w ↦ sym (many_parts _ (sym c.length_broken.ensures ∙ c.if-length_broken.false) (omega (arith, w.if-parts-gt-MAX_PARTS.true, c.word_at-parts.ensures)))
  | then-parts-gt-MAX_PARTS-via-else-parts-gt-MAX_PARTS+then-count-gt-MAX_CORNERS w ↦ sym (many_corners _ (sym c.length_broken.ensures ∙ c.if-length_broken.false) (omega (arith, w.if-parts-gt-MAX_PARTS.false, c.word_at-parts.ensures)) (omega (arith, w.if-count-gt-MAX_CORNERS.true, c.word_at-count.ensures)))
]

pub returns : goal.returns
returns c = from_starts _ (sym c.length_broken.ensures ∙ c.if-length_broken.false) (omega (arith, c.if-parts-gt-MAX_PARTS.false, c.word_at-parts.ensures)) (omega (arith, c.if-count-gt-MAX_CORNERS.false, c.word_at-count.ensures))
    c.word_at-count.ensures c.stored_starts_broken.ensures
