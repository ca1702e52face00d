-- `mesh_file::header_broken` meets its contract: the code's tests are the definition's, in its
-- order. Assumes nothing.
use mathlib.Core.Path.{sym, ◌∙◌}
use borrow.Author.Tests.{ltb-true, ltb-false, eqb-true, eqb-false, not-true, not-false, both_ways}
use Rattle.mesh_file.proofs.Header.{other_offset, other_split, other_total, by_length}
use Rattle.mesh_file.proofs.header_broken.Goals.{then-word_at-ne-HEADER, else-word_at-ne-HEADER, then-word_at-gt-LAST_SPLIT, else-word_at-gt-LAST_SPLIT}
use Rattle.mesh_file.proofs.header_broken.Goals as goal

pub returns-then-total-triangle_count : goal.returns-then-total-triangle_count
returns-then-total-triangle_count c = c.if-total-triangle_count.true ∙ elim c.if-word_at-gt-LAST_SPLIT.branch [
  | then-word_at-gt-LAST_SPLIT w ↦ elim c.if-word_at-ne-HEADER.branch [
    | then-word_at-ne-HEADER v ↦ other_offset _ c.word_at.ensures v.if-word_at-ne-HEADER.true
    | else-word_at-ne-HEADER v ↦ other_split _ c.word_at.ensures v.if-word_at-ne-HEADER.false v.word_at-else-word_at-ne-HEADER.ensures (ltb-true _ _ (sym v.value-is ∙ w.if-word_at-gt-LAST_SPLIT.true))
  ]
  | else-word_at-gt-LAST_SPLIT w ↦ elim c.if-word_at-ne-HEADER.branch [
    | then-word_at-ne-HEADER v ↦ absurd (v.if-word_at-ne-HEADER.true (eqb-true _ _ (not-false _ (sym v.value-is ∙ w.if-word_at-gt-LAST_SPLIT.false))))
    | else-word_at-ne-HEADER v ↦ other_total _ c.word_at.ensures v.if-word_at-ne-HEADER.false v.word_at-else-word_at-ne-HEADER.ensures (ltb-false _ _ (sym v.value-is ∙ w.if-word_at-gt-LAST_SPLIT.false))
        c.word_at-total.ensures w.triangle_count.ensures (eqb-false _ _ (not-true _ (sym w.value-is ∙ c.if-total-triangle_count.true)))
  ]
]

pub returns-else-total-triangle_count : goal.returns-else-total-triangle_count
returns-else-total-triangle_count c = elim c.if-word_at-gt-LAST_SPLIT.branch [
  | then-word_at-gt-LAST_SPLIT w ↦ absurd (both_ways _ (sym w.value-is ∙ c.if-total-triangle_count.false) w.if-word_at-gt-LAST_SPLIT.true)
  | else-word_at-gt-LAST_SPLIT w ↦ elim c.if-word_at-ne-HEADER.branch [
    | then-word_at-ne-HEADER v ↦ absurd (v.if-word_at-ne-HEADER.true (eqb-true _ _ (not-false _ (sym v.value-is ∙ w.if-word_at-gt-LAST_SPLIT.false))))
    | else-word_at-ne-HEADER v ↦ by_length _ c.word_at.ensures v.if-word_at-ne-HEADER.false v.word_at-else-word_at-ne-HEADER.ensures (ltb-false _ _ (sym v.value-is ∙ w.if-word_at-gt-LAST_SPLIT.false))
        c.word_at-total.ensures w.triangle_count.ensures (eqb-true _ _ (not-false _ (sym w.value-is ∙ c.if-total-triangle_count.false)))
  ]
]
