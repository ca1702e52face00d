-- `pairs_job::shape_fault` meets its contract: the kinds in their order. Assumes nothing.
use mathlib.Core.Path.{sym, ◌∙◌}
use native.Mathlib.Omega.{arith}
use Rattle.pairs_job.proofs.Sizes.{sized}
use Rattle.pairs_job.proofs.Shape.{too_short, other_operation, other_length, left_inside, left_counts, right_counts, well_shaped}
use Rattle.pairs_job.proofs.shape_fault.Goals as goal

pub returns-then-bytes-lt-WORD : goal.returns-then-bytes-lt-WORD
returns-then-bytes-lt-WORD c = too_short _ c.if-bytes-lt-WORD.true

pub returns-then-word_at-gt-DIFFERENCE : goal.returns-then-word_at-gt-DIFFERENCE
returns-then-word_at-gt-DIFFERENCE c = other_operation _ c.if-bytes-lt-WORD.false c.word_at.ensures c.if-word_at-gt-DIFFERENCE.true

pub returns-then-length_broken : goal.returns-then-length_broken
returns-then-length_broken c = other_length _ c.if-bytes-lt-WORD.false c.word_at.ensures c.if-word_at-gt-DIFFERENCE.false (sym c.length_broken.ensures ∙ c.if-length_broken.true)

pub counts_broken-requires : goal.counts_broken-requires
counts_broken-requires c = let l = sym c.length_broken.ensures ∙ c.if-length_broken.false in
    omega (arith, left_inside _ l)

pub returns-then-counts_broken : goal.returns-then-counts_broken
returns-then-counts_broken c = left_counts _ c.if-bytes-lt-WORD.false c.word_at.ensures c.if-word_at-gt-DIFFERENCE.false (sym c.length_broken.ensures ∙ c.if-length_broken.false) (sym c.counts_broken.ensures ∙ c.if-counts_broken.true)

pub right_place-requires : goal.right_place-requires
right_place-requires c = omega (arith, left_inside _ (sym c.length_broken.ensures ∙ c.if-length_broken.false))

pub counts_broken-requires-2 : goal.counts_broken-requires-2
counts_broken-requires-2 c = omega (arith, sized _ (sym c.length_broken.ensures ∙ c.if-length_broken.false), c.right_place.ensures.place)

pub returns-then-counts_broken-2 : goal.returns-then-counts_broken-2
returns-then-counts_broken-2 c = right_counts _ c.if-bytes-lt-WORD.false c.word_at.ensures c.if-word_at-gt-DIFFERENCE.false (sym c.length_broken.ensures ∙ c.if-length_broken.false) (sym c.counts_broken.ensures ∙ c.if-counts_broken.false) c.right_place.ensures.place (sym c.counts_broken-2.ensures ∙ c.if-counts_broken-2.true)

pub returns : goal.returns
returns c = well_shaped _ c.if-bytes-lt-WORD.false c.word_at.ensures c.if-word_at-gt-DIFFERENCE.false (sym c.length_broken.ensures ∙ c.if-length_broken.false) (sym c.counts_broken.ensures ∙ c.if-counts_broken.false) c.right_place.ensures.place (sym c.counts_broken-2.ensures ∙ c.if-counts_broken-2.false)
