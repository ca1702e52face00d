-- `table_read::read_fault` meets its contract: the code's tests are the definition's, in its order.
-- Assumes nothing.
use mathlib.Core.Path.{◌≡◌, sym, ◌∙◌, ap}
use mathlib.Core.Bool.{Bool}
use mathlib.Core.List.{List, map}
use Prim.Native.Nat.{ℕ, ◌+◌}
use native.Mathlib.Omega.{arith}
use lib.ListN.{drop}
use Rattle.corners.specs.Corners.{off_range}
use Rattle.corners.proofs.Corners.{length_points}
use Rattle.table.specs.Stored.{words_of, word_at, signed, stored_corners}
use Rattle.table.proofs.StoredForm.{sized, whole_bytes}
use Rattle.table_read.proofs.Reading.{fault_7, fault_2, fault_22, fault_21, no_fault_read}
use Rattle.table_read.proofs.read_fault.Goals as goal

-- what `stored_off_range` tells of the numbers
ranged : (bytes : List ℕ) {p : ℕ} {r : Bool} → p ≡ word_at bytes 0 → r ≡ off_range (map signed (drop (p + 3) (words_of bytes))) → off_range (stored_corners bytes) ≡ r
ranged bytes e f = sym (f ∙ ap (λ k. off_range (map signed (drop (k + 3) (words_of bytes)))) e)

pub returns-then-stored_broken : goal.returns-then-stored_broken
returns-then-stored_broken c = sym (fault_7 _ _ _ (sym c.stored_broken.ensures ∙ c.if-stored_broken.true))

pub word_at-parts-requires : goal.word_at-parts-requires
word_at-parts-requires c = omega (arith, sized _ (whole_bytes _ (sym c.stored_broken.ensures ∙ c.if-stored_broken.false)).0)

pub word_at-count-requires : goal.word_at-count-requires
word_at-count-requires c = omega (arith, sized _ (whole_bytes _ (sym c.stored_broken.ensures ∙ c.if-stored_broken.false)).0)

pub returns-then-stored_off_range : goal.returns-then-stored_off_range
returns-then-stored_off_range c = sym (fault_2 _ _ _ (sym c.stored_broken.ensures ∙ c.if-stored_broken.false) (ranged _ c.word_at-parts.ensures c.stored_off_range.ensures ∙ c.if-stored_off_range.true))

pub returns-then-starts-parts : goal.returns-then-starts-parts
returns-then-starts-parts c = let h = sym c.stored_broken.ensures ∙ c.if-stored_broken.false in
    let w = whole_bytes _ h in
    sym (fault_22 _ _ _ h w.0 w.1 (ranged _ c.word_at-parts.ensures c.stored_off_range.ensures ∙ c.if-stored_off_range.false) (omega (arith, c.if-starts-parts.true, c.word_at-parts.ensures)))

pub returns-then-corner_count-count : goal.returns-then-corner_count-count
returns-then-corner_count-count c = let h = sym c.stored_broken.ensures ∙ c.if-stored_broken.false in
    let w = whole_bytes _ h in
    sym (fault_21 _ _ _ h w.0 w.1 (ranged _ c.word_at-parts.ensures c.stored_off_range.ensures ∙ c.if-stored_off_range.false)
    (omega (arith, c.if-starts-parts.false, c.word_at-parts.ensures)) (omega (arith, c.if-corner_count-count.true, c.word_at-count.ensures, c.corner_count.ensures, length_points c.args.corners.now)))

pub returns : goal.returns
returns c = let h = sym c.stored_broken.ensures ∙ c.if-stored_broken.false in
    let w = whole_bytes _ h in
    sym (no_fault_read _ _ _ h w.0 w.1 (ranged _ c.word_at-parts.ensures c.stored_off_range.ensures ∙ c.if-stored_off_range.false)
    (omega (arith, c.if-starts-parts.false, c.word_at-parts.ensures)) (omega (arith, c.if-corner_count-count.false, c.word_at-count.ensures, c.corner_count.ensures, length_points c.args.corners.now)))
