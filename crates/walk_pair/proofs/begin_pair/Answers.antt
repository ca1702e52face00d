-- `walk_pair::begin_pair` meets its contract: 7 and 2 of either walk, and what `pair_checked`
-- ensures. Assumes nothing.
use mathlib.Core.Path.{sym, ◌∙◌, subst}
use Rattle.walk.specs.Clauses.{PairedBy}
use Rattle.walk.proofs.Promises.{paired_by}
use Rattle.walk_pair.proofs.Pairs.{left_7, right_7, left_2, right_2}
use Rattle.walk_pair.proofs.begin_pair.Goals as goal
use Rattle.walk_pair.proofs.begin_pair.Goals.{then-length_broken-via-then-length_broken, then-length_broken-via-else-length_broken+then-length_broken-2, then-off_range-via-then-off_range, then-off_range-via-else-off_range+then-off_range-2}

pub returns-then-length_broken : goal.returns-then-length_broken
returns-then-length_broken c =
    let reflected = c.args.reflected in
    let l = c.args.left.now in
    let r = c.args.right.now in
    elim c.then-length_broken.branch [
      | then-length_broken-via-then-length_broken w ↦ subst (PairedBy reflected l r) (sym (left_7 reflected l r (sym c.length_broken.ensures ∙ w.if-length_broken.true))) (paired_by reflected l r)
      | then-length_broken-via-else-length_broken+then-length_broken-2 w ↦ subst (PairedBy reflected l r)
          (sym (right_7 reflected l r (sym c.length_broken.ensures ∙ w.if-length_broken.false) (sym w.length_broken-else-length_broken.ensures ∙ w.if-length_broken-2.true))) (paired_by reflected l r)
    ]

pub returns-then-off_range : goal.returns-then-off_range
returns-then-off_range c =
    let reflected = c.args.reflected in
    let l = c.args.left.now in
    let r = c.args.right.now in
    let left = sym c.length_broken.ensures ∙ c.if-length_broken.false in
    let right = sym c.length_broken-else-length_broken.ensures ∙ c.if-length_broken-2.false in
    elim c.then-off_range.branch [
      | then-off_range-via-then-off_range w ↦ subst (PairedBy reflected l r) (sym (left_2 reflected l r left right (sym c.off_range.ensures ∙ w.if-off_range.true))) (paired_by reflected l r)
      | then-off_range-via-else-off_range+then-off_range-2 w ↦ subst (PairedBy reflected l r)
          (sym (right_2 reflected l r left right (sym c.off_range.ensures ∙ w.if-off_range.false) (sym w.off_range-else-off_range.ensures ∙ w.if-off_range-2.true))) (paired_by reflected l r)
    ]

pub returns : goal.returns
returns c = let reflected = c.args.reflected in
    let l = c.args.left.now in
    let r = c.args.right.now in
    subst (PairedBy reflected l r) (sym c.pair_checked.ensures) (paired_by reflected l r)
