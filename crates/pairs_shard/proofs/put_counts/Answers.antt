-- `pairs_shard::put_counts` meets its contract: the first five words, two counts and the starts,
-- one after another. Assumes nothing.
use mathlib.Core.Path.{refl, sym, ap}
use Prim.Native.Nat.{◌+◌, ◌-◌}
use native.Mathlib.Omega.{arith}
use borrow.Author.Rules.{rules}
use lib.Seq.{length-take-le}
use Rattle.pairs_shard.specs.Shard.{start_at}
use Rattle.pairs_shard.proofs.Known.{known, at_least}
use Rattle.pairs_shard.proofs.Putting.{less_words, length_less, counts_put}
use Rattle.pairs_shard.proofs.put_counts.Goals as goal

pub overflow_add-first : goal.overflow_add-first
overflow_add-first c = let k = known _ _ _ c.requires.0 in
    omega arith

pub word_at-base-requires : goal.word_at-base-requires
word_at-base-requires c = let k = known _ _ _ c.requires.0 in
    omega arith

pub overflow_add-past : goal.overflow_add-past
overflow_add-past c = let k = known _ _ _ c.requires.0 in
    omega arith

pub word_at-end-requires : goal.word_at-end-requires
word_at-end-requires c = let k = known _ _ _ c.requires.0 in
    omega arith

pub slice_bounds-put_bytes-end : goal.slice_bounds-put_bytes-end
slice_bounds-put_bytes-end c = let k = known _ _ _ c.requires.0 in
    sym (length-take-le 20 c.args.bytes.now (omega arith))

pub overflow_cast-past : goal.overflow_cast-past
overflow_cast-past c = let k = known _ _ _ c.requires.0 in
    omega arith

pub overflow_sub-end : goal.overflow_sub-end
overflow_sub-end c = let k = known _ _ _ c.requires.0 in
    omega (arith, c.word_at-end.ensures, c.word_at-base.ensures)

pub overflow_add-first-2 : goal.overflow_add-first-2
overflow_add-first-2 c = let k = known _ _ _ c.requires.0 in
    omega arith

pub overflow_add-past-2 : goal.overflow_add-past-2
overflow_add-past-2 c = let k = known _ _ _ c.requires.0 in
    omega arith

pub put_less-requires : goal.put_less-requires
put_less-requires c = let k = known _ _ _ c.requires.0 in
    (omega arith, search rules, at_least _ _ _ c.requires.0 c.word_at-base.ensures)

pub overflow_add-result-2 : goal.overflow_add-result-2
overflow_add-result-2 c = let k = known _ _ _ c.requires.0 in
    omega arith

pub overflow_mul-result : goal.overflow_mul-result
overflow_mul-result c = let k = known _ _ _ c.requires.0 in
    omega arith

pub returns : goal.returns
returns c = let B = c.args.bytes.now in
    let f = c.args.first in
    let n = c.args.past - c.args.first + 1 in
    let k = known _ _ _ c.requires.0 in
    let m = length_less (start_at B f) (7 + f) n B (omega arith) in
    counts_put (length-take-le 20 B (omega arith)) (omega (arith, m, c.requires.1)) c.put_bytes.ensures refl
    (λ i. c.word_at-end.ensures i - c.word_at-base.ensures i) (ap (λ a. less_words a (7 + f) n B) c.word_at-base.ensures) c.put_word.ensures c.put_word-2.ensures
    c.put_less.ensures (omega (arith, m))
