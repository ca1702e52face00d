-- `pairs_shard::put_less` meets its contract. The loop's invariant: the first i words, each less
-- the base, stand from word `at` on. Assumes nothing.
use mathlib.Core.Path.{refl, sym}
use Prim.Native.Nat.{◌+◌}
use native.Mathlib.Omega.{arith}
use Rattle.table_words.proofs.Places.{put_none}
use Rattle.table_write.proofs.Writing.{put_more, put_length}
use Rattle.pairs_shard.proofs.Putting.{less_words, length_less, less_at}
use Rattle.pairs_shard.proofs.put_less.Goals as goal

pub loop-i-init : goal.loop-i-init
loop-i-init c = (refl, sym (put_none _))

pub loop-i-preserved : goal.loop-i-preserved
loop-i-preserved c = let i = c.loop-i.i in
    let B = c.args.bytes.now in
    let n = length_less c.args.base c.args.from c.args.count B c.requires.0 in
    let ws = less_words c.args.base c.args.from c.args.count B in
    let q = less_at c.args.base c.args.from c.args.count B i (omega arith) c.word_at.ensures in
    let e = put_more c.args.at ws c.args.out.now (omega arith) (omega arith) c.loop-i.invariant.1 refl q c.put_word.ensures in
    (put_length c.args.at ws c.args.out.now (i + 1) (omega arith) (omega arith) e, e)
