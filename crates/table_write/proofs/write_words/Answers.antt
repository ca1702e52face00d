-- `table_write::write_words` meets its contract. The loop's invariant: the first i words stand from
-- word `from` on. Assumes nothing.
use mathlib.Core.Path.{refl, sym}
use Prim.Native.Nat.{◌+◌}
use native.Mathlib.Omega.{arith}
use Rattle.table_words.proofs.Places.{put_none}
use Rattle.table_write.proofs.Writing.{put_more, put_length}
use Rattle.table_write.proofs.write_words.Goals as goal

pub loop-i-init : goal.loop-i-init
loop-i-init c = (refl, sym (put_none _))

pub loop-i-preserved : goal.loop-i-preserved
loop-i-preserved c = let i = c.loop-i.i in
    let e = put_more c.args.from c.args.words.now c.args.bytes.now c.loop-i-test.true (omega arith) c.loop-i.invariant.1 refl refl c.put_word.ensures in
    (put_length c.args.from c.args.words.now c.args.bytes.now (i + 1) (omega arith) (omega arith) e, e)
