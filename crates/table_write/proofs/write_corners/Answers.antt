-- `table_write::write_corners` meets its contract. The loop's invariant: the first i numbers stand
-- from word `from` on. Assumes nothing.
use mathlib.Core.Path.{refl, sym, ◌∙◌, ap}
use mathlib.Core.List.{map}
use Prim.Native.Nat.{◌+◌}
use native.Mathlib.Omega.{arith}
use lib.IntN.{pos}
use lib.ListN.{get_or, length-map, get_or-map}
use mir.Syntax.{w32}
use Rattle.integers.specs.Word.{unsigned}
use Rattle.integers.proofs.Bits.{got}
use Rattle.table_words.proofs.Places.{put_none}
use Rattle.table_write.proofs.Writing.{put_more, put_length}
use Rattle.table_write.proofs.write_corners.Goals as goal

pub loop-i-init : goal.loop-i-init
loop-i-init c = (refl, sym (put_none _))

pub loop-i-preserved : goal.loop-i-preserved
loop-i-preserved c = let i = c.loop-i.i in
    let n = length-map c.args.corners.now unsigned in
    let q = c.unsigned.ensures ∙ ap unsigned (got w32 (get_or c.args.corners.now i (pos 0)) c.unsigned-arg-1.given) ∙ sym (get_or-map unsigned c.args.corners.now i (pos 0)) in
    let e = put_more c.args.from (map unsigned c.args.corners.now) c.args.bytes.now (omega arith) (omega arith) c.loop-i.invariant.1 refl q c.put_word.ensures in
    (put_length c.args.from (map unsigned c.args.corners.now) c.args.bytes.now (i + 1) (omega arith) (omega arith) e, e)
