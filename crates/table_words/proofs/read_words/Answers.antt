-- `table_words::read_words` meets its contract. The loop's invariant: the first i words stand on
-- the buffer's front. Assumes nothing.
use mathlib.Core.Path.{refl, sym, ◌∙◌}
use Prim.Native.Nat.{◌<◌}
use native.Mathlib.Omega.{arith}
use lib.ListN.{length, drop, length-set, length-drop}
use Rattle.integers.proofs.Overlay.{overlay_nil, copy_turn}
use Rattle.table.specs.Stored.{words_of}
use Rattle.table.proofs.Words.{length_words}
use Rattle.table_words.proofs.Copies.{word_from}
use Rattle.table_words.proofs.read_words.Goals as goal

pub loop-i-init : goal.loop-i-init
loop-i-init c = (refl, sym (overlay_nil _))

pub loop-i-preserved : goal.loop-i-preserved
loop-i-preserved c = let s = c.args in
    let n : c.loop-i.i < length (drop s.from (words_of s.bytes.now)) = omega (arith, length-drop s.from (words_of s.bytes.now), length_words s.bytes.now) in (
      simp length-set c.loop-i.invariant.0,
      copy_turn (drop s.from (words_of s.bytes.now)) s.to.now 0 n (omega arith) c.loop-i.invariant.1
          (c.word_at.ensures ∙ word_from s.bytes.now s.from c.loop-i.i refl),
    )
