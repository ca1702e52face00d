-- `table_words::read_numbers` meets its contract. The loop's invariant: the first i numbers stand
-- on the buffer's front. Assumes nothing.
use mathlib.Core.Path.{refl, sym, ◌∙◌, ap}
use Prim.Native.Nat.{◌<◌}
use native.Mathlib.Omega.{arith}
use lib.ListN.{length, drop, length-set, length-drop}
use mir.Syntax.{w32}
use Rattle.integers.proofs.Bits.{got}
use Rattle.integers.proofs.Overlay.{overlay_nil, copy_map_turn}
use Rattle.table.specs.Stored.{words_of, signed}
use Rattle.table.proofs.Words.{length_words}
use Rattle.table_words.proofs.Copies.{word_from}
use Rattle.table_words.proofs.read_numbers.Goals as goal

pub loop-i-init : goal.loop-i-init
loop-i-init c = (refl, sym (overlay_nil _))

pub loop-i-preserved : goal.loop-i-preserved
loop-i-preserved c = let s = c.args in
    let n : c.loop-i.i < length (drop s.from (words_of s.bytes.now)) = omega (arith, length-drop s.from (words_of s.bytes.now), length_words s.bytes.now) in (
      simp length-set c.loop-i.invariant.0,
      copy_map_turn signed (drop s.from (words_of s.bytes.now)) s.to.now 0 n (omega arith) c.loop-i.invariant.1
          (got w32 _ c.signed_word.type_inv ∙ c.signed_word.ensures
          ∙ ap signed (c.word_at.ensures ∙ word_from s.bytes.now s.from c.loop-i.i refl)),
    )
