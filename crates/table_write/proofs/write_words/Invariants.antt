-- `table_write::write_words` meets its contract. The loop's invariant: the first i words stand from
-- word `from` on. Assumes nothing.
use mathlib.Core.Path.{◌≡◌}
use lib.ListN.{length, take}
use Rattle.table_words.specs.Place.{put_words}
use Rattle.table_write.proofs.write_words.Given as goal

abbrev pub invariant-loop-i : goal.invariant-loop-i
invariant-loop-i l = (length l.bytes ≡ length l.initial.bytes) × (l.bytes ≡ put_words l.from (take l.i l.words) l.initial.bytes)
