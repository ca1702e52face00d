-- `table_write::write_corners` meets its contract. The loop's invariant: the first i numbers stand
-- from word `from` on. Assumes nothing.
use mathlib.Core.Path.{◌≡◌}
use mathlib.Core.List.{map}
use lib.ListN.{length, take}
use Rattle.integers.specs.Word.{unsigned}
use Rattle.table_words.specs.Place.{put_words}
use Rattle.table_write.proofs.write_corners.Given as goal

abbrev pub invariant-loop-i : goal.invariant-loop-i
invariant-loop-i l = (length l.bytes ≡ length l.initial.bytes) × (l.bytes ≡ put_words l.from (take l.i (map unsigned l.corners)) l.initial.bytes)
