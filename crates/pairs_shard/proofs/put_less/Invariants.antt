-- `pairs_shard::put_less` meets its contract. The loop's invariant: the first i words, each less
-- the base, stand from word `at` on. Assumes nothing.
use mathlib.Core.Path.{◌≡◌}
use lib.ListN.{length, take}
use Rattle.table_words.specs.Place.{put_words}
use Rattle.pairs_shard.proofs.Putting.{less_words}
use Rattle.pairs_shard.proofs.put_less.Given as goal

abbrev pub invariant-loop-i : goal.invariant-loop-i
invariant-loop-i l = (length l.out ≡ length l.initial.out) × (l.out ≡ put_words l.at (take l.i (less_words l.base l.from l.count l.bytes)) l.initial.out)
