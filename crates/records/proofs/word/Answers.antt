-- `records::word` meets its contract: past the last word there is none. Assumes nothing.
use mathlib.Core.Path.{sym}
use native.Mathlib.Omega.{arith}
use lib.ListN.{get_or-eq_default}
use Rattle.table.specs.Stored.{words_of}
use Rattle.table.proofs.Words.{length_words}
use Rattle.records.proofs.word.Goals as goal

pub returns-then-bytes-k : goal.returns-then-bytes-k
returns-then-bytes-k c = let s = c.args in
    sym (get_or-eq_default (words_of s.bytes.now) 0 (omega (arith, length_words s.bytes.now)))
