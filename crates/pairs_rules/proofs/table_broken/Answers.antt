-- `pairs_rules::table_broken` meets its contract: the starts are read, and judged beside the corner
-- count. Assumes nothing.
use mathlib.Core.Path.{sym, ◌∙◌, ap}
use Prim.Native.Nat.{◌+◌}
use native.Mathlib.Omega.{arith}
use lib.ListN.{take, drop}
use lib.Seq.{length-take-le}
use Rattle.integers.specs.Lists.{overlay}
use Rattle.table.specs.Stored.{words_of}
use Rattle.pairs_job.specs.Job.{starts_at}
use Rattle.pairs_job.proofs.Sizes.{count_starts}
use Rattle.pairs_rules.proofs.ByStarts.{within, by_starts, front}
use borrow.Author.Rules.{rules}
use Rattle.pairs_rules.proofs.table_broken.Goals as goal

pub returns : goal.returns
returns c = let B = c.args.bytes.now in
    let k = c.args.k in
    let n = count_starts B k c.requires.0 in
    let e = c.read_words.ensures ∙ ap (λ m. overlay (take (m + 1) (drop (k + 2) (words_of B))) _) c.word_at-parts.ensures in
    c.starts_broken.ensures
    ∙ by_starts B k c.requires.0 c.requires.1 c.word_at-count.ensures (front _ e (n ∙ ap (λ m. m + 1) (sym c.word_at-parts.ensures)))
