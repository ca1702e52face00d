-- `mesh_pair::left_end` meets its contract: no word, or the total, up to the bytes there are.
-- Assumes nothing.
use Rattle.mesh_pair.proofs.Files.{cut_none, cut_least}
use Rattle.mesh_pair.proofs.left_end.Goals as goal

pub returns-then-bytes-lt-WORD : goal.returns-then-bytes-lt-WORD
returns-then-bytes-lt-WORD c = cut_none c.if-bytes-lt-WORD.true

pub returns : goal.returns
returns c = cut_least c.word_at.ensures c.min.ensures
