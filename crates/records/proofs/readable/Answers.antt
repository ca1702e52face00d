-- `records::readable` meets its contract: `none_readable` and `some_readable` of Lists. Assumes
-- nothing.
use Rattle.records.proofs.Lists.{none_readable, some_readable}
use Rattle.records.proofs.readable.Goals as goal

pub returns-then-all-k : goal.returns-then-all-k
returns-then-all-k c = none_readable _ _ _ c.if-all-k.true

pub returns-else-all-k : goal.returns-else-all-k
returns-else-all-k c = some_readable _ _ _ _ c.if-all-k.false c.min.ensures c.min-else-all-k.ensures
