-- `pairs_job::right_place` meets its contract: past the left table and four bounds. Assumes
-- nothing.
use mathlib.Core.Path.{◌∙◌, sym, ap}
use Prim.Native.Nat.{◌+◌}
use Rattle.pairs_job.proofs.Sizes.{place}
use Rattle.pairs_job.proofs.right_place.Goals as goal

pub returns-clause-place : goal.returns-clause-place
returns-clause-place c = ap (λ n. 5 + n + 4) c.table_size.ensures.size ∙ sym (place _)
