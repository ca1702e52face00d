-- `mesh_fields::is_word` meets its contract. Assumes nothing.
use mathlib.Core.Path.{◌∙◌}
use Rattle.mesh_fields.proofs.Tests.{pointwise_same}
use Rattle.mesh_fields.proofs.is_word.Goals as goal

pub returns : goal.returns
returns c = c.eq.ensures ∙ pointwise_same c.args.entry.now c.args.word.now
