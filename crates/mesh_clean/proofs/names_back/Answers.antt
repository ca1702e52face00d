-- `mesh_clean::names_back` meets its contract: the side that is chosen is the one that the
-- definition tests. Assumes nothing.
use mathlib.Core.Path.{◌∙◌}
use borrow.Author.Tests.{ne_eqb}
use Rattle.mesh.specs.Rows.{row_triangle}
use Rattle.mesh_clean.proofs.Tests.{names_not, names_so}
use Rattle.mesh_clean.proofs.names_back.Goals as goal

pub returns-then-from-b : goal.returns-then-from-b
returns-then-from-b c = λ p q ea eb.
    names_so (row_triangle c.args.far) c.args.k ea eb c.packed_of-v0.ensures c.packed_of-v1.ensures c.packed_of-v2.ensures
    c.neighbor_of.ensures c.neighbor_of-2.ensures c.neighbor_of-3.ensures c.choose-last.ensures c.choose.ensures
    c.choose-from.ensures c.choose-2.ensures c.choose-to.ensures c.if-from-b.true

pub returns-else-from-b : goal.returns-else-from-b
returns-else-from-b c = λ p q ea eb.
    ne_eqb _ _ c.if-from-b.false ∙ names_not (row_triangle c.args.far) c.args.k ea eb c.packed_of-v0.ensures c.packed_of-v1.ensures c.packed_of-v2.ensures
    c.neighbor_of.ensures c.neighbor_of-2.ensures c.neighbor_of-3.ensures c.choose-last.ensures c.choose.ensures
    c.choose-from.ensures c.choose-2.ensures c.choose-to.ensures c.if-from-b.false
