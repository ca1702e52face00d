-- `mesh::neighbor_of` meets its contract. Assumes nothing.
use mathlib.Core.Path.{sym, ◌∙◌, ap}
use Prim.Native.Nat.{◌+◌}
use mir.Syntax.{w32}
use Rattle.integers.specs.Word.{unsigned}
use Rattle.integers.proofs.Bits.{kept}
use Rattle.mesh.specs.Rows.{number}
use Rattle.mesh.proofs.Rows.{neighbour_row}
use borrow.Author.Rules.{rules}
use Rattle.mesh.proofs.neighbor_of.Goals as goal

pub returns : goal.returns
returns c = let row = c.args.row in
    let i = c.args.i in
    c.unsigned.ensures ∙ ap unsigned (kept {w = w32} {z = number row (6 + i)} (search rules)) ∙ sym (neighbour_row row i c.requires)
