-- `mesh::vertex_of` meets its contract. Assumes nothing.
use mathlib.Core.Path.{sym, ◌∙◌}
use Prim.Native.Nat.{◌+◌, ◌*◌}
use borrow.Author.Rules.{rules}
use mir.Syntax.{w32}
use Rattle.integers.proofs.Bits.{kept}
use Rattle.plane.proofs.Vectors.{pt_eq}
use Rattle.mesh.specs.Rows.{number}
use Rattle.mesh.proofs.Rows.{vertex_row}
use Rattle.mesh.proofs.vertex_of.Goals as goal

pub returns : goal.returns
returns c = let row = c.args.row in
    let i = c.args.i in
    pt_eq (kept {w = w32} {z = number row (2 * i)} (search rules)) (kept {w = w32} {z = number row (2 * i + 1)} (search rules)) ∙ sym (vertex_row row i c.requires)
