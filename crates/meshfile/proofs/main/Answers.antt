-- `meshfile::main` meets its contract: what was written stands in the lent bytes. Assumes nothing.
use mathlib.Core.Path.{refl, sym}
use borrow.Author.Rules.{rules}
use lib.Seq.{length-take-le}
use Rattle.mesh_text.proofs.Accepted.{written_within}
use Rattle.meshfile.proofs.main.Goals as goal

pub slice_bounds-file-end : goal.slice_bounds-file-end
slice_bounds-file-end c = let f = c.to_mesh_file-told.ensures in
    written_within _ _ refl f.told f.bytes c.in-Ok.is

pub slice_bounds-write_output-end : goal.slice_bounds-write_output-end
slice_bounds-write_output-end c = let f = c.to_mesh_file-told.ensures in
    sym (length-take-le _ _ (written_within _ _ refl f.told f.bytes c.in-Ok.is))
