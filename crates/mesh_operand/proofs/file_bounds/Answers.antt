-- `mesh_operand::file_bounds` meets its contract: there are rows for any accepted file. Assumes
-- nothing.
use mathlib.Core.Path.{sym, ◌∙◌}
use native.Mathlib.Omega.{arith}
use Rattle.mesh.specs.Mesh.{max_triangles}
use Rattle.listing.proofs.File.{sound}
use Rattle.file_parts.proofs.Files.{length_first}
use Rattle.mesh_operand.proofs.Operand.{accepted_header}
use borrow.Author.Rules.{rules}
use Rattle.mesh_operand.proofs.file_bounds.Goals as goal

pub triangle_count-n-requires : goal.triangle_count-n-requires
triangle_count-n-requires c = (sound c.args.bytes.now (accepted_header c.args.bytes.now c.requires)).enough

pub slice_bounds-rows-end : goal.slice_bounds-rows-end
slice_bounds-rows-end c = omega (arith, c.triangle_count-n.ensures, (sound c.args.bytes.now (accepted_header c.args.bytes.now c.requires)).few)

pub slice_bounds-bounds_within-end : goal.slice_bounds-bounds_within-end
slice_bounds-bounds_within-end c = let n = c.triangle_count-n in
    sym (length_first max_triangles _ (omega (arith, n.ensures, (sound c.args.bytes.now (accepted_header c.args.bytes.now c.requires)).few)))

pub bounds_within-requires : goal.bounds_within-requires
bounds_within-requires c = let n = c.triangle_count-n in
    record {
      accepted = c.requires;
      for_rows = length_first max_triangles _ (omega (arith, n.ensures, (sound c.args.bytes.now (accepted_header c.args.bytes.now c.requires)).few)) ∙ n.ensures;
    }
