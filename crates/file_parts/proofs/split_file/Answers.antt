-- `file_parts::split_file` meets its contract: a refusal of the header, or the parts of a file with
-- a sound one. Assumes nothing.
use mathlib.Core.Path.{refl, sym, ◌∙◌}
use native.Mathlib.Omega.{arith}
use Rattle.mesh.specs.Mesh.{max_triangles}
use Rattle.listing.proofs.File.{sound}
use Rattle.file_parts.proofs.Files.{header_left, length_first}
use borrow.Author.Rules.{rules}
use Rattle.file_parts.proofs.split_file.Goals as goal

pub returns-then-fault-ne0 : goal.returns-then-fault-ne0
returns-then-fault-ne0 c = let a = c.args in let p = header_left a.bytes.now a.starts.now a.corners.now c.header_fault-fault.ensures c.if-fault-ne0.true c.refusal.ensures in
    record { counts = p.0; starts = p.1.0; corners = p.1.1.0; within = p.1.1.1 }

pub triangle_count-n-requires : goal.triangle_count-n-requires
triangle_count-n-requires c = (sound c.args.bytes.now (sym c.header_fault-fault.ensures ∙ c.if-fault-ne0.false)).enough

pub slice_bounds-rows-end : goal.slice_bounds-rows-end
slice_bounds-rows-end c = omega (arith, c.triangle_count-n.ensures, (sound c.args.bytes.now (sym c.header_fault-fault.ensures ∙ c.if-fault-ne0.false)).few)

pub slice_bounds-split_sound-end : goal.slice_bounds-split_sound-end
slice_bounds-split_sound-end c = let n = c.triangle_count-n in
    sym (length_first max_triangles _ (omega (arith, n.ensures, (sound c.args.bytes.now (sym c.header_fault-fault.ensures ∙ c.if-fault-ne0.false)).few)))

pub split_sound-requires : goal.split_sound-requires
split_sound-requires c = let n = c.triangle_count-n in
    let e = sym c.header_fault-fault.ensures ∙ c.if-fault-ne0.false in
    record {
      header = e;
      for_rows = length_first max_triangles _ (omega (arith, n.ensures, (sound c.args.bytes.now e).few)) ∙ n.ensures;
      for_starts = search rules;
      for_corners = search rules;
    }
