-- `mesh_file::row_at` meets its contract: nine numbers, one after another. Assumes nothing.
use mathlib.Core.Path.{◌∙◌}
use mir.Syntax.{w32}
use Rattle.integers.proofs.Bits.{got}
use Rattle.table.specs.Stored.{words_of}
use Rattle.mesh_file.proofs.Records.{row_record}
use Rattle.mesh_file.proofs.row_at.Goals as goal

pub returns : goal.returns
returns c = row_record (words_of c.args.bytes.now) _
    (got w32 _ c.number_at.type_inv ∙ c.number_at.ensures.number)
    (got w32 _ c.number_at-2.type_inv ∙ c.number_at-2.ensures.number)
    (got w32 _ c.number_at-3.type_inv ∙ c.number_at-3.ensures.number)
    (got w32 _ c.number_at-4.type_inv ∙ c.number_at-4.ensures.number)
    (got w32 _ c.number_at-5.type_inv ∙ c.number_at-5.ensures.number)
    (got w32 _ c.number_at-6.type_inv ∙ c.number_at-6.ensures.number)
    (got w32 c.number_at-7.result c.number_at-7.type_inv) c.number_at-7.ensures.word
    (got w32 c.number_at-8.result c.number_at-8.type_inv) c.number_at-8.ensures.word
    (got w32 c.number_at-9.result c.number_at-9.type_inv) c.number_at-9.ensures.word
