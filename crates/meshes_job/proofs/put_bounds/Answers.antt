-- `meshes_job::put_bounds` meets its contract: four words. Assumes nothing.
use mathlib.Core.Path.{◌∙◌, ap}
use mir.Syntax.{w32}
use mir.Val.{SFits}
use Rattle.integers.specs.Word.{unsigned}
use Rattle.integers.proofs.Bits.{kept}
use Rattle.meshes_job.proofs.Putting.{four_words}
use borrow.Author.Rules.{rules}
use Rattle.meshes_job.proofs.put_bounds.Goals as goal

pub returns : goal.returns
returns c = let a : SFits w32 c.args.b.min_x = search rules in
    let b : SFits w32 c.args.b.max_x = search rules in
    let d : SFits w32 c.args.b.min_y = search rules in
    let e : SFits w32 c.args.b.max_y = search rules in
    four_words c.args.k c.args.out.now
    (c.unsigned.ensures ∙ ap unsigned (kept a)) (c.unsigned-2.ensures ∙ ap unsigned (kept b)) (c.unsigned-3.ensures ∙ ap unsigned (kept d)) (c.unsigned-4.ensures ∙ ap unsigned (kept e))
    c.write_words.ensures
