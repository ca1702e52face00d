-- `meshes_place::put_placed` meets its contract: the answer's text on the front of the lent bytes.
-- Assumes nothing.
use mathlib.Core.Path.{ap}
use Rattle.text.proofs.Puts.{put_as, put_whole}
use Rattle.meshes_place.specs.Placed.{answer_text}
use borrow.Author.Rules.{rules}
use Rattle.meshes_place.proofs.put_placed.Goals as goal

pub returns : goal.returns
returns c = let w = put_whole (put_as (ap answer_text c.placed.ensures) c.put_answer.ensures.text) in
    record { size = w.0; text = w.1; counted = c.put_answer.ensures.counted }
