-- `meshes_place::put_answer` meets its contract: a word for each answer, or the refusal, for which
-- there is room. Assumes nothing.
use mathlib.Core.Path.{sym, ◌∙◌, ap}
use native.Mathlib.Omega.{arith}
use Rattle.text.proofs.Sizes.{decimal_size}
use Rattle.text.proofs.Puts.{put_as, put_within}
use Rattle.text.proofs.Refusals.{refusal_length}
use Rattle.placement.specs.declared.Placed.TheVariants.{At}
use Rattle.meshes_place.specs.Placed.{answer_text}
use Rattle.meshes_place.proofs.Answer.{answer_size}
use borrow.Author.Rules.{rules}
use Rattle.meshes_place.proofs.put_answer.Goals as goal

pub put_refusal-requires : goal.put_refusal-requires
put_refusal-requires c = let f = c.in-Refused.fault in omega (arith, refusal_length f, decimal_size f)

pub returns-in-Apart-clause-text : goal.returns-in-Apart-clause-text
unfolding answer_text
returns-in-Apart-clause-text c = let p = put_as (sym (ap answer_text (c.in-At.is ∙ ap At c.in-Apart.is))) c.put_bytes.ensures in
    p

pub returns-in-Touching-clause-text : goal.returns-in-Touching-clause-text
unfolding answer_text
returns-in-Touching-clause-text c = let p = put_as (sym (ap answer_text (c.in-At.is ∙ ap At c.in-Touching.is))) c.put_bytes-in-Touching.ensures in
    p

pub returns-in-Overlapping-clause-text : goal.returns-in-Overlapping-clause-text
unfolding answer_text
returns-in-Overlapping-clause-text c = let p = put_as (sym (ap answer_text (c.in-At.is ∙ ap At c.in-Overlapping.is))) c.put_bytes-in-Overlapping.ensures in
    p

pub returns-in-Refused-clause-text : goal.returns-in-Refused-clause-text
unfolding answer_text
returns-in-Refused-clause-text c = let p = put_as (sym (ap answer_text c.in-Refused.is)) c.put_refusal.ensures in
    p

pub returns-in-Refused-clause-counted : goal.returns-in-Refused-clause-counted
unfolding answer_text
returns-in-Refused-clause-counted c = let p = put_as (sym (ap answer_text c.in-Refused.is)) c.put_refusal.ensures in
    put_within p (omega (arith, answer_size c.args.answer))
