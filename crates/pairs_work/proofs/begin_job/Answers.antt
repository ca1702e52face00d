-- `pairs_work::begin_job` meets its contract: a fault of the shape is the job's. Assumes nothing.
use mathlib.Core.Path.{sym, ◌∙◌, ap}
use Rattle.pairs_job.proofs.Shape.{shape_told}
use Rattle.pairs_work.specs.Begun.{job_call}
use Rattle.pairs_work.proofs.Answer.{begun_refused}
use Rattle.faults.specs.Told.{told}
use Rattle.faults.proofs.Numbers.{not_0}
use Rattle.pairs_work.proofs.begin_job.Goals as goal

pub returns-in-Err : goal.returns-in-Err
returns-in-Err c = let B = c.args.bytes.now in
    let e = (c.number.ensures ∙ ap told (sym c.in-Err.is) ∙ c.shape_fault.ensures) in
    let d = (not_0 c.in-Err.fault c.number.ensures) in
    let t = e ∙ sym (shape_told B (λ q. d (e ∙ q))) in
    record { answer = begun_refused (job_call B) t d c.refused.ensures; walked = λ q. absurd (d (t ∙ q)); keyed = λ q. absurd (d (t ∙ q)) }
