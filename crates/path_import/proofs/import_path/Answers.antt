-- `path_import::import_path` meets its contract: what is told, and what is written. Assumes
-- nothing.
use mathlib.Core.Path.{refl, sym, ◌∙◌, ap, subst}
use lib.ListN.{length, take}
use Rattle.path.specs.Judging.{judge_from}
use Rattle.path.specs.Writing.{Writable, write_from}
use Rattle.path.proofs.Judging.{told_is}
use Rattle.path.proofs.Writing.{may_write, left_is}
use Rattle.path_import.proofs.import_path.Goals as goal

pub write_from-requires : goal.write_from-requires
write_from-requires c = let a = c.args in
    let e = told_is a.frame a.path.now (length a.corners.now) (c.judge_from-judged.ensures ∙ ap (λ s. judge_from a.frame s a.path.now) c.begun.ensures) refl c.told-counts.ensures in
    subst (λ p. Writable a.frame a.path.now p c.corners_told.result a.corners.now) (sym c.initial_point.ensures) (may_write a.frame a.path.now a.corners.now e c.corners_told.ensures)

pub returns : goal.returns
returns c = let a = c.args in
    let e = told_is a.frame a.path.now (length a.corners.now) (c.judge_from-judged.ensures ∙ ap (λ s. judge_from a.frame s a.path.now) c.begun.ensures) refl c.told-counts.ensures in
    (e, left_is a.frame a.path.now a.corners.now e c.corners_told.ensures (c.write_from.ensures ∙ ap (λ p. write_from a.frame (take c.corners_told.result a.path.now) p 0 a.corners.now) c.initial_point.ensures))
