-- One item judged, as the code's arms form it: any but a close (`judge_any`), a close
-- (`judge_close`). Assumes nothing.
use mathlib.Core.Path.{◌≡◌, sym, ◌∙◌, ap, ap₂}
use mathlib.Core.Bool.{false, cond}
use Rattle.path.specs.declared.PathItem.{PathItem}
use Rattle.path.specs.declared.PathItem.TheVariants.{Close}
use Rattle.path.specs.declared.Stage.{Stage}
use Rattle.path.specs.declared.Point.{Point}
use Rattle.path.specs.declared.Frame.{Frame}
use Rattle.path.specs.declared.Judged.{Judged}
use Rattle.path.specs.Path.{reach, closes}
use Rattle.path.specs.Judging.{stage_after, ended, judge_item, standing}

module _ (f : Frame) (s : Judged) {i : PathItem} where
  -- item i is v, and r is made of the stage t behind it and the point p reached
  pub judge_any : {v : PathItem} {t : Stage} {p : Point} {r : Judged} → i ≡ v → closes v ≡ false → t ≡ stage_after s.stage v → p ≡ reach s.at v → r ≡ standing f s.off t p → r ≡ judge_item f s i
  judge_any {v} e n h k q =
      q ∙ ap₂ (λ a b. standing f s.off a b) h k
      ∙ sym (ap (λ b. cond b (record { stage = stage_after s.stage v; off = s.off; at = s.at }) (standing f s.off (stage_after s.stage v) (reach s.at v))) n)
      ∙ ap (judge_item f s) (sym e)

  pub judge_close : {t : Stage} → i ≡ Close → t ≡ ended s.stage → record { stage = t; off = s.off; at = s.at } ≡ judge_item f s i
  judge_close e h = ap (λ a. record { stage = a; off = s.off; at = s.at }) h ∙ ap (judge_item f s) (sym e)
