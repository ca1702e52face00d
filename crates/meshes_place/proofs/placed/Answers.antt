-- `meshes_place::placed` meets its contract: a refusal of the place or of a file, or the answer of
-- the pairs of both operands. Assumes nothing.
use mathlib.Core.Path.{sym, ◌∙◌}
use native.Mathlib.Omega.{arith}
use lib.Seq.{length-take-le}
use Rattle.corners.proofs.Corners.{whole_corners}
use Rattle.meshes_job.proofs.Making.{few_held}
use Rattle.meshes_place.proofs.Faults.{point_good, grid_point, point_refused, files_refused}
use Rattle.meshes_place.proofs.Answer.{rest_taken, answered}
use borrow.Author.Rules.{rules}
use Rattle.meshes_place.proofs.placed.Goals as goal

pub returns-then-fault-ne0 : goal.returns-then-fault-ne0
returns-then-fault-ne0 c = point_refused c.args.bytes.now c.point_fault-fault.ensures c.if-fault-ne0.true

pub slice_bounds-take_two-count : goal.slice_bounds-take_two-count
slice_bounds-take_two-count c = (point_good c.args.bytes.now (sym c.point_fault-fault.ensures ∙ c.if-fault-ne0.false)).0

pub slice_bounds-take_two-start : goal.slice_bounds-take_two-start
slice_bounds-take_two-start c = (point_good c.args.bytes.now (sym c.point_fault-fault.ensures ∙ c.if-fault-ne0.false)).0

pub returns-then-two-ne0 : goal.returns-then-two-ne0
returns-then-two-ne0 c = files_refused c.args.bytes.now (sym c.point_fault-fault.ensures ∙ c.if-fault-ne0.false) (rest_taken c.args.bytes.now (sym c.point_fault-fault.ensures ∙ c.if-fault-ne0.false) c.take_two-two.ensures).fault c.if-two-ne0.true

pub place_at-z-requires : goal.place_at-z-requires
place_at-z-requires c = (point_good c.args.bytes.now (sym c.point_fault-fault.ensures ∙ c.if-fault-ne0.false)).0

pub front-requires : goal.front-requires
front-requires c = whole_corners _ _ ((rest_taken c.args.bytes.now (sym c.point_fault-fault.ensures ∙ c.if-fault-ne0.false) c.take_two-two.ensures).left_held c.if-two-ne0.false).corners_in

pub front-requires-2 : goal.front-requires-2
front-requires-2 c = whole_corners _ _ ((rest_taken c.args.bytes.now (sym c.point_fault-fault.ensures ∙ c.if-fault-ne0.false) c.take_two-two.ensures).right_held c.if-two-ne0.false).corners_in

pub place_operands-requires : goal.place_operands-requires
place_operands-requires c = grid_point c.args.bytes.now (sym c.point_fault-fault.ensures ∙ c.if-fault-ne0.false) c.place_at-z.ensures

pub returns : goal.returns
returns c = answered c.args.bytes.now (sym c.point_fault-fault.ensures ∙ c.if-fault-ne0.false) (rest_taken c.args.bytes.now (sym c.point_fault-fault.ensures ∙ c.if-fault-ne0.false) c.take_two-two.ensures) c.if-two-ne0.false c.front.ensures c.front-2.ensures c.place_at-z.ensures c.place_operands.ensures
