-- Whether few pairs are asked for can be told of accepted operands (`few_asked`), and what holds
-- any two of them (`any_room`). Assumes nothing.
use Prim.Native.Nat.{◌≤◌}
use native.Mathlib.Omega.{arith}
use Rattle.table.proofs.Rules.{sound}
use Rattle.minkowski_work.specs.Scratch.{Call, Accepted}
use Rattle.minkowski_work.proofs.Walked.{left_judged, right_judged}
use Rattle.minkowski_sizes.specs.Sizes.{FewAsked, RoomIn}

pub few_asked : (x : Call) → Accepted x → FewAsked x.left.starts x.left.corners x.right.starts x.right.corners
few_asked x a =
    let l = sound x.left.starts x.left.corners (left_judged x a).sound in
    let r = sound x.right.starts x.right.corners (right_judged x a).sound in
    record {
      left_starts = omega (arith, l.few_parts);
      left_corners = omega (arith, l.few_corners);
      right_starts = omega (arith, r.few_parts);
      right_corners = omega (arith, r.few_corners);
    }

-- 20,480 = 2 · (8,192 + 2,048) points
pub any_room : (x : Call) → Accepted x → RoomIn 20480 4098 x.left.starts x.left.corners x.right.starts x.right.corners
any_room x a =
    let l = sound x.left.starts x.left.corners (left_judged x a).sound in
    let r = sound x.right.starts x.right.corners (right_judged x a).sound in
    record {
      for_points = omega (arith, l.few_corners, l.few_parts, r.few_corners, r.few_parts);
      for_firsts = omega (arith, l.few_parts, r.few_parts);
      few_points = omega arith;
      few_firsts = omega arith;
    }
