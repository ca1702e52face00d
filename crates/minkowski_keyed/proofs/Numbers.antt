-- Operands that none of 7, 2, 9, 8 and 10 is told of (`unrefused_call`): a number a point of their
-- walks can be made (`numberable`), and then they can be merged by them (`keyed`). Assumes nothing.
use mathlib.Core.Path.{◌≡◌}
use mathlib.Core.List.{List}
use Prim.Native.Nat.{ℕ, ◌+◌, ◌≤◌, ◌<◌, ◌^◌}
use native.Mathlib.Omega.{arith}
use lib.ListN.{length}
use lib.IntN.{ℤ}
use Rattle.integers.specs.Faults.{first_fault}
use Rattle.integers.proofs.Faults.{first_none}
use Rattle.table.specs.Table.{table_broken, part_count}
use Rattle.table.proofs.Rules.{sound}
use Rattle.minkowski.specs.Pairs.{operand_off}
use Rattle.minkowski_pairs.proofs.Bounds.{Unrefused}
use Rattle.pair_walks.specs.Walks.{walks_in}
use Rattle.pair_numbers.specs.Numbers.{NumberedTo, Numberable, Keyed}
use Rattle.pair_numbers.proofs.Keyed.{operands_keyed}
use Rattle.minkowski_work.specs.Scratch.{Call, Accepted, walk_kinds, BothWalked}
use Rattle.minkowski_work.proofs.Walked.{left_judged, right_judged}

unrefused_call : {x : Call} → Accepted x → first_fault (walk_kinds x.reflected x.left x.right) ≡ 0 → Unrefused x.reflected x.left x.right
unrefused_call {x} e h =
    let a = first_none (table_broken x.left.starts x.left.corners) _ (omega arith) e in
    let b = first_none (table_broken x.right.starts x.right.corners) _ (omega arith) a.1 in
    let c = first_none (operand_off x.left) _ (omega arith) b.1 in
    let d = first_none (operand_off x.right) _ (omega arith) c.1 in
    let f = first_none _ _ (omega arith) d.1 in
    let g = first_none _ _ (omega arith) f.1 in
    let i = first_none _ _ (omega arith) h in
    let j = first_none _ _ (omega arith) i.1 in
    let k = first_none _ _ (omega arith) j.1 in
    record { left_table = a.0; right_table = b.0; left_bounds = f.0; right_bounds = g.0; result_bounds_lem = k.0 }

module _ (x : Call) (e : Accepted x) {points : List (List ℤ)} {firsts : List ℕ} (w : BothWalked x points firsts) (few : length points < 2 ^ 32) where
  abbrev left : ℕ
  left = part_count x.left.starts

  abbrev right : ℕ
  right = part_count x.right.starts

  pub numberable : {numbers : List ℕ} → length points ≤ length numbers → Numberable firsts points left right numbers
  numberable room =
      let s = sound x.left.starts x.left.corners (left_judged x e).sound in
      let t = sound x.right.starts x.right.corners (right_judged x e).sound in
      record { walks = w.walks; few = few; room = room; counted = omega (arith, s.few_parts, t.few_parts) }

  pub keyed :
      {numbers : List ℕ} → first_fault (walk_kinds x.reflected x.left x.right) ≡ 0 → length points ≤ length numbers → NumberedTo (left + right) (walks_in firsts points (left + right)) firsts numbers left →
      Keyed firsts points numbers left right
  keyed {numbers} h room n =
      operands_keyed x.reflected x.left x.right firsts points left right w.lefts w.rights (unrefused_call e h) w.walks few room n
