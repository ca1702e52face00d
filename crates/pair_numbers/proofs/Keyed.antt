-- The walks in a buffer of two operands that neither 9 nor 10 is told of can be merged by their
-- numbers (`operands_keyed`). Assumes nothing.
use mathlib.Core.Path.{◌≡◌, sym, ◌∙◌, ap, subst₂}
use mathlib.Core.Bool.{Bool, false}
use mathlib.Core.List.{List, [], map}
use Prim.Native.Nat.{ℕ, ◌+◌, ◌≤◌, ◌<◌, ◌^◌}
use native.Mathlib.Omega.{arith}
use lib.IntN.{ℤ}
use lib.ListN.{length, get_or, length-take, length-drop}
use lib.Seq.{get_or-take, get_or-drop}
use Rattle.plane.specs.Plane.{Pt}
use Rattle.pair_points.specs.Points.{unrolled}
use Rattle.minkowski.specs.Pairs.{Operand, operand_parts}
use Rattle.minkowski_pairs.proofs.Bounds.{Unrefused}
use Rattle.direction_keys.specs.Marks.{Close}
use Rattle.pair_walks.specs.Walks.{walks_in, walk_in, Walks, lefts_in, rights_in}
use Rattle.pair_numbers.specs.Numbers.{NumberedTo, Keyed}
use Rattle.pair_numbers.proofs.Close.{walks_close}

module _
    (reflected : Bool) (l r : Operand) (firsts : List ℕ) (points : List (List ℤ)) (left right : ℕ)
    (lefts : lefts_in firsts points left right ≡ map (unrolled false) (operand_parts l)) (rights : rights_in firsts points left right ≡ map (unrolled reflected) (operand_parts r)) where
  abbrev ws : List (List Pt)
  ws = walks_in firsts points (left + right)

  pub operands_keyed :
      {numbers : List ℕ} → Unrefused reflected l r → Walks firsts points (left + right) → length points < 2 ^ 32 → length points ≤ length numbers → NumberedTo (left + right) ws firsts numbers left →
      Keyed firsts points numbers left right
  operands_keyed u w few size n = record { walks = w; few = few; size = size; numbered = n; close = close }
    where
      all : length ws ≡ left + right
      all = sym w.gathered.parts

      left_at : {p : ℕ} → p < left → get_or (map (unrolled false) (operand_parts l)) p [] ≡ walk_in firsts points (left + right) p
      left_at {p} h = ap (λ a. get_or a p []) (sym lefts) ∙ get_or-take left ws p [] h

      right_at : (q : ℕ) → get_or (map (unrolled reflected) (operand_parts r)) q [] ≡ walk_in firsts points (left + right) (left + q)
      right_at q = ap (λ a. get_or a q []) (sym rights) ∙ get_or-drop left ws q []

      close : (p q : ℕ) → p < left → q < right → Close (walk_in firsts points (left + right) p) (walk_in firsts points (left + right) (left + q))
      close p q h k =
          subst₂ Close (left_at h) (right_at q)
          (walks_close u
          (omega (arith, h, all, ap length lefts, length-take left ws))
          (omega (arith, k, all, ap length rights, length-drop left ws)))
