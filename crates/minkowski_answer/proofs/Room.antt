-- The room for all pairs of two operands' walks: what a test of it tells (`more_corners`,
-- `no_more`, `most_fit`), and that there is room for them (`room_for`). Assumes nothing.
use mathlib.Core.Path.{◌≡◌, sym, ◌∙◌}
use mathlib.Core.Bool.{Bool, true, false}
use mathlib.Core.List.{List, flatten}
use Prim.Native.Nat.{ℕ, ◌+◌, ◌*◌, ◌/◌, ◌≤◌, ◌<◌}
use native.Mathlib.Omega.{arith}
use borrow.Author.Tests.{ltb-true, ltb-false, le-ltb}
use lib.Dec.{ltb}
use lib.ListN.{length}
use lib.IntN.{ℤ}
use Rattle.pair_walks.specs.Walks.{contours_in}
use Rattle.pair_walks.proofs.Operands.{contours_count}
use Rattle.minkowski_rows.specs.Rows.{PairsRoom}
use Rattle.minkowski_answer.specs.Answer.{Unrolleds}

-- ---- a test of the room, told

pub more_corners : {room : ℕ} (n : ℕ) {r : Bool} → r ≡ ltb room n → r ≡ true → room < n
more_corners {room} n e h = ltb-true room n (sym e ∙ h)

pub no_more : {room : ℕ} (n : ℕ) {r : Bool} → r ≡ ltb room n → r ≡ false → n ≤ room
no_more {room} n e h = ltb-false room n (sym e ∙ h)

pub most_fit : {room : ℕ} {n : ℕ} {most : ℕ} → n ≤ most → most ≤ room → false ≡ ltb room n
most_fit {room} {n} h k = sym (le-ltb room n (omega arith))

-- ---- the walks of two operands

module _ {firsts : List ℕ} {points : List (List ℤ)} {left right most : ℕ} (u : Unrolleds firsts points left right most) where
  pub count_contours : length (contours_in firsts points left right) ≡ left * right
  count_contours = contours_count left right u.walks

  module _ {s : List ℕ} {c : List ℤ} (h : left * right + 1 ≤ length s) (k : length (flatten (contours_in firsts points left right)) ≤ length c / 2) where
    pub room_for : PairsRoom (contours_in firsts points left right) s 0 c 0
    room_for = record {
      for_starts = omega (arith, count_contours, h);
      for_corners = omega (arith, k);
      small = omega (arith, u.corners, u.few_corners);
    }
