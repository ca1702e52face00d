-- A path in order. In order: what is broken stays so, and nothing follows a close; a path is in
-- order where its stages end with the close (`opening_order`); it has one item more than points,
-- which its items but the last reach (`order_drawn`). Assumes nothing.
use mathlib.Core.Path.{◌≡◌, refl, sym, ◌∙◌, ap, subst}
use mathlib.Core.Bool.{true, false, not, ◌&&◌}
use mathlib.Core.List.{List, [], ◌∷◌}
use Prim.Native.Nat.{suc}
use lib.Dec.{T}
use lib.ListN.{length, take}
use Rattle.integers.proofs.Tests.{differ}
use Rattle.path.specs.declared.PathItem.{PathItem}
use Rattle.path.specs.declared.PathItem.TheVariants.{Move, Line, Horizontal, Vertical, RelativeLine, Close}
use Rattle.path.specs.declared.Stage.TheVariants.{Opening, Inside, Closed, Broken}
use Rattle.path.specs.declared.Point.{Point}
use Rattle.path.specs.Path.{every, reach, closes, lines_then_close, in_order, points_from}
use Rattle.path.specs.Judging.{stage_after, ordered_from}
use Rattle.path.specs.Writing.{reached_from}

-- ---- what is broken stays so, and nothing follows a close

broken_after : (i : PathItem) → stage_after Broken i ≡ Broken
broken_after (Move x y) = refl
broken_after (Line x y) = refl
broken_after (Horizontal x) = refl
broken_after (Vertical y) = refl
broken_after (RelativeLine x y) = refl
broken_after Close = refl

closed_after : (i : PathItem) → stage_after Closed i ≡ Broken
closed_after (Move x y) = refl
closed_after (Line x y) = refl
closed_after (Horizontal x) = refl
closed_after (Vertical y) = refl
closed_after (RelativeLine x y) = refl
closed_after Close = refl

pub broken_order : (is : List PathItem) → ordered_from Broken is ≡ false
unfolding ordered_from
broken_order [] = refl
broken_order (i ∷ is) = ap (λ s. ordered_from s is) (broken_after i) ∙ broken_order is

closed_order : (i : PathItem) (is : List PathItem) → ordered_from Closed (i ∷ is) ≡ false
unfolding ordered_from
closed_order i is = ap (λ s. ordered_from s is) (closed_after i) ∙ broken_order is

-- ---- the stages of a path

lines_order : (is : List PathItem) → ordered_from Inside is ≡ lines_then_close is
unfolding ordered_from lines_then_close
lines_order [] = refl
lines_order (Move x y ∷ is) = broken_order is
lines_order (Line x y ∷ is) = lines_order is
lines_order (Horizontal x ∷ is) = lines_order is
lines_order (Vertical y ∷ is) = lines_order is
lines_order (RelativeLine x y ∷ is) = lines_order is
lines_order (Close ∷ []) = refl
lines_order (Close ∷ i ∷ is) = closed_order i is

pub opening_order : (is : List PathItem) → ordered_from Opening is ≡ in_order is
unfolding ordered_from in_order
opening_order [] = refl
opening_order (Move x y ∷ is) = lines_order is
opening_order (Line x y ∷ is) = broken_order is
opening_order (Horizontal x ∷ is) = broken_order is
opening_order (Vertical y ∷ is) = broken_order is
opening_order (RelativeLine x y ∷ is) = broken_order is
opening_order (Close ∷ is) = broken_order is

-- ---- behind the move

-- the items but the last reach the points l, one each, and none of them is a close
pub record Drawn (p : Point) (is : List PathItem) (l : List Point) : Type 0 where
  pub long : length is ≡ suc (length l)
  pub reached : reached_from p (take (length l) is) ≡ l
  pub going : T (every (λ i. not (closes i)) (take (length l) is))

-- one item more, which is no close
more : (p : Point) (i : PathItem) {is : List PathItem} {l : List Point} → closes i ≡ false → Drawn (reach p i) is l → Drawn p (i ∷ is) (reach p i ∷ l)
unfolding reached_from every
more p i {is} {l} c d = record {
  long = ap suc d.long;
  reached = ap (λ q. reach p i ∷ q) d.reached;
  going = subst (λ b. T (not b && every (λ i. not (closes i)) (take (length l) is))) (sym c) d.going;
}

inside_drawn : (p : Point) (is : List PathItem) → lines_then_close is ≡ true → Drawn p is (points_from p is)
unfolding lines_then_close points_from reached_from every
inside_drawn p [] e = differ e
inside_drawn p (Move x y ∷ is) e = differ e
inside_drawn p (Line x y ∷ is) e = more p (Line x y) refl (inside_drawn (reach p (Line x y)) is e)
inside_drawn p (Horizontal x ∷ is) e = more p (Horizontal x) refl (inside_drawn (reach p (Horizontal x)) is e)
inside_drawn p (Vertical y ∷ is) e = more p (Vertical y) refl (inside_drawn (reach p (Vertical y)) is e)
inside_drawn p (RelativeLine x y ∷ is) e = more p (RelativeLine x y) refl (inside_drawn (reach p (RelativeLine x y)) is e)
inside_drawn p (Close ∷ []) e = record { long = refl; reached = refl; going = tt }
inside_drawn p (Close ∷ i ∷ is) e = differ e

-- ---- a whole path

pub order_drawn : (p : Point) (is : List PathItem) → in_order is ≡ true → Drawn p is (points_from p is)
unfolding in_order points_from
order_drawn p [] e = differ e
order_drawn p (Move x y ∷ is) e = more p (Move x y) refl (inside_drawn _ is e)
order_drawn p (Line x y ∷ is) e = differ e
order_drawn p (Horizontal x ∷ is) e = differ e
order_drawn p (Vertical y ∷ is) e = differ e
order_drawn p (RelativeLine x y ∷ is) e = differ e
order_drawn p (Close ∷ is) e = differ e
