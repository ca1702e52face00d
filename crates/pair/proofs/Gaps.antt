-- Neighbours round a strictly ascending closed list of edges, not on one line, turn left by less
-- than half a turn (`turns_left`): else all edges lie on one side of one of them, and adding up to
-- 0 they lie on its line. Assumes nothing.
use mathlib.Core.List.{List, [], ◌∷◌, ◌++◌}
use mathlib.Core.Logic.{⊎_elim}
use native.Mathlib.Omega.{arith}
use lib.IntN.{pos}
use lib.Signed.{◌≤ℤ◌, ◌<ℤ◌}
use Rattle.integers.specs.Lists.{All, links, neighbours}
use Rattle.integers.proofs.Ring.{con, pt}
use Rattle.integers.proofs.Order.{≤_or_>}
use Rattle.integers.proofs.Arith.{◌:≤◌, ◌⇒◌, arithℤ}
use Rattle.integers.proofs.Elements.{all_map, all_map2}
use Rattle.plane.specs.Plane.{Pt, cross}
use Rattle.plane.proofs.Terms.{cross_e}
use Rattle.plane.specs.Halves.{Nz}
use Rattle.plane.proofs.Directions.{Le, Lt, lt_le, le_refl}
use Rattle.plane.proofs.Sides.{past_left, before_left, between_right}
use Rattle.pair.proofs.Convex.{Sorted, Convex}
use Rattle.pair.proofs.Totals.{all_line_left, all_line_right}
use Rattle.pair.proofs.Splits.{Split, split_start, split_next, split_before, split_all, all_split}

-- e × f ≤ 0, so 0 ≤ f × e
turned : (e f : Pt) → cross e f ≤ℤ pos 0 → pos 0 ≤ℤ cross f e
turned = arithℤ (pt ∷ pt ∷ []) (λ e f. cross_e e f :≤ con (pos 0) ⇒ con (pos 0) :≤ cross_e f e) (omega arith)

module _ {M : List Pt} (c : Convex M) where
  -- f ≥ 0 left of e, so every edge is: those up to e, and those from f on
  turn_next : {A : List Pt} {e f : Pt} {B : List Pt} → Split Lt M A (e ∷ f ∷ B) → pos 0 <ℤ cross e f
  turn_next {A} {e} {f} {B} s = ⊎_elim (λ h. absurd (no (turned e f h))) (λ h. h) (≤_or_> (cross e f) (pos 0))
    where
      n_b : All Nz (e ∷ f ∷ B)
      n_b = (split_all Nz s c.nonzero).1

      ef : Lt e f
      ef = s.sorted.0.0

      no : pos 0 ≤ℤ cross f e → ⊥
      no h =
          c.wide e n_b.0 (all_line_left e M
          (all_split (λ g. pos 0 ≤ℤ cross g e) s (all_map A (λ g k. before_left ef (lt_le k) h) (split_before s))
          (before_left ef (le_refl e) h, (h, all_map2 B (λ g n k. past_left n_b.0 n_b.1.0 n ef (lt_le k) h) n_b.1.1 s.sorted.1.0))) c.closed)

  -- the last edge a right of the first one f, so every edge is
  turn_last : {f : Pt} → Nz f → All (Le f) M → {A : List Pt} {a : Pt} → Split Lt M A (a ∷ []) → pos 0 <ℤ cross a f
  turn_last {f} nf fM {A} {a} s = ⊎_elim (λ h. absurd (no (turned a f h))) (λ h. h) (≤_or_> (cross a f) (pos 0))
    where
      between : All (λ g. Le f g × Le g a) M
      between = all_map2 M (λ g p q. (p, q)) fM (all_split (λ g. Le g a) s (all_map A (λ g k. lt_le k) (split_before s)) (le_refl a, tt))

      no : pos 0 ≤ℤ cross f a → ⊥
      no h =
          c.wide f nf (all_line_right f M (all_map2 M (λ g n k. between_right nf n (split_all Nz s c.nonzero).1.0 k.0 k.1 h) c.nonzero between) c.closed)

  -- along the list from a, and to f at its end
  turns_from : {f : Pt} → Nz f → All (Le f) M → {A : List Pt} {a : Pt} (B : List Pt) → Split Lt M A (a ∷ B) → All (λ t. pos 0 <ℤ cross t.0 t.1) (links a (B ++ (f ∷ [])))
  unfolding links
  turns_from nf fM {a} [] s = (turn_last nf fM s, tt)
  turns_from nf fM {a} (b ∷ B) s = (turn_next s, turns_from nf fM B (split_next s))

-- every turn round the list is to the left
pub turns_left : {M : List Pt} → Convex M → Sorted Lt M → All (λ t. pos 0 <ℤ cross t.0 t.1) (neighbours M)
unfolding neighbours
turns_left {M = []} c s = tt
turns_left {M = e ∷ l} c s = turns_from c c.nonzero.0 (le_refl e, all_map l (λ g k. lt_le k) s.0) l (split_start s)
