-- A contour unrolled. In order: what is answered (`told_to`, `told_leaves`); an empty contour
-- (`none_unrolled`); where the walk begins, by what `begin_checked` answers (`begun_at`,
-- `begun_refused`, `walkable`); the walk's points are the contour unrolled (`unrolled_walk`,
-- `walk_unrolled`), all in range (`unrolled_ranged`). Assumes nothing.
use Rattle.std.specs.Prelude.{Some, None}
use mathlib.Core.Path.{◌≡◌, refl, sym, ◌∙◌, ap, subst}
use mathlib.Core.Bool.{Bool, true, false}
use mathlib.Core.List.{List, [], ◌∷◌}
use Prim.Native.Nat.{ℕ, zero, suc, ◌<◌}
use native.Mathlib.Omega.{arith}
use borrow.Author.Tests.{not-false}
use lib.ListN.{length}
use lib.IntN.{ℤ}
use Rattle.integers.specs.Lists.{All, neighbours, rotate}
use Rattle.integers.proofs.Order.{by_test}
use Rattle.integers.proofs.Sizes.{abs_neg}
use Rattle.plane.specs.Plane.{Pt}
use Rattle.plane.proofs.Size.{on_grid_both}
use Rattle.corners.specs.Corners.{points_of, off_range}
use Rattle.pair.specs.declared.Place.{Place}
use Rattle.pair.specs.Walk.{corner_at, start_at, greatest_at, least_at, winding_terms, total_leaves, winding_leaves, begin, turned, point_of, advance}
use Rattle.pair.specs.Demand.{handed}
use Rattle.pair.proofs.Places.{point_advance, begin_remaining}
use Rattle.pair_points.specs.Points.{points_along, unrolled}
use Rattle.walk.specs.declared.Begun.TheVariants.{At, Refused}
use Rattle.walk.specs.Calls.{length_broken, misplaced, begun_of}
use Rattle.walk.proofs.Answers.{some_corner, index_inside, advance_placed, begin_placed}
use Rattle.walk_read.proofs.Grid.{off_nowhere}
use Rattle.walk_begin.proofs.Begins.{begin_8, begin_at}
use Rattle.points.specs.Points.{Appended}
use Rattle.points.proofs.Points.{appended_none}
use Rattle.pair_unroll.specs.Unroll.{Ranged, points_from, Walkable, Unrollable, UnrolledTo, UnrolledBy}
use Rattle.pair_unroll.proofs.Along.{every_point}

-- ---- what is answered

module _ {reflected : Bool} {l : List Pt} {points : List (List ℤ)} {from : ℕ} {points' : List (List ℤ)} where
  pub told_to : {n : ℕ} → UnrolledTo reflected l points from points' n → UnrolledBy reflected l points from points' (Some n)
  told_to {n} u = record { to = λ m e. subst (UnrolledTo reflected l points from points') (same e) u; leaves = λ e. absurd (clash e) }
    where
      same : {m : ℕ} → Some n ≡ Some m → n ≡ m
      same e = cc

      clash : Some n ≡ None → ⊥
      clash e = let z : ◌≡◌ {A = ℕ} 0 1 = cc in omega arith

  pub told_leaves : winding_leaves reflected l ≡ true → UnrolledBy reflected l points from points' None
  told_leaves t = record { to = λ m e. absurd (clash e); leaves = λ e. t }
    where
      clash : {m : ℕ} → None ≡ Some m → ⊥
      clash e = let z : ◌≡◌ {A = ℕ} 0 1 = cc in omega arith

-- ---- an empty contour

none_leaves : (reflected : Bool) → winding_leaves reflected [] ≡ false
unfolding winding_leaves winding_terms start_at greatest_at least_at total_leaves neighbours rotate
none_leaves true = refl
none_leaves false = refl

pub none_unrolled : (reflected : Bool) (l : List ℤ) (points : List (List ℤ)) (from : ℕ) → length l ≡ 0 → UnrolledTo reflected (points_of l) points from points from
unfolding points_of unrolled
none_unrolled reflected [] points from h = record { stays = none_leaves reflected; appended = appended_none points from }
none_unrolled reflected (x ∷ l) points from h = absurd (omega arith)

-- ---- where the walk begins

module _ (reflected : Bool) (l : List ℤ) (short : length_broken l ≡ false) (ranged : off_range l ≡ false) (some : length l ≡ 0 → ⊥) where
  pub begun_at : {w : Place} → begun_of l reflected ≡ At w → (winding_leaves reflected (points_of l) ≡ false) × (w ≡ begin reflected (points_of l))
  begun_at {w} e = by_test (winding_leaves reflected (points_of l))
      (λ t. absurd (clash (begin_8 l reflected short ranged t ∙ e)))
      (λ t. (t, same (begin_at l reflected short ranged t some ∙ e)))
    where
      clash : Refused 8 ≡ At w → ⊥
      clash q = let z : ◌≡◌ {A = ℕ} 0 1 = cc in omega arith

      same : {v : Place} → At v ≡ At w → w ≡ v
      same q = cc

  pub begun_refused : {f : ℕ} → begun_of l reflected ≡ Refused f → winding_leaves reflected (points_of l) ≡ true
  begun_refused {f} e = by_test (winding_leaves reflected (points_of l)) (λ t. t) (λ t. absurd (clash (begin_at l reflected short ranged t some ∙ e)))
    where
      clash : {v : Place} → At v ≡ Refused f → ⊥
      clash q = let z : ◌≡◌ {A = ℕ} 0 1 = cc in omega arith

-- ---- the walk's points

pub unrolled_walk : (reflected : Bool) (l : List Pt) → 0 < length l → points_from l (begin reflected l) ≡ unrolled reflected l
unfolding unrolled
unrolled_walk reflected [] h = absurd (omega arith)
unrolled_walk reflected (c ∷ l) h = refl

pub walk_unrolled : (reflected : Bool) (l : List Pt) {w : Place} {points points' : List (List ℤ)} {from n : ℕ} → 0 < length l → w ≡ begin reflected l → Appended (points_from l w) points from points' n → Appended (unrolled reflected l) points from points' n
walk_unrolled reflected l {points = points} {points' = points'} {from = from} {n = n} h e a = subst (λ m. Appended m points from points' n) (ap (points_from l) e ∙ unrolled_walk reflected l h) a

-- the walk from its start has what it asks
pub walkable : (reflected : Bool) {l : List ℤ} {w : Place} {points : List (List ℤ)} {from : ℕ} → (length l ≡ 0 → ⊥) → w ≡ begin reflected (points_of l) → Unrollable l points from → Walkable l w points from
walkable reflected {l} {w} {points} {from} some e u =
    subst (λ v. Walkable l v points from) (sym e)
    (record { short = u.short; ranged = u.ranged; placed = begin_placed reflected (points_of l) (some_corner l u.short some); room = omega (arith, u.room, begin_remaining reflected (points_of l)) })

-- ---- in range

-- the point at each place on the way
every_handed : (Q : Pt → Type 0) (l : List Pt) → ((w : Place) → misplaced (length l) w ≡ false → Q (point_of l w)) → (k : ℕ) (w : Place) → misplaced (length l) w ≡ false → All Q (points_along (point_of l w) (handed k l w))
unfolding handed points_along
every_handed Q l f zero w m = (f w m, tt)
every_handed Q l f (suc k) w m =
    let v = advance (length l) w in
    (f w m, subst (λ p. All Q (points_along p (handed k l v))) (point_advance l w) (every_handed Q l f k v (advance_placed (length l) w m)))

turned_ranged : (reflected : Bool) {p : Pt} → Ranged p → Ranged (turned reflected p)
turned_ranged true {p} h = (record { abs = omega (arith, h.0.abs, abs_neg p.x) }, record { abs = omega (arith, h.1.abs, abs_neg p.y) })
turned_ranged false h = h

ranged_at : (l : List ℤ) → off_range l ≡ false → (w : Place) → misplaced (length (points_of l)) w ≡ false → Ranged (point_of (points_of l) w)
unfolding point_of
ranged_at l h w m =
    let i = w.index in
    turned_ranged w.reflected (on_grid_both (corner_at (points_of l) i) (not-false _ (off_nowhere l h (index_inside (length (points_of l)) w m))))

pub unrolled_ranged : (reflected : Bool) (l : List ℤ) → off_range l ≡ false → All Ranged (unrolled reflected (points_of l))
unrolled_ranged reflected l h = at (points_of l) (ranged_at l h)
  where
    at : (m : List Pt) → ((w : Place) → misplaced (length m) w ≡ false → Ranged (point_of m w)) → All Ranged (unrolled reflected m)
    at [] f = unfold unrolled in tt
    at (c ∷ m) f =
        let w = begin reflected (c ∷ m) in
        subst (All Ranged) (unrolled_walk reflected (c ∷ m) (omega arith))
        (every_point Ranged (point_of (c ∷ m) w) (handed w.remaining (c ∷ m) w) (every_handed Ranged (c ∷ m) f w.remaining w (begin_placed reflected (c ∷ m) (omega arith))))
