-- A walk step by step. In order: the edges taken so far and those to come (`Taken`: `taken_start`,
-- `taken_step`, `taken_count`, `taken_all`, `fewer_steps`); a buffer stored to past its first
-- points (`onto`, `stored`); the points so far in a buffer (`Walking`: `walking_start`,
-- `walking_placed`, `walking_adding`, `walking_step`, `walking_end`). Assumes nothing.
use mathlib.Core.Path.{◌≡◌, refl, sym, ◌∙◌, ap, subst}
use mathlib.Core.Bool.{false}
use mathlib.Core.List.{List, [], ◌∷◌, ◌++◌, map, append_assoc, append-nil}
use Prim.Native.Nat.{ℕ, zero, suc, ◌+◌, ◌-◌, ◌<◌}
use native.Mathlib.Omega.{arith}
use lib.ListN.{length, set, length-append, length-set}
use lib.Seq.{take-set-le}
use lib.IntN.{ℤ}
use Rattle.integers.specs.Lists.{All}
use Rattle.plane.specs.Plane.{Pt, ◌+ᵖ◌}
use Rattle.plane.specs.Machine.{OnGrid, point}
use Rattle.plane.specs.declared.IntPoint.{IntPoint}
use Rattle.pair.specs.declared.Place.{Place}
use Rattle.pair.specs.Walk.{point_of, edge_of, advance}
use Rattle.pair.specs.Demand.{handed, live}
use Rattle.pair.specs.EdgeLists.{grouped}
use Rattle.pair.proofs.Places.{point_advance}
use Rattle.pair.proofs.FewCorners.{length_handed}
use Rattle.pair_points.specs.Points.{points_along}
use Rattle.walk.specs.Calls.{misplaced}
use Rattle.walk.proofs.Answers.{advance_placed}
use Rattle.points.specs.Points.{corner_of, pair_of, first_points, Appended}
use Rattle.points.proofs.Points.{appended_one}
use Rattle.pair_unroll.specs.Unroll.{with_point, Ranged, Adding, PointAdded, points_from}
use Rattle.pair_unroll.proofs.Along.{last_along, last_more, along_more, all_with, few_points, length_along}
use Rattle.pair_unroll.proofs.Buffered.{all_at}

-- one step of k, and none
handed_first : (l : List Pt) (w : Place) (k : ℕ) → 0 < k → handed k l w ≡ edge_of l w ∷ handed (k - 1) l (advance (length l) w)
unfolding handed
handed_first l w zero h = absurd (omega arith)
handed_first l w (suc k) h = let e : k ≡ suc k - 1 = omega arith in ap (λ n. edge_of l w ∷ handed n l (advance (length l) w)) e

handed_none : (l : List Pt) (w : Place) → handed 0 l w ≡ []
unfolding handed
handed_none l w = refl

-- ---- the edges taken from place v to place w, and those to come

pub record Taken (l : List Pt) (v w : Place) : Type 0 where
  pub es : List Pt
  pub edges : es ++ handed w.remaining l w ≡ handed v.remaining l v
  pub here : last_along (point_of l v) es ≡ point_of l w
  pub placed : misplaced (length l) w ≡ false

module _ (l : List Pt) (v : Place) where
  pub taken_start : misplaced (length l) v ≡ false → Taken l v v
  unfolding last_along
  taken_start h = record { es = []; edges = refl; here = refl; placed = h }

  module _ {w : Place} (t : Taken l v w) where
    pub taken_step : 0 < w.remaining → Taken l v (advance (length l) w)
    unfolding advance
    taken_step h = record {
      es = t.es ++ (edge_of l w ∷ []);
      edges = append_assoc t.es (edge_of l w ∷ []) (handed (w.remaining - 1) l (advance (length l) w)) ∙ ap (λ m. t.es ++ m) (sym (handed_first l w w.remaining h)) ∙ t.edges;
      here = last_more (point_of l v) (edge_of l w) t.es ∙ ap (λ p. p +ᵖ edge_of l w) t.here ∙ sym (point_advance l w);
      placed = advance_placed (length l) w t.placed;
    }

    pub taken_count : length t.es + w.remaining ≡ v.remaining
    taken_count = omega (arith, ap length t.edges, length-append t.es (handed w.remaining l w), length_handed w.remaining l w, length_handed v.remaining l v)

    pub taken_all : w.remaining ≡ 0 → t.es ≡ handed v.remaining l v
    taken_all z = sym (append-nil t.es) ∙ ap (λ m. t.es ++ m) (sym (ap (λ k. handed k l w) z ∙ handed_none l w)) ∙ t.edges

-- the steps left, one fewer
pub fewer_steps : (n : ℕ) (w : Place) {w' : Place} → w' ≡ advance n w → 0 < w.remaining → w'.remaining < w.remaining
unfolding advance
fewer_steps n w {w'} e h = let r : w'.remaining ≡ w.remaining - 1 = ap (λ u. u.remaining) e in omega arith

-- ---- the points of the walk from v, up to place w, after the first `from` of a buffer

abbrev so_far : (l : List Pt) (v : Place) {w : Place} → Taken l v w → List Pt
so_far l v t = points_along (point_of l v) (grouped (live t.es))

pub record Walking (l : List Pt) (v w : Place) (points₀ : List (List ℤ)) (from : ℕ) (points : List (List ℤ)) (count : ℕ) : Type 0 where
  pub taken : Taken l v w
  pub appended : Appended (so_far l v taken) points₀ from points count
  pub ranged : All Ranged (so_far l v taken)

on_grid_ranged : {p : IntPoint} {q : Pt} → point p ≡ q → OnGrid p → Ranged q
on_grid_ranged e g = subst Ranged e (g.x_small, g.y_small)

-- ---- points appended to a buffer are appended to any other with the same first ones

pub onto : {new : List Pt} {points₀ points₁ points : List (List ℤ)} {from n : ℕ} → (length points₀ ≡ length points₁) × (first_points from points₀ ≡ first_points from points₁) → Appended new points₀ from points n → Appended new points₁ from points n
onto {new} e a = record { size = a.size ∙ e.0; count = a.count; written = a.written ∙ ap (λ l. l ++ new) e.1 }

-- a store at n leaves the first n
pub stored : (points : List (List ℤ)) (n : ℕ) (x : List ℤ) {points' : List (List ℤ)} → points' ≡ set points n x → (length points' ≡ length points) × (first_points n points' ≡ first_points n points)
stored points n x e = (ap length e ∙ length-set points n x, ap (first_points n) e ∙ ap (map corner_of) (take-set-le n points n x (omega arith)))

module _ (l : List Pt) (v : Place) (from : ℕ) where
  -- the first point
  pub walking_start :
      {p : IntPoint} (points₀ : List (List ℤ)) {points₁ : List (List ℤ)} → misplaced (length l) v ≡ false → (point p ≡ point_of l v) × OnGrid p → from < length points₀ →
      points₁ ≡ set points₀ from (pair_of (point p)) → Walking l v v points₁ from points₁ (from + 1)
  unfolding points_along grouped live taken_start
  walking_start {p} points₀ {points₁} m q h e =
      let s = stored points₀ from (pair_of (point p)) e in
      record {
        taken = taken_start l v m;
        appended = subst (λ r. Appended (r ∷ []) points₁ from points₁ (from + 1)) q.0
            (onto (sym s.0, sym s.1) (subst (λ b. Appended (point p ∷ []) points₀ from b (from + 1)) (sym e) (appended_one points₀ (point p) h)));
        ranged = (on_grid_ranged q.0 q.1, tt);
      }

  module _ {w : Place} {points₀ points : List (List ℤ)} {count : ℕ} (k : Walking l v w points₀ from points count) where
    -- the next place is one of the contour
    pub walking_placed : {w' : Place} {n : ℕ} → n ≡ length l → w' ≡ advance n w → misplaced (length l) w' ≡ false
    walking_placed {n} e f = ap (misplaced (length l)) (f ∙ ap (λ n. advance n w) e) ∙ advance_placed (length l) w k.taken.placed

    -- one step more, to the point p
    pub walking_step :
        {w' : Place} {p : IntPoint} {points' : List (List ℤ)} {count' : ℕ} → 0 < w.remaining → w' ≡ advance (length l) w → (point p ≡ point_of l w') × OnGrid p →
        PointAdded (point p) from points count points' count' → Walking l v w' points₀ from points' count'
    unfolding taken_step
    walking_step {w'} {p} {points'} {count'} h e q a =
        let s = so_far l v k.taken in
        subst (λ u. Walking l v u points₀ from points' count') (sym e) (record {
          taken = taken_step l v k.taken h;
          appended = subst (λ s. Appended s points₀ from points' count') grown (a.added points₀ s k.appended);
          ranged = subst (All Ranged) grown (all_with (point p) Ranged s k.ranged (on_grid_ranged refl q.1));
        })
      where
        grown : with_point (so_far l v k.taken) (point p) ≡ so_far l v (taken_step l v k.taken h)
        grown =
            ap (with_point (so_far l v k.taken)) (q.0 ∙ ap (point_of l) e ∙ point_advance l w ∙ ap (λ c. c +ᵖ edge_of l w) (sym k.taken.here))
            ∙ along_more (point_of l v) (edge_of l w) k.taken.es

    -- what adding a point asks
    pub walking_adding : from + v.remaining < length points₀ → 0 < w.remaining → Adding points from count
    walking_adding h g =
        let few = few_points (point_of l v) k.taken.es in
        let steps = taken_count l v k.taken in
        let room : count < length points = omega (arith, k.appended.count, k.appended.size, few, steps) in
        record {
          some = omega (arith, k.appended.count, length_along (point_of l v) (grouped (live k.taken.es)));
          room = room;
          ranged = all_at k.appended (omega (arith, room)) Ranged k.ranged;
        }

    pub walking_end : w.remaining ≡ 0 → Appended (points_from l v) points₀ from points count
    walking_end z = subst (λ m. Appended (points_along (point_of l v) (grouped (live m))) points₀ from points count) (taken_all l v k.taken z) k.appended
