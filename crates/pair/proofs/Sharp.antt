-- Strictly convex contours. In order: strictly ascending lists with the same edges are one
-- (`sorted_unique`); what `strictly_convex` says of the edges: none is zero (`sharp_nonzero`), they
-- go round (`sharp_round`), and read from a least corner, onward or, where the reverse is strictly
-- convex, backwards, they ascend strictly (`sharp_ascends`, `sharp_ascends_back`), which is one
-- reading (`sharp_back`); the winding seen from a corner is the doubled area (`winding_area`).
-- Assumes nothing.
use mathlib.Core.Path.{◌≡◌, refl, sym, ◌∙◌, ap, subst}
use mathlib.Core.Bool.{true, false, not, cond}
use mathlib.Core.List.{List, [], ◌∷◌, map, map-map, reverse, Permᴰ}
use mathlib.Core.Logic.{⊎_elim}
use Prim.Native.Nat.{ℕ, ◌<◌}
use borrow.Author.Tests.{eqb-true}
use lib.Dec.{eqb}
use lib.ListN.{length}
use lib.IntN.{ℤ, pos}
use lib.Signed.{◌<ℤ◌}
use Rattle.integers.specs.Lists.{All, sumℤ, rotate, links, neighbours, both as pairwise}
use Rattle.integers.proofs.Order.{zarith}
use Rattle.integers.proofs.Tests.{both_true, <-lt_z, lt_z-<}
use Rattle.integers.proofs.Elements.{all_map, all_map2, all_any, all_image, all_get_d, all_perm, any_perm}
use Rattle.integers.proofs.Rotation.{perm_rotate}
use Rattle.integers.proofs.Neighbours.{firsts_neighbours, map_neighbours, perm_neighbours_rotate}
use Rattle.plane.specs.Plane.{Pt, O, ◌-ᵖ◌, negᵖ, cross, angle_cmp, is_equal}
use Rattle.plane.specs.Contour.{edges, contour_area}
use Rattle.plane.proofs.Contours.{contour_rotate, contour_shift}
use Rattle.plane.specs.Halves.{Nz}
use Rattle.plane.proofs.Directions.{Le, Lt, nz_cases, lt_irrefl, lt_asym, lt_trans}
use Rattle.pair.specs.Walk.{corner_at, below, winding_terms}
use Rattle.pair.specs.Premise.{how_many, forward, descent, left, round_by, strictly_convex}
use Rattle.pair.specs.Demand.{live}
use Rattle.plane.proofs.Sides.{cross_zero_l, le_lt}
use Rattle.pair.proofs.Convex.{In, in_self, Sorted, Convex}
use Rattle.plane.proofs.Edges.{edges_rotate}
use Rattle.pair.proofs.Start.{below_total}
use Rattle.pair.proofs.Places.{backwards}
use Rattle.pair.proofs.Repeats.{RoundEdges}
use Rattle.pair.proofs.Live.{live_all}
use Rattle.pair.proofs.Counts.{all_pass, pass_all, perm_last}
use Rattle.pair.proofs.Readings.{backwards_readings, outline_on, outline_back}

-- ---- one strictly ascending list has given edges

-- the first of each is one of the other, so neither is before the other
sorted_unique : {a b : List Pt} → Sorted Lt a → Sorted Lt b → All (In b) a → All (In a) b → a ≡ b
sorted_unique {a = []} {b = []} sa sb h k = refl
sorted_unique {a = []} {b = y ∷ b} sa sb h k = absurd k.0
sorted_unique {a = x ∷ a} {b = []} sa sb h k = absurd h.0
sorted_unique {a = x ∷ a} {b = y ∷ b} sa sb h k = λ i. first i ∷ sorted_unique {a = a} {b = b} sa.1 sb.1 (past a b first sa.0 h.1) (past b a (sym first) sb.0 k.1) i
  where
    -- those after x are not y
    past : {x y : Pt} (a b : List Pt) → x ≡ y → All (Lt x) a → All (In (y ∷ b)) a → All (In b) a
    past {x} a b e = all_map2 a (λ z m i. ⊎_elim (λ d. absurd (lt_irrefl (subst (Lt x) (sym (e ∙ d)) m))) (λ d. d) i)

    first : x ≡ y
    first =
        ⊎_elim sym (λ p. ⊎_elim (λ e. e)
        (λ q. absurd (lt_asym (all_any b sb.0 p (λ z m e. subst (Lt y) e m)) (all_any a sa.0 q (λ z m e. subst (Lt x) e m)))) k.0) h.0

-- a list in another order has the same elements
perm_in : {a b : List Pt} → Permᴰ a b → All (In b) a
perm_in {a} {b} p = all_map a (λ c h. any_perm (λ q. q ≡ c) p h) (in_self a)

-- ---- ascending, with every turn to the left: strictly ascending

-- neighbours are before one another, and the order is transitive
strict : {E : List Pt} → Convex E → All (λ c. pos 0 <ℤ cross c.0 c.1) (neighbours E) → Sorted Lt E
strict {E = []} c h = tt
strict {E = e ∷ l} c h = along l c.nonzero c.ascends (all_perm (λ c. pos 0 <ℤ cross c.0 c.1) (perm_last e l) h).1
  where
    level_no : {k : ℤ} → pos 0 <ℤ k → k ≡ pos 0 → ⊥
    level_no h e = omega zarith

    along : {e : Pt} (l : List Pt) → All Nz (e ∷ l) → Sorted Le (e ∷ l) → All (λ c. pos 0 <ℤ cross c.0 c.1) (links e l) → Sorted Lt (e ∷ l)
    along {e} [] n a h = (tt, tt)
    along {e} (f ∷ l) n a h =
        let t : (pos 0 <ℤ cross e f) × All (λ c. pos 0 <ℤ cross c.0 c.1) (links f l) = unfold links in h in
        let r = along l n.1 a.1 t.1 in
        let k : Lt e f = le_lt a.0.0 (level_no t.0) in
        ((k, all_map2 l (λ g m j. lt_trans n.0 n.1.0 m k j) n.1.1 r.0), r)

-- ---- strictly convex contours

module _ (l : List Pt) (h : strictly_convex l ≡ true) where
  -- the two counts that `strictly_convex` tests
  pub sharp_counts : (how_many (λ c. not (left c)) (neighbours (edges l)) ≡ 0) × (how_many descent (neighbours (edges l)) ≡ 1)
  unfolding strictly_convex round_by
  sharp_counts = let t = both_true (eqb (how_many (λ c. not (left c)) (neighbours (edges l))) 0) (eqb (how_many descent (neighbours (edges l))) 1) h in (eqb-true _ _ t.0, eqb-true _ _ t.1)

  -- every turn is to the left
  sharp_turns : All (λ c. pos 0 <ℤ cross c.0 c.1) (neighbours (edges l))
  unfolding left
  sharp_turns = all_map (neighbours (edges l)) (λ c k. lt_z-< (pos 0) (cross c.0 c.1) k) (all_pass left (neighbours (edges l)) sharp_counts.0)

  -- no edge is zero
  pub sharp_nonzero : All Nz (edges l)
  sharp_nonzero = subst (All Nz) (firsts_neighbours (edges l)) ((all_image Nz (λ c. c.0) (neighbours (edges l))).1 (all_map (neighbours (edges l)) (λ c k. turning c.0 c.1 k) sharp_turns))
    where
      turning : (e f : Pt) → pos 0 <ℤ cross e f → Nz e
      turning e f k = ⊎_elim (λ z. absurd (none (subst (λ v. pos 0 <ℤ v) (ap (λ v. cross v f) z ∙ cross_zero_l f) k))) (λ n. n) (nz_cases e)
        where
          none : pos 0 <ℤ pos 0 → ⊥
          none k = omega zarith

  -- so the nonzero edges are all
  pub sharp_live : live (edges l) ≡ edges l
  sharp_live = live_all sharp_nonzero

  -- and they go round
  pub sharp_round : RoundEdges (live (edges l))
  unfolding forward
  sharp_round = subst RoundEdges (sym sharp_live) (record {
    calm = pass_all forward (neighbours (edges l)) (all_map (neighbours (edges l)) (λ c k. ap (λ b. cond b true (is_equal (angle_cmp c.0 c.1))) (<-lt_z k)) sharp_turns);
    once = sharp_counts.1;
  })

  -- read as W, from another corner
  module _ (W : List Pt) (same : Permᴰ (edges W) (edges l)) (round : Permᴰ (neighbours (edges W)) (neighbours (edges l))) (c : Convex (live (edges W))) where
    live_reading : live (edges W) ≡ edges W
    live_reading = live_all (all_perm Nz (mathlib.Core.List.Permᴰ.symm same) sharp_nonzero)

    ascends_reading : Sorted Lt (edges W)
    ascends_reading = strict (subst Convex live_reading c) (all_perm (λ t. pos 0 <ℤ cross t.0 t.1) (mathlib.Core.List.Permᴰ.symm round) sharp_turns)

-- the edges of a rotation, and their neighbours, in another order
perm_edges_rotate : (k : ℕ) (l : List Pt) → Permᴰ (edges (rotate k l)) (edges l)
perm_edges_rotate k l = subst (λ r. Permᴰ r (edges l)) (sym (edges_rotate k l)) (perm_rotate k (edges l))

-- and their turns
perm_turns_rotate : (k : ℕ) (l : List Pt) → Permᴰ (neighbours (edges (rotate k l))) (neighbours (edges l))
perm_turns_rotate k l = subst (λ r. Permᴰ (neighbours r) (neighbours (edges l))) (sym (edges_rotate k l)) (perm_neighbours_rotate k (edges l))

module _ (l : List Pt) (h : strictly_convex l ≡ true) {s : ℕ} (k : s < length l) (least : All (λ c. below c (corner_at l s) ≡ false) l) where
  -- from a least corner the edges are convex
  convex_on : Convex (live (edges (rotate s l)))
  convex_on = (outline_on l k least (sharp_round l h)).convex

  -- and none is zero
  pub sharp_live_on : live (edges (rotate s l)) ≡ edges (rotate s l)
  sharp_live_on = live_reading l h (rotate s l) (perm_edges_rotate s l) (perm_turns_rotate s l) convex_on

  -- from a least corner the edges ascend strictly
  pub sharp_ascends : Sorted Lt (edges (rotate s l))
  sharp_ascends = ascends_reading l h (rotate s l) (perm_edges_rotate s l) (perm_turns_rotate s l) convex_on

-- ---- where the reverse is strictly convex

module _ (l : List Pt) (h : strictly_convex (reverse l) ≡ true) {s : ℕ} (k : s < length l) (least : All (λ c. below c (corner_at l s) ≡ false) l) where
  -- backwards from s are the reverse's edges, in another order
  same_back : Permᴰ (edges (backwards (rotate s l))) (edges (reverse l))
  same_back = backwards_readings s l (λ r. Permᴰ (edges r) (edges (reverse l))) (λ j r p. mathlib.Core.List.Permᴰ.trans (perm_edges_rotate j r) p) (mathlib.Core.List.Permᴰ.refl (edges (reverse l)))

  -- and its turns
  turns_back : Permᴰ (neighbours (edges (backwards (rotate s l)))) (neighbours (edges (reverse l)))
  turns_back =
      backwards_readings s l (λ r. Permᴰ (neighbours (edges r)) (neighbours (edges (reverse l)))) (λ j r p. mathlib.Core.List.Permᴰ.trans (perm_turns_rotate j r) p)
      (mathlib.Core.List.Permᴰ.refl (neighbours (edges (reverse l))))

  -- convex from a least corner
  convex_back : Convex (live (edges (backwards (rotate s l))))
  convex_back = (outline_back l k least (sharp_round (reverse l) h)).convex

  -- backwards from a least corner the edges ascend strictly
  pub sharp_live_back : live (edges (backwards (rotate s l))) ≡ edges (backwards (rotate s l))
  sharp_live_back = live_reading (reverse l) h (backwards (rotate s l)) same_back turns_back convex_back

  -- and ascending strictly
  pub sharp_ascends_back : Sorted Lt (edges (backwards (rotate s l)))
  sharp_ascends_back = ascends_reading (reverse l) h (backwards (rotate s l)) same_back turns_back convex_back

  -- which is the reverse read onward from its own least corner
  module _ {j : ℕ} (i : j < length (reverse l)) (first : All (λ c. below c (corner_at (reverse l) j) ≡ false) (reverse l)) where
    pub sharp_back : edges (backwards (rotate s l)) ≡ edges (rotate j (reverse l))
    sharp_back =
        let p : Permᴰ (edges (backwards (rotate s l))) (edges (rotate j (reverse l))) = mathlib.Core.List.Permᴰ.trans same_back (mathlib.Core.List.Permᴰ.symm (perm_edges_rotate j (reverse l))) in
        sorted_unique sharp_ascends_back (sharp_ascends (reverse l) h i first) (perm_in p) (perm_in (mathlib.Core.List.Permᴰ.symm p))

    pub sharp_back_start : corner_at l s ≡ corner_at (reverse l) j
    sharp_back_start =
        below_total (corner_at l s) (corner_at (reverse l) j)
        (all_get_d (λ c. below c (corner_at (reverse l) j) ≡ false) l O (all_perm (λ c. below c (corner_at (reverse l) j) ≡ false) (mathlib.Core.List.Permᴰ.reverse l) first) s k)
        (all_get_d (λ c. below c (corner_at l s) ≡ false) (reverse l) O (all_perm (λ c. below c (corner_at l s) ≡ false) (mathlib.Core.List.Permᴰ.symm (mathlib.Core.List.Permᴰ.reverse l)) least) j i)

-- ---- the winding and the area

-- seen from s, or from the origin
pub winding_area : (s : ℕ) (l : List Pt) → sumℤ (winding_terms s l) ≡ contour_area l
unfolding winding_terms contour_area
winding_area s l =
    ap sumℤ (sym (map-map (λ e. cross e.0 e.1) (pairwise (λ p. p -ᵖ corner_at l s)) (neighbours (rotate s l)))
    ∙ ap (map (λ e. cross e.0 e.1)) (map_neighbours (λ p. p -ᵖ corner_at l s) (rotate s l)))
    ∙ contour_shift (negᵖ (corner_at l s)) (rotate s l) ∙ contour_rotate s l
