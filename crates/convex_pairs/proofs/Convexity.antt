-- Strictly convex contours are those with three corners or more, any three of which turn left
-- (`Polygon`). In order: seen from a least corner the others ascend (`least_triples`), so strictly
-- convex contours have triples (`convex_triples`) and three corners (`convex_polygon`); a polygon's
-- doubled area is above 0 (`polygon_area`), and seen from a corner no edge of it runs clockwise
-- (`triples_wedges`); built corner by corner from its first triangle it goes once round with every
-- turn to the left (`polygon_convex`). Assumes nothing.
use mathlib.Core.Path.{◌≡◌, refl, sym, ◌∙◌, ap, subst}
use mathlib.Core.Bool.{true}
use mathlib.Core.List.{List, [], ◌∷◌, ◌++◌}
use Prim.Native.Nat.{ℕ, suc, ◌-◌, ◌≤◌, ◌<◌}
use native.Mathlib.Omega.{arith}
use lib.ListN.{length, take, drop}
use lib.IntN.{pos}
use lib.Signed.{◌≤ℤ◌, ◌<ℤ◌, ≤ℤ_refl}
use Rattle.integers.specs.Lists.{All, rotate, links, neighbours}
use Rattle.integers.proofs.Ring.{con, ◌:≡◌, ◌:≡ᵖ◌, pt, ring, ringᵖ}
use Rattle.integers.proofs.Order.{<-≤}
use Rattle.integers.proofs.Signs.{pos_add, pos_is, nn_is}
use Rattle.integers.proofs.Tests.{<-lt_z, ≤-le_z}
use Rattle.integers.proofs.Elements.{all_map, all_map2}
use Rattle.integers.proofs.Rotation.{rotate_at, rotate_back}
use Rattle.plane.specs.Plane.{Pt, O, ◌+ᵖ◌, ◌-ᵖ◌, cross, area_two}
use Rattle.plane.specs.Contour.{edges, last_of, contour_area}
use Rattle.plane.proofs.Terms.{◌+E◌, ◌-E◌, cross_e, area_two_e}
use Rattle.plane.proofs.Vectors.{+ᵖ-zero, area_cycle, area_is_turn}
use Rattle.plane.proofs.Contours.{contour_triangle, contour_insert}
use Rattle.plane.specs.Halves.{Up}
use Rattle.plane.proofs.Directions.{Lt, lt_trans, lt_in_half, lower_up, nz_of_up}
use Rattle.convex.specs.Joining.{joins}
use Rattle.convex.proofs.Round.{Round, round_triangle, round_join}
use Rattle.convex.proofs.Parts.{StrictlyConvex, convex_three}
use Rattle.pair.specs.Walk.{least_at, corner_at}
use Rattle.pair.specs.Premise.{turns, left, descent, round_by, strictly_convex}
use Rattle.pair.specs.Demand.{sumᵖ}
use Rattle.pair.proofs.Convex.{Sorted, Convex}
use Rattle.pair.proofs.Totals.{sum_cons}
use Rattle.pair.proofs.Splits.{Split, split_start, split_next}
use Rattle.pair.proofs.Start.{least_is, least_all}
use Rattle.pair.proofs.Counts.{all_last, all_pass, pass_all, count_sum}
use Rattle.pair.proofs.Upper.{split_le, up_corner, left_strictly}
use Rattle.pair.proofs.Gaps.{turns_left}
use Rattle.pair.proofs.Tables.{steps}
use Rattle.pair.proofs.Readings.{outline_on}
use Rattle.pair.proofs.Sharp.{sharp_counts, sharp_round, sharp_live_on, sharp_ascends}
use Rattle.convex_pairs.proofs.Triples.{Left, Triples, Bends, sorted_map, triples_rotate, triples_fan}

-- three corners or more, any three turning left
pub record Polygon (l : List Pt) : Type 0 where
  pub long : 3 ≤ length l
  pub triples : Triples l

-- ---- seen from a least corner

-- in the upper half a cross above 0 is transitive
up_trans_< : {u v w : Pt} → Up u → Up v → Up w → pos 0 <ℤ cross u v → pos 0 <ℤ cross v w → pos 0 <ℤ cross u w
up_trans_< hu hv hw h k =
    (lt_in_half (lower_up hu ∙ sym (lower_up hw))).0
    (lt_trans (nz_of_up hu) (nz_of_up hv) (nz_of_up hw) ((lt_in_half (lower_up hu ∙ sym (lower_up hv))).1 h) ((lt_in_half (lower_up hv ∙ sym (lower_up hw))).1 k))

-- (p - c) × (q - p) = (p - c) × (q - c)
seen_edge : (c p q : Pt) → area_two c p q ≡ cross (p -ᵖ c) (q -ᵖ p)
seen_edge = ring (pt ∷ pt ∷ pt ∷ []) (λ c p q. area_two_e c p q :≡ cross_e (p -E c) (q -E p)) tt

-- (q - p) + (p - c) = q - c
way_on : (c p q : Pt) → (q -ᵖ p) +ᵖ (p -ᵖ c) ≡ q -ᵖ c
way_on = ringᵖ (pt ∷ pt ∷ pt ∷ []) (λ c p q. (q -E p) +E (p -E c) :≡ᵖ q -E c) tt

-- from c round E: p is the corner after the edges a ∷ A, and r are the corners after p
module _ (c : Pt) {E : List Pt} (k : Convex E) where
  next_left : {a : Pt} {A : List Pt} (p q : Pt) (r : List Pt) → Split Lt E (a ∷ A) ((q -ᵖ p) ∷ steps q (r ++ (c ∷ []))) → sumᵖ (a ∷ A) ≡ p -ᵖ c → Left c p q
  unfolding links
  next_left p q [] s e = pos_is (seen_edge c p q) (subst (λ v. pos 0 <ℤ cross v (q -ᵖ p)) e (left_strictly k s))
  next_left p q (x ∷ r) s e = pos_is (seen_edge c p q) (subst (λ v. pos 0 <ℤ cross v (q -ᵖ p)) e (left_strictly k s))

  -- in the upper half, ascending
  ascends_from : {a : Pt} {A : List Pt} (p : Pt) (r : List Pt) → Split Lt E (a ∷ A) (steps p (r ++ (c ∷ []))) → sumᵖ (a ∷ A) ≡ p -ᵖ c
      → All (λ q. Up (q -ᵖ c)) (p ∷ r) × Sorted (Left c) (p ∷ r)
  unfolding links
  ascends_from {a} {A} p [] s e = ((subst Up e (up_corner k (split_le s)), tt), (tt, tt))
  ascends_from {a} {A} p (q ∷ r) s e =
      let on : sumᵖ ((q -ᵖ p) ∷ a ∷ A) ≡ q -ᵖ c = sum_cons (q -ᵖ p) (a ∷ A) ∙ ap (λ v. (q -ᵖ p) +ᵖ v) e ∙ way_on c p q in
      let i = ascends_from {a = q -ᵖ p} {A = a ∷ A} q r (split_next s) on in
      let u : Up (p -ᵖ c) = subst Up e (up_corner k (split_le s)) in
      let h : Left c p q = next_left p q r s e in
      ((u, i.0), ((h, all_map2 r (λ x v g. up_trans_< u i.0.0 v h g) i.0.1 i.1.0), i.1))

-- each turn of the way from a over b, as a bend
bends_along : (a b : Pt) (l m : List Pt) → All (λ t. pos 0 <ℤ cross t.0 t.1) (links (b -ᵖ a) (steps b l ++ m)) → Bends a b l
unfolding links
bends_along a b [] m h = tt
bends_along a b (c ∷ l) m h = (pos_is (area_is_turn a b c) h.0, bends_along b c l m h.1)

-- the last left out
pub bends_front : (a b : Pt) (l : List Pt) (x : Pt) → Bends a b (l ++ (x ∷ [])) → Bends a b l
bends_front a b [] x h = tt
bends_front a b (c ∷ l) x h = (h.0, bends_front b c l x h.1)

-- so from a least corner c
from_least : (c p : Pt) (r : List Pt) → Convex (edges (c ∷ p ∷ r)) → Sorted Lt (edges (c ∷ p ∷ r)) → Sorted (Left c) (p ∷ r)
unfolding edges neighbours links
from_least c p r k s =
    let E : List Pt = edges (c ∷ p ∷ r) in
    let one : sumᵖ ((p -ᵖ c) ∷ []) ≡ p -ᵖ c = sum_cons (p -ᵖ c) [] ∙ (unfold sumᵖ in +ᵖ-zero (p -ᵖ c)) in
    (ascends_from c k p r (split_next (split_start s)) one).1

-- the others ascend and bend to the left
least_triples : (c : Pt) (l : List Pt) → Convex (edges (c ∷ l)) → Sorted Lt (edges (c ∷ l)) → Triples (c ∷ l)
unfolding edges neighbours links
least_triples c [] k s = (tt, tt)
least_triples c (p ∷ []) k s = (from_least c p [] k s, (tt, tt))
least_triples c (p ∷ q ∷ r) k s =
    let h = from_least c p (q ∷ r) k s in
    let t = turns_left k s in
    (h, triples_fan c p q r h (bends_front p q r c (bends_along p q (r ++ (c ∷ [])) ((p -ᵖ c) ∷ []) t.1)))

-- read from its least corner, and then from its first
convex_triples : (l : List Pt) → strictly_convex l ≡ true → Triples l
convex_triples [] h = tt
convex_triples (p ∷ t) h =
    let l : List Pt = p ∷ t in
    let s : ℕ = least_at l in
    let k : s < length l = (least_is l (omega arith)).inside in
    let least = least_all l (omega arith) in
    let at : rotate s l ≡ corner_at l s ∷ (drop (suc s) l ++ take s l) = rotate_at l O k in
    let c : Convex (edges (rotate s l)) = subst Convex (sharp_live_on l h k least) (outline_on l k least (sharp_round l h)).convex in
    let w : Triples (corner_at l s ∷ (drop (suc s) l ++ take s l)) =
    least_triples (corner_at l s) (drop (suc s) l ++ take s l) (subst (λ r. Convex (edges r)) at c) (subst (λ r. Sorted Lt (edges r)) at (sharp_ascends l h k least)) in
    subst Triples (rotate_back l (omega arith)) (triples_rotate (length l - s) (rotate s l) (subst Triples (sym at) w))

-- joining's words and demand 3's are the same tests
pub convex_test : {l : List Pt} → StrictlyConvex l → strictly_convex l ≡ true
unfolding strictly_convex round_by left descent
convex_test {l} s = rw (pass_all left (turns l) s.left, count_sum descent (turns l) ∙ s.once)

pub test_convex : (l : List Pt) → strictly_convex l ≡ true → StrictlyConvex l
unfolding left descent
test_convex l h = record { left = all_pass left (turns l) (sharp_counts l h).0; once = sym (count_sum descent (turns l)) ∙ (sharp_counts l h).1 }

pub convex_polygon : {l : List Pt} → StrictlyConvex l → Polygon l
convex_polygon {l} s = record { long = convex_three l s; triples = convex_triples l (convex_test s) }

-- ---- the doubled area

-- Σ of the triangles from the first corner
triples_area : (a b c : Pt) (l : List Pt) → Triples (a ∷ b ∷ c ∷ l) → pos 0 <ℤ contour_area (a ∷ b ∷ c ∷ l)
triples_area a b c [] h = pos_is (contour_triangle a b c) h.0.0.0
triples_area a b c (d ∷ l) h = pos_is (contour_insert a b c (d ∷ l)) (pos_add (triples_area a c d l (h.0.1, h.1.1)) (<-≤ h.0.0.0))

pub polygon_area : {l : List Pt} → Polygon l → pos 0 <ℤ contour_area l
polygon_area {l = []} h = absurd (omega (arith, h.long))
polygon_area {l = a ∷ []} h = absurd (omega (arith, h.long))
polygon_area {l = a ∷ b ∷ []} h = absurd (omega (arith, h.long))
polygon_area {l = a ∷ b ∷ c ∷ l} h = triples_area a b c l h.triples

-- ---- wedges

-- (a - a) × v = 0 and v × (a - a) = 0
flat_first : (a q : Pt) → area_two a a q ≡ pos 0
flat_first = ring (pt ∷ pt ∷ []) (λ a q. area_two_e a a q :≡ con (pos 0)) tt

flat_last : (a q : Pt) → area_two a q a ≡ pos 0
flat_last = ring (pt ∷ pt ∷ []) (λ a q. area_two_e a q a :≡ con (pos 0)) tt

wedges_on : (c q : Pt) (l : List Pt) → Sorted (Left c) (q ∷ l) → All (λ e. pos 0 ≤ℤ area_two c e.0 e.1) (links q (l ++ (c ∷ [])))
unfolding links
wedges_on c q [] h = (nn_is (flat_last c q) (≤ℤ_refl (pos 0)), tt)
wedges_on c q (p ∷ l) h = (<-≤ h.0.0, wedges_on c p l h.1)

-- seen from the first corner, no edge runs clockwise
pub triples_wedges : (c : Pt) (l : List Pt) → Triples (c ∷ l) → All (λ e. pos 0 ≤ℤ area_two c e.0 e.1) (neighbours (c ∷ l))
unfolding neighbours links
triples_wedges c [] h = (nn_is (flat_first c c) (≤ℤ_refl (pos 0)), tt)
triples_wedges c (p ∷ l) h = (nn_is (flat_first c p) (≤ℤ_refl (pos 0)), wedges_on c p l h.0)

-- ---- from triples to strictly convex

-- (x - a) × (p - x) = area of x, p, a
turn_back : (a x p : Pt) → cross (x -ᵖ a) (p -ᵖ x) ≡ area_two x p a
turn_back = ring (pt ∷ pt ∷ pt ∷ []) (λ a x p. cross_e (x -E a) (p -E x) :≡ area_two_e x p a) tt

-- "It joins when (a−a0) cross (p−a) and (b−p) cross (b0−b) are both at least 0."
joins_left : (a0 x p b b0 : Pt) → Left x p a0 → Left p b b0 → joins a0 x p b b0 ≡ true
unfolding joins
joins_left a0 x p b b0 h k =
    rw (≤-le_z {x = pos 0} {y = cross (x -ᵖ a0) (p -ᵖ x)} (nn_is (turn_back a0 x p) (<-≤ h)), ≤-le_z {x = pos 0} {y = cross (b -ᵖ p) (b0 -ᵖ b)} (nn_is (sym (area_is_turn p b b0)) (<-≤ k)))

-- the second corner put between the first and the third
triples_round : (x p b : Pt) (l : List Pt) → Triples (x ∷ p ∷ b ∷ l) → Round (edges (x ∷ p ∷ b ∷ l))
triples_round x p b [] h = round_triangle x p b h.0.0.0
triples_round x p b (b0 ∷ l) h =
    round_join x p b b0 l refl h.0.0.0 (joins_left (last_of b0 l) x p b b0 (all_last (Left x p) l h.0.0.1) h.1.0.0.0)
    (triples_round x b b0 l (h.0.1, h.1.1))

-- over u, v and l on to x and y
bends_on : (u v : Pt) (l : List Pt) (x y : Pt) → Triples (u ∷ v ∷ l) → Sorted (λ p q. Left p q x) (u ∷ v ∷ l) → All (λ q. Left q x y) (v ∷ l) → Bends u v (l ++ (x ∷ y ∷ []))
bends_on u v [] x y h s a = (s.0.0, (a.0, tt))
bends_on u v (w ∷ l) x y h s a = (h.0.0.0, bends_on v w l x y h.1 s.1 a.1)

-- the bends are the turns
turns_along : (a b : Pt) (l : List Pt) (x y : Pt) → Bends a b (l ++ (x ∷ y ∷ [])) → All (λ t. pos 0 <ℤ cross t.0 t.1) (links (b -ᵖ a) (steps b (l ++ (x ∷ [])) ++ ((y -ᵖ x) ∷ [])))
unfolding links
turns_along a b [] x y h = (pos_is (sym (area_is_turn a b x)) h.0, (pos_is (sym (area_is_turn b x y)) h.1.0, tt))
turns_along a b (c ∷ l) x y h = (pos_is (sym (area_is_turn a b c)) h.0, turns_along b c l x y h.1)

-- round the contour and on over its first edge
pub triples_bends : (a b c : Pt) (l : List Pt) → Triples (a ∷ b ∷ c ∷ l) → Bends a b (c ∷ l ++ (a ∷ b ∷ []))
triples_bends a b c l h = (
  h.0.0.0,
  bends_on b c l a b h.1
      (sorted_map (Left a) (λ p q k. pos_is (area_cycle a p q) k) (b ∷ c ∷ l) h.0)
      (all_map (c ∷ l) (λ q k. pos_is (sym (area_cycle q a b)) k) h.0.0),
)

triples_turns : (a b c : Pt) (l : List Pt) → Triples (a ∷ b ∷ c ∷ l) → All (λ t. pos 0 <ℤ cross t.0 t.1) (neighbours (edges (a ∷ b ∷ c ∷ l)))
unfolding edges neighbours links
triples_turns a b c l h = turns_along a b (c ∷ l) a b (triples_bends a b c l h)

pub polygon_convex : {l : List Pt} → Polygon l → StrictlyConvex l
polygon_convex {l = []} h = absurd (omega (arith, h.long))
polygon_convex {l = a ∷ []} h = absurd (omega (arith, h.long))
polygon_convex {l = a ∷ b ∷ []} h = absurd (omega (arith, h.long))
polygon_convex {l = a ∷ b ∷ c ∷ l} h = record {
  left = all_map (neighbours (edges (a ∷ b ∷ c ∷ l))) (λ t k. <-lt_z k) (triples_turns a b c l h.triples);
  once = (triples_round a b c l h.triples).once;
}
