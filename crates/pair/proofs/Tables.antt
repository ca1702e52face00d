-- From a table of corners to a convex list of edges. W = P ∷ t is the table read from a least
-- corner P. In order: the way along a list (`steps`), its corners and points, its end, and the
-- winding's terms; from a least corner with `RoundEdges`, `live (edges W)` is convex
-- (`convex_read`), its winding above 0 (`winding_read`), and W's outline (`outline_read`). Assumes
-- nothing.
use mathlib.Core.Path.{◌≡◌, refl, sym, ◌∙◌, ap, ap₂, subst, subst₂}
use mathlib.Core.Bool.{true, false, cond}
use mathlib.Core.List.{List, [], ◌∷◌, ◌++◌, map}
use mathlib.Core.Logic.{◌⊎◌, inl, inr, ⊎_elim}
use Prim.Native.Nat.{ℕ, ◌+◌}
use native.Mathlib.Omega.{arith}
use lib.IntN.{ℤ, pos, ◌+ℤ◌}
use lib.Signed.{◌<ℤ◌, lt_z}
use Rattle.integers.specs.Lists.{All, Any, sumℤ, links, neighbours}
use Rattle.integers.proofs.Ring.{◌:+◌, ◌:≡◌, ◌:≡ᵖ◌, pt, int, ring, ringᵖ}
use Rattle.integers.proofs.Order.{zarith, by_test}
use Rattle.integers.proofs.Elements.{all_map, all_map2, any_map, all_any, all_append, all_perm, any_append}
use Rattle.integers.proofs.Tests.{differ, lt_z-<}
use Rattle.plane.specs.Plane.{Pt, O, ◌+ᵖ◌, ◌-ᵖ◌, negᵖ, cross, is_equal}
use Rattle.plane.specs.Contour.{edges, last_of}
use Rattle.plane.proofs.Terms.{OE, ◌+E◌, ◌-E◌, cross_e}
use Rattle.plane.proofs.Vectors.{+ᵖ_assoc, +ᵖ-zero, +ᵖ--ᵖ}
use Rattle.plane.specs.Halves.{Up, Nz}
use Rattle.plane.proofs.Directions.{LtAt, Le, Lt, Same, before, beside, after, angle_cases, le_trans, clash, same_le, lower_up, lower_down, nz_not_zero}
use Rattle.pair.specs.Premise.{how_many, forward, descent}
use Rattle.pair.specs.Berg.{corners_from}
use Rattle.pair.specs.Demand.{live, sumᵖ}
use Rattle.plane.proofs.Sides.{+ᵖ_sub, +ᵖ_cancel, sub_zero, sub_self, neg_of_sum, Line, line_swap, line_trans, ahead, behind, ahead_cases, lt_ahead}
use Rattle.pair.proofs.Convex.{In, Sorted, Convex, Outline}
use Rattle.pair.proofs.Live.{live_by, live_nz, sum_live}
use Rattle.pair.proofs.Reaches.{reach_same, convex_nonempty, corners_nonempty}
use Rattle.pair.proofs.Repeats.{how_many_perm, RoundEdges}
use Rattle.pair.proofs.Counts.{bit, count_cons, all_count, all_pass, perm_last, all_last}
use Rattle.pair.proofs.Windings.{crossings, winding_pos}

-- ---- the way from p along m: its edges, and those of a closed contour

-- from each point to the next
abbrev pub steps : Pt → List Pt → List Pt
steps p m = map (λ e. e.1 -ᵖ e.0) (links p m)

-- round a contour, back to its first corner
pub edges_steps : (c : Pt) (l : List Pt) → edges (c ∷ l) ≡ steps c (l ++ (c ∷ []))
unfolding edges neighbours
edges_steps c l = refl

-- it ends at the last of m
steps_sum : (p : Pt) (m : List Pt) → p +ᵖ sumᵖ (steps p m) ≡ last_of p m
unfolding links sumᵖ last_of
steps_sum p [] = +ᵖ-zero p
steps_sum p (r ∷ m) = sym (+ᵖ_assoc p (r -ᵖ p) (sumᵖ (steps r m))) ∙ ap (λ v. v +ᵖ sumᵖ (steps r m)) (+ᵖ--ᵖ p r) ∙ steps_sum r m

-- the last of l and c is c
last_snoc : (p : Pt) (l : List Pt) (c : Pt) → last_of p (l ++ (c ∷ [])) ≡ c
unfolding last_of
last_snoc p [] c = refl
last_snoc p (r ∷ l) c = last_snoc r l c

-- the edges of a contour add up to 0
pub sum_edges : (l : List Pt) → sumᵖ (edges l) ≡ O
sum_edges [] = unfold edges neighbours sumᵖ in refl
sum_edges (c ∷ l) =
    ap sumᵖ (edges_steps c l)
    ∙ +ᵖ_cancel c (sumᵖ (steps c (l ++ (c ∷ [])))) O (steps_sum c (l ++ (c ∷ [])) ∙ last_snoc c l c ∙ sym (+ᵖ-zero c))

-- the corners of its nonzero edges are points of it
corners_in : (p : Pt) (m : List Pt) → All (In (p ∷ m)) (corners_from p (live (steps p m)))
unfolding links corners_from
corners_in p [] = unfold live in tt
corners_in p (r ∷ m) =
    live_by (steps r m) (λ l. All (In (p ∷ r ∷ m)) (corners_from p l))
    (λ h. on (sub_zero h) (corners_in r m)) (λ h. (inl refl, on (sym (+ᵖ--ᵖ p r)) (corners_in r m)))
  where
    on : {v : Pt} → r ≡ v → All (In (r ∷ m)) (corners_from r (live (steps r m))) → All (In (p ∷ r ∷ m)) (corners_from v (live (steps r m)))
    on {v} e h = all_map (corners_from v (live (steps r m))) (λ c k. inr k) (subst (λ v. All (In (r ∷ m)) (corners_from v (live (steps r m)))) e h)

-- and its points are among those corners, or equal to the last
points_in : (p : Pt) (m : List Pt) → All (λ c. In (corners_from p (live (steps p m))) c ⊎ (c ≡ last_of p m)) (p ∷ m)
unfolding links corners_from last_of
points_in p [] = (inr refl, tt)
points_in p (r ∷ m) =
    live_by (steps r m) (λ l. All (λ c. In (corners_from p l) c ⊎ (c ≡ last_of r m)) (p ∷ r ∷ m))
    (λ h. subst (λ v. All (λ c. In (corners_from v (live (steps r m))) c ⊎ (c ≡ last_of r m)) (v ∷ r ∷ m)) (sub_zero h) ((points_in r m).0, points_in r m))
    (λ h. (inl (inl refl), all_map (r ∷ m) (λ c k. ⊎_elim (λ a. inl (inr (subst (λ v. In (corners_from v (live (steps r m))) c) (sym (+ᵖ--ᵖ p r)) a))) inr k) (points_in r m)))

-- ---- the winding's terms, of points and of edges

-- (p - s) × (r - s) = (p - s) × (r - p)
terms_crossings : (s p : Pt) (m : List Pt) → map (λ e. cross (e.0 -ᵖ s) (e.1 -ᵖ s)) (links p m) ≡ crossings (p -ᵖ s) (steps p m)
unfolding links crossings
terms_crossings s p [] = refl
terms_crossings s p (r ∷ m) = ap₂ ◌∷◌ (term s p r) (terms_crossings s r m ∙ ap (λ v. crossings v (steps r m)) (on s p r))
  where
    term : (s p r : Pt) → cross (p -ᵖ s) (r -ᵖ s) ≡ cross (p -ᵖ s) (r -ᵖ p)
    term = ring (pt ∷ pt ∷ pt ∷ []) (λ s p r. cross_e (p -E s) (r -E s) :≡ cross_e (p -E s) (r -E p)) tt

    on : (s p r : Pt) → r -ᵖ s ≡ (p -ᵖ s) +ᵖ (r -ᵖ p)
    on = ringᵖ (pt ∷ pt ∷ pt ∷ []) (λ s p r. r -E s :≡ᵖ (p -E s) +E (r -E p)) tt

-- a zero edge adds nothing
crossings_live : (u : Pt) (l : List Pt) → sumℤ (crossings u (live l)) ≡ sumℤ (crossings u l)
unfolding crossings sumℤ
crossings_live u [] = unfold live in refl
crossings_live u (e ∷ l) =
    live_by l (λ r. sumℤ (crossings u r) ≡ cross u e +ℤ sumℤ (crossings (u +ᵖ e) l))
    (λ h. crossings_live u l ∙ nothing u (sumℤ (crossings u l)) ∙ (λ i. cross u (sym h i) +ℤ sumℤ (crossings ((sym (+ᵖ-zero u) ∙ ap (λ v. u +ᵖ v) (sym h)) i) l)))
    (λ h. ap (λ k. cross u e +ℤ k) (crossings_live (u +ᵖ e) l))
  where
    nothing : (u : Pt) (k : ℤ) → k ≡ cross u O +ℤ k
    nothing = ring (pt ∷ int ∷ []) (λ u k. k :≡ cross_e u OE :+ k) tt

-- the sum of the crosses of neighbouring corners, seen from s
abbrev pub winding_of : Pt → List Pt → ℤ
winding_of s l = sumℤ (map (λ e. cross (e.0 -ᵖ s) (e.1 -ᵖ s)) (neighbours l))

-- the winding is that of the nonzero edges
winding_crossings : (s : Pt) (t : List Pt) → winding_of s (s ∷ t) ≡ sumℤ (crossings O (live (edges (s ∷ t))))
unfolding neighbours
winding_crossings s t =
    ap sumℤ (terms_crossings s s (t ++ (s ∷ [])) ∙ ap (λ v. crossings v (steps s (t ++ (s ∷ [])))) (sub_self s))
    ∙ sym (crossings_live O (steps s (t ++ (s ∷ [])))) ∙ ap (λ l. sumℤ (crossings O (live l))) (sym (edges_steps s t))

-- ---- from a least corner

-- c is s, or after it by (y, x)
abbrev pub From : Pt → Pt → Type 0
From s c = (c ≡ s) ⊎ Up (c -ᵖ s)

-- the first edge leads up
first_up : (s : Pt) {e : Pt} (f : Pt) (l : List Pt) → Nz e → All (From s) (corners_from s (e ∷ f ∷ l)) → Up e
unfolding corners_from
first_up s {e} f l n h = ⊎_elim (λ k. absurd (nz_not_zero n (+ᵖ_cancel s e O (k ∙ sym (+ᵖ-zero s))))) (λ k. subst Up (+ᵖ_sub s e) k) h.1.0

-- the last edge leads from some corner to the end
last_corner : (q e : Pt) (l : List Pt) → Any (λ c. c +ᵖ last_of e l ≡ q +ᵖ sumᵖ (e ∷ l)) (corners_from q (e ∷ l))
unfolding corners_from sumᵖ last_of
last_corner q e [] = inl (ap (λ v. q +ᵖ v) (sym (+ᵖ-zero e)))
last_corner q e (f ∷ l) = inr (any_map (corners_from (q +ᵖ e) (f ∷ l)) (λ c h. h ∙ +ᵖ_assoc q e (sumᵖ (f ∷ l))) (last_corner (q +ᵖ e) f l))

-- the last one down
last_down : (s e : Pt) (l : List Pt) → Nz (last_of e l) → sumᵖ (e ∷ l) ≡ O → All (From s) (corners_from s (e ∷ l)) → Up (negᵖ (last_of e l))
last_down s e l n z h =
    all_any (corners_from s (e ∷ l)) h (last_corner s e l) (λ c k m. let back : c +ᵖ last_of e l ≡ s = m ∙ ap (λ v. s +ᵖ v) z ∙ +ᵖ-zero s in
    ⊎_elim (λ a. absurd (nz_not_zero n (+ᵖ_cancel s (last_of e l) O (ap (λ v. v +ᵖ last_of e l) (sym a) ∙ back ∙ sym (+ᵖ-zero s)))))
    (λ a. subst Up (neg_of_sum (c -ᵖ s) (last_of e l) (over c s (last_of e l) ∙ ap (λ v. v -ᵖ s) back ∙ sub_self s)) a) k)
  where
    over : (c s f : Pt) → (c -ᵖ s) +ᵖ f ≡ (c +ᵖ f) -ᵖ s
    over = ringᵖ (pt ∷ pt ∷ pt ∷ []) (λ c s f. (c -E s) +E f :≡ᵖ (c +E f) -E s) tt

-- upper before lower
up_down : {u : Pt} (v : Pt) → Up u → Up (negᵖ v) → Lt u v
up_down {u} v a b = record { lt = subst₂ (λ p q. LtAt p q (cross u v)) (sym (lower_up a)) (sym (lower_down v b)) tt }

-- no descent along the way: weakly ascending
no_descent : {e : Pt} (l : List Pt) → Nz e → All Nz l → All (λ c. descent c ≡ false) (links e l) → Sorted Le (e ∷ l)
unfolding links descent
no_descent [] ne nl h = (tt, tt)
no_descent {e} (f ∷ l) ne nl h =
    let r = no_descent l nl.0 nl.1 h.1 in
    let k : Le e f = elim (ahead_cases f e) [ ahead t m ↦ differ (sym h.0 ∙ t) | behind t m ↦ m ] in
    ((k, all_map2 l (λ g n m. le_trans ne nl.0 n k m) nl.1 r.0), r)

-- forward: to the left, or straight on with the direction kept
pub forward_cases : (c : Pt × Pt) → forward c ≡ true → (pos 0 <ℤ cross c.0 c.1) ⊎ Same c.0 c.1
unfolding forward
forward_cases c h =
    by_test (lt_z (pos 0) (cross c.0 c.1)) (λ t. inl (lt_z-< (pos 0) (cross c.0 c.1) t))
    (λ t. elim (angle_cases c.0 c.1) [
      | beside e s ↦ inr s
      | before e k ↦ differ (sym (ap₂ (λ b o. cond b true (is_equal o)) t e) ∙ h)
      | after e k ↦ differ (sym (ap₂ (λ b o. cond b true (is_equal o)) t e) ∙ h)
    ])

-- the descent from the last edge to the first is the only one, and were all on one line, that turn
-- would go back
convex_many : (s : Pt) {e f : Pt} {l : List Pt} → All Nz (e ∷ f ∷ l) → sumᵖ (e ∷ f ∷ l) ≡ O → All (From s) (corners_from s (e ∷ f ∷ l)) → RoundEdges (e ∷ f ∷ l) → Convex (e ∷ f ∷ l)
unfolding descent
convex_many s {e} {f} {l} n z from round = record {
  nonzero = n;
  ascends = no_descent (f ∷ l) n.0 n.1 (all_count descent (links e (f ∷ l)) none);
  closed = z;
  wide = λ v nv h. ⊎_elim (λ k. zero_pos k (line_trans e g nv (line_swap e v h.0) (all_last (Line v) (f ∷ l) h))) (λ k. clash falls (same_le k).0) (forward_cases (g, e) onward);
}
  where
    zero_pos : {k : ℤ} → pos 0 <ℤ k → k ≡ pos 0 → ⊥
    zero_pos h e = omega zarith

    g : Pt
    g = last_of e (f ∷ l)

    falls : Lt e g
    falls = up_down g (first_up s f l n.0 from) (last_down s e (f ∷ l) (all_last Nz (f ∷ l) n) z from)

    none : how_many descent (links e (f ∷ l)) ≡ 0
    none =
        rest (how_many descent (links e (f ∷ l))) (ap (λ b. bit b + how_many descent (links e (f ∷ l))) (sym (lt_ahead falls))
        ∙ sym (count_cons descent (g, e) (links e (f ∷ l))) ∙ sym (how_many_perm descent (perm_last e (f ∷ l))) ∙ round.once)
      where
        rest : (k : ℕ) → 1 + k ≡ 1 → k ≡ 0
        rest k h = omega arith

    onward : forward (g, e) ≡ true
    onward = (all_perm (λ c. forward c ≡ true) (perm_last e (f ∷ l)) (all_pass forward (neighbours (e ∷ f ∷ l)) round.calm)).0

-- one edge alone does not close, and none has no descent
convex_from : (s : Pt) {E : List Pt} → All Nz E → sumᵖ E ≡ O → All (From s) (corners_from s E) → RoundEdges E → Convex E
unfolding neighbours how_many sumᵖ
convex_from s {E = []} n z from round = absurd (omega (arith, round.once))
convex_from s {E = e ∷ []} n z from round = absurd (nz_not_zero n.0 (sym (+ᵖ-zero e) ∙ z))
convex_from s {E = e ∷ f ∷ l} n z from round = convex_many s n z from round

-- ---- the table read from its least corner

module _ {s : Pt} (t : List Pt) (least : All (From s) (s ∷ t)) (round : RoundEdges (live (edges (s ∷ t)))) where
  -- the corners of the nonzero edges are corners of the table
  corners_on : All (In (s ∷ t)) (corners_from s (live (edges (s ∷ t))))
  corners_on =
      all_map (corners_from s (live (edges (s ∷ t)))) (λ c k. ⊎_elim (λ e. inl e) (λ a. ⊎_elim inr (⊎_elim inl absurd) ((any_append (λ q. q ≡ c) t (s ∷ [])).0 a)) k)
      (subst (λ l. All (In (s ∷ t ++ (s ∷ []))) (corners_from s (live l))) (sym (edges_steps s t)) (corners_in s (t ++ (s ∷ []))))

  -- the nonzero edges are convex
  pub convex_read : Convex (live (edges (s ∷ t)))
  convex_read =
      convex_from s (live_nz (edges (s ∷ t))) (sum_live (edges (s ∷ t)) ∙ sum_edges (s ∷ t))
      (all_map (corners_from s (live (edges (s ∷ t)))) (λ c a. all_any (s ∷ t) least a (λ q b e. subst (From s) e b)) corners_on) round

  -- the winding is above 0
  pub winding_read : pos 0 <ℤ winding_of s (s ∷ t)
  winding_read = subst (λ k. pos 0 <ℤ k) (sym (winding_crossings s t)) (winding_pos convex_read)

  -- the table's corners are the corners of the nonzero edges
  pub outline_read : Outline s (s ∷ t) (live (edges (s ∷ t)))
  outline_read = record {
    convex = convex_read;
    reaches = λ d. reach_same d (s ∷ t) (corners_nonempty s convex_read) corners_on points;
    corners = corners_on;
  }
    where
      head : In (corners_from s (live (edges (s ∷ t)))) s
      head = begins convex_read
        where
          begins : {l : List Pt} → Convex l → In (corners_from s l) s
          begins {l = []} c = absurd (convex_nonempty c refl)
          begins {l = e ∷ l} c = unfold corners_from in inl refl

      points : All (In (corners_from s (live (edges (s ∷ t))))) (s ∷ t)
      points = ((all_append (In (corners_from s (live (edges (s ∷ t))))) (s ∷ t) (s ∷ [])).0
          (all_map (s ∷ t ++ (s ∷ [])) (λ c k. ⊎_elim (λ a. subst (λ l. In (corners_from s (live l)) c) (sym (edges_steps s t)) a)
          (λ e. subst (In (corners_from s (live (edges (s ∷ t))))) (sym (e ∙ last_snoc s t s)) head) k) (points_in s (t ++ (s ∷ []))))).0
