-- A contour turned through the origin, as a reflected walk reads it. In order: edges round a
-- contour, negated, go round too (`round_neg`): the descents of one are the changes from the lower
-- to the upper half, and round a cycle these are as many as the changes back; negation goes through
-- edges, rotations and windings; so what holds from a least corner holds from a greatest one
-- (`outline_on_neg`, `winding_on_neg`, `outline_back_neg`, `winding_back_neg`). Assumes nothing.
use mathlib.Core.Path.{◌≡◌, refl, sym, ◌∙◌, ap, ap₂, subst, subst₂}
use mathlib.Core.Bool.{Bool, true, false, not, cond}
use mathlib.Core.List.Permᴰ
use mathlib.Core.List.{List, [], ◌∷◌, map, map-map, reverse}
use mathlib.Core.Logic.{⊎_elim}
use Prim.Native.Nat.{ℕ, ◌+◌, ◌<◌}
use native.Mathlib.Omega.{arith}
use lib.ListN.{length, length-map, get_or-map}
use lib.IntN.{ℤ, pos}
use lib.Signed.{◌<ℤ◌, lt_z}
use Rattle.integers.specs.Lists.{All, sumℤ, sumℕ, rotate, neighbours, both}
use Rattle.integers.proofs.Ring.{con, ◌:≡◌, pt, ring}
use Rattle.integers.proofs.Arith.{◌:<◌, ◌:=◌, ◌⇒◌, :⊥, arithℤ}
use Rattle.integers.proofs.Elements.{all_map, all_map2, all_image}
use Rattle.integers.proofs.Sums.{sumℕ_perm}
use Rattle.integers.proofs.Rotation.{perm_rotate, map_rotate, map-reverse}
use Rattle.integers.proofs.Neighbours.{map_neighbours, firsts_neighbours, seconds_neighbours, all_neighbours}
use Rattle.plane.specs.Plane.{Pt, O, ◌-ᵖ◌, negᵖ, cross, lower, by_halves, angle_cmp, is_less, is_equal}
use Rattle.plane.specs.Contour.{edges}
use Rattle.plane.proofs.Terms.{◌-E◌, neg_e, cross_e}
use Rattle.plane.proofs.Vectors.{negᵖ_negᵖ, cross_neg_neg}
use Rattle.plane.specs.Halves.{Up, sgn, Nz}
use Rattle.plane.proofs.Directions.{LtAt, before, beside, after, angle_cases, lower_up, lower_down}
use Rattle.pair.specs.Walk.{corner_at, below, winding_terms}
use Rattle.pair.specs.Premise.{how_many, forward, descent}
use Rattle.pair.specs.Demand.{live}
use Rattle.pair.proofs.Convex.{Outline}
use Rattle.plane.proofs.Edges.{edges_negᵖ}
use Rattle.pair.proofs.Start.{below_negᵖ}
use Rattle.pair.proofs.Places.{backwards}
use Rattle.pair.proofs.Repeats.{RoundEdges}
use Rattle.pair.proofs.Live.{live_negᵖ, live_nz}
use Rattle.pair.proofs.Counts.{bit, count_cons, count_sum, all_pass, count_same, count_map}
use Rattle.pair.proofs.Tables.{forward_cases}
use Rattle.pair.proofs.Readings.{outline_on, winding_on, outline_back, winding_back}

-- ---- halves change

-- - e is in the other half
lower_neg : {e : Pt} → Nz e → lower (negᵖ e) ≡ not (lower e)
lower_neg {e} n = at (lower e) n.nz
  where
    at : (b : Bool) → Up (sgn b e) → lower (negᵖ e) ≡ not b
    at true u = lower_up u
    at false u = lower_down (negᵖ e) (subst Up (sym (negᵖ_negᵖ e)) u)

-- (- e) × (- f) = e × f, and both change the half
forward_neg : {e f : Pt} → Nz e → Nz f → forward (negᵖ e, negᵖ f) ≡ forward (e, f)
unfolding forward angle_cmp
forward_neg {e} {f} ne nf =
    (λ i. cond (lt_z (pos 0) (cross_neg_neg e f i)) true (is_equal (by_halves (lower_neg ne i) (lower_neg nf i) (cross_neg_neg e f i))))
    ∙ ap (cond (lt_z (pos 0) (cross e f)) true) (halves (lower e) (lower f) (cross e f))
  where
    halves : (p q : Bool) (k : ℤ) → is_equal (by_halves (not p) (not q) k) ≡ is_equal (by_halves p q k)
    halves true true k = refl
    halves true false k = refl
    halves false true k = refl
    halves false false k = refl

-- ---- descents are changes of half

-- from the lower half to the upper, and back
abbrev rise : Bool → Bool → Bool
rise p q = cond p (not q) false

-- from the upper half to the lower
abbrev fall : Bool → Bool → Bool
fall p q = cond p false q

-- where the turn goes forward, a descent is a change to the upper half
descent_rise : (e f : Pt) → forward (e, f) ≡ true → descent (e, f) ≡ rise (lower e) (lower f)
unfolding descent
descent_rise e f h = elim (angle_cases f e) [
  | before t k ↦ ap is_less t ∙ before_at (lower f) (lower e) k.lt
  | beside t k ↦ ap is_less t ∙ subst (λ q. false ≡ rise (lower e) q) (sym k.half) (same (lower e))
  | after t k ↦ ap is_less t ∙ after_at (lower e) (lower f) k.lt
]
  where
    no_back : pos 0 <ℤ cross f e → ⊥
    no_back k = ⊎_elim (λ l. two e f l k) (λ s. none e f s.flat k) (forward_cases (e, f) h)
      where
        two : (e f : Pt) → pos 0 <ℤ cross e f → pos 0 <ℤ cross f e → ⊥
        two = arithℤ (pt ∷ pt ∷ []) (λ e f. con (pos 0) :< cross_e e f ⇒ con (pos 0) :< cross_e f e ⇒ :⊥) (omega arith)

        none : (e f : Pt) → cross e f ≡ pos 0 → pos 0 <ℤ cross f e → ⊥
        none = arithℤ (pt ∷ pt ∷ []) (λ e f. cross_e e f := con (pos 0) ⇒ con (pos 0) :< cross_e f e ⇒ :⊥) (omega arith)

    before_at : (q p : Bool) → LtAt q p (cross f e) → true ≡ rise p q
    before_at false true k = refl
    before_at true false k = absurd k
    before_at true true k = absurd (no_back k)
    before_at false false k = absurd (no_back k)

    after_at : (p q : Bool) → LtAt p q (cross e f) → false ≡ rise p q
    after_at false q k = refl
    after_at true true k = refl
    after_at true false k = absurd k

    same : (p : Bool) → false ≡ rise p p
    same true = refl
    same false = refl

-- negated, a change to the lower half
descent_fall : {e f : Pt} → Nz e → Nz f → forward (e, f) ≡ true → descent (negᵖ e, negᵖ f) ≡ fall (lower e) (lower f)
descent_fall {e} {f} ne nf h =
    descent_rise (negᵖ e) (negᵖ f) (forward_neg ne nf ∙ h) ∙ ap₂ rise (lower_neg ne) (lower_neg nf) ∙ rise_not (lower e) (lower f)
  where
    rise_not : (p q : Bool) → rise (not p) (not q) ≡ fall p q
    rise_not true q = refl
    rise_not false true = refl
    rise_not false false = refl

-- ---- round a cycle there are as many changes to the upper half as to the lower

-- of a pair
abbrev rises : Pt × Pt → Bool
rises c = rise (lower c.0) (lower c.1)

-- of a pair
abbrev falls : Pt × Pt → Bool
falls c = fall (lower c.0) (lower c.1)

-- pair by pair, a rise and the second in the lower half are a fall and the first there
balance : (l : List (Pt × Pt)) → how_many rises l + how_many (λ c. lower c.1) l ≡ how_many falls l + how_many (λ c. lower c.0) l
balance [] = unfold how_many in refl
balance (c ∷ l) =
    add (lower c.0) (lower c.1) (how_many rises l) (how_many falls l) (how_many (λ c. lower c.0) l) (how_many (λ c. lower c.1) l)
    (count_cons rises c l) (count_cons falls c l) (count_cons (λ c. lower c.0) c l) (count_cons (λ c. lower c.1) c l) (balance l)
  where
    add : (p q : Bool) (r f a b : ℕ) {r' f' a' b' : ℕ} → r' ≡ bit (rise p q) + r → f' ≡ bit (fall p q) + f → a' ≡ bit p + a → b' ≡ bit q + b → r + b ≡ f + a → r' + b' ≡ f' + a'
    add true true r f a b h k m n e = omega arith
    add true false r f a b h k m n e = omega arith
    add false true r f a b h k m n e = omega arith
    add false false r f a b h k m n e = omega arith

-- the firsts of all pairs are the seconds, in another order
rises_falls : (l : List Pt) → how_many rises (neighbours l) ≡ how_many falls (neighbours l)
rises_falls l =
    cancel (how_many rises (neighbours l)) (how_many falls (neighbours l))
    (firsts ∙ sym seconds) (balance (neighbours l))
  where
    cancel : (r f : ℕ) {a b : ℕ} → a ≡ b → r + b ≡ f + a → r ≡ f
    cancel r f e h = omega arith

    firsts : how_many (λ c. lower c.0) (neighbours l) ≡ sumℕ (map (λ e. bit (lower e)) l)
    firsts = count_sum (λ c. lower c.0) (neighbours l) ∙ ap sumℕ (sym (map-map (λ e. bit (lower e)) (λ c. c.0) (neighbours l)) ∙ ap (map (λ e. bit (lower e))) (firsts_neighbours l))

    seconds : how_many (λ c. lower c.1) (neighbours l) ≡ sumℕ (map (λ e. bit (lower e)) l)
    seconds =
        count_sum (λ c. lower c.1) (neighbours l) ∙ ap sumℕ (sym (map-map (λ e. bit (lower e)) (λ c. c.1) (neighbours l)) ∙ ap (map (λ e. bit (lower e))) (seconds_neighbours l))
        ∙ sumℕ_perm (Permᴰ.map (λ e. bit (lower e)) (perm_rotate 1 l))

-- ---- once round, negated

module _ {E : List Pt} (n : All Nz E) (h : RoundEdges E) where
  nz : All (λ c. Nz c.0 × Nz c.1) (neighbours E)
  nz = all_neighbours Nz E n

  -- no turn goes back
  onward : All (λ c. forward c ≡ true) (neighbours E)
  onward = all_pass forward (neighbours E) h.calm

  -- a test of the negated turns, as one of the turns
  negated : (t u : Pt × Pt → Bool) → All (λ c. t (negᵖ c.0, negᵖ c.1) ≡ u c) (neighbours E) → how_many t (neighbours (map negᵖ E)) ≡ how_many u (neighbours E)
  negated t u k = ap (how_many t) (sym (map_neighbours negᵖ E)) ∙ count_map t (both negᵖ) (neighbours E) ∙ count_same (λ c. t (both negᵖ c)) u (neighbours E) k

  -- the turns stay, and the descents are the falls, as many as the rises
  pub round_neg : RoundEdges (map negᵖ E)
  round_neg = record {
    calm = negated (λ c. not (forward c)) (λ c. not (forward c)) (all_map (neighbours E) (λ c k. ap not (forward_neg k.0 k.1)) nz) ∙ h.calm;
    once =
        negated descent falls (all_map2 (neighbours E) (λ c k m. descent_fall k.0 k.1 m) nz onward) ∙ sym (rises_falls E)
        ∙ sym (count_same descent rises (neighbours E) (all_map (neighbours E) (λ c k. descent_rise c.0 c.1 k) onward)) ∙ h.once;
  }

-- ---- negation goes through

-- and so does the way backwards
pub backwards_neg : (l : List Pt) → backwards (map negᵖ l) ≡ map negᵖ (backwards l)
unfolding backwards
backwards_neg [] = refl
backwards_neg (c ∷ l) = ap (λ r. negᵖ c ∷ r) (sym (map-reverse negᵖ l))

-- the corner at a place
corner_neg : (l : List Pt) (s : ℕ) → corner_at (map negᵖ l) s ≡ negᵖ (corner_at l s)
corner_neg l s = get_or-map negᵖ l s O

-- the winding stays
pub winding_neg : (s : ℕ) (l : List Pt) → winding_terms s (map negᵖ l) ≡ winding_terms s l
unfolding winding_terms
winding_neg s l =
    (λ i. map (λ e. cross (e.0 -ᵖ corner_neg l s i) (e.1 -ᵖ corner_neg l s i)) (neighbours (sym (map_rotate negᵖ s l) i)))
    ∙ ap (map (λ e. cross (e.0 -ᵖ negᵖ (corner_at l s)) (e.1 -ᵖ negᵖ (corner_at l s)))) (sym (map_neighbours negᵖ (rotate s l)))
    ∙ map-map (λ e. cross (e.0 -ᵖ negᵖ (corner_at l s)) (e.1 -ᵖ negᵖ (corner_at l s))) (both negᵖ) (neighbours (rotate s l))
    ∙ terms (corner_at l s) (neighbours (rotate s l))
  where
    one : (s p q : Pt) → cross (negᵖ p -ᵖ negᵖ s) (negᵖ q -ᵖ negᵖ s) ≡ cross (p -ᵖ s) (q -ᵖ s)
    one = ring (pt ∷ pt ∷ pt ∷ []) (λ s p q. cross_e (neg_e p -E neg_e s) (neg_e q -E neg_e s) :≡ cross_e (p -E s) (q -E s)) tt

    terms : (s : Pt) (m : List (Pt × Pt)) → map (λ e. cross (negᵖ e.0 -ᵖ negᵖ s) (negᵖ e.1 -ᵖ negᵖ s)) m ≡ map (λ e. cross (e.0 -ᵖ s) (e.1 -ᵖ s)) m
    terms s [] = refl
    terms s (e ∷ m) = ap₂ ◌∷◌ (one s e.0 e.1) (terms s m)

-- ---- from a greatest corner

-- the premise of a contour turned through the origin
pub round_edges_neg : (l : List Pt) → RoundEdges (live (edges l)) → RoundEdges (live (edges (map negᵖ l)))
round_edges_neg l h = subst RoundEdges (sym (ap live (edges_negᵖ l) ∙ live_negᵖ (edges l))) (round_neg (live_nz (edges l)) h)

module _ (l : List Pt) {s : ℕ} (h : s < length l) (greatest : All (λ c. below (corner_at l s) c ≡ false) l) where
  -- as many corners
  inside : s < length (map negᵖ l)
  inside = subst (λ n. s < n) (sym (length-map l negᵖ)) h

  -- the greatest corner, negated, is least
  least : All (λ c. below c (corner_at (map negᵖ l) s) ≡ false) (map negᵖ l)
  least =
      subst (λ p. All (λ c. below c p ≡ false) (map negᵖ l)) (sym (corner_neg l s))
      ((all_image (λ c. below c (negᵖ (corner_at l s)) ≡ false) negᵖ l).1 (all_map l (λ c k. below_negᵖ c (corner_at l s) ∙ k) greatest))

  -- the premise of the reverse
  back_neg : RoundEdges (live (edges (reverse l))) → RoundEdges (live (edges (reverse (map negᵖ l))))
  back_neg r = subst (λ k. RoundEdges (live (edges k))) (map-reverse negᵖ l) (round_edges_neg (reverse l) r)

  -- the edges from s, negated
  on_neg : edges (rotate s (map negᵖ l)) ≡ map negᵖ (edges (rotate s l))
  on_neg = ap edges (sym (map_rotate negᵖ s l)) ∙ edges_negᵖ (rotate s l)

  -- a reflected walk of a counter-clockwise contour: onward, and the winding is above 0
  pub outline_on_neg : RoundEdges (live (edges l)) → Outline (negᵖ (corner_at l s)) (map negᵖ l) (live (map negᵖ (edges (rotate s l))))
  outline_on_neg r = subst₂ (λ p E. Outline p (map negᵖ l) (live E)) (corner_neg l s) on_neg (outline_on (map negᵖ l) inside least (round_edges_neg l r))

  pub winding_on_neg : RoundEdges (live (edges l)) → pos 0 <ℤ sumℤ (winding_terms s l)
  winding_on_neg r = subst (λ k. pos 0 <ℤ sumℤ k) (winding_neg s l) (winding_on (map negᵖ l) inside least (round_edges_neg l r))

  -- of a clockwise one: backwards, and it is below 0
  pub outline_back_neg : RoundEdges (live (edges (reverse l))) → Outline (negᵖ (corner_at l s)) (map negᵖ l) (live (map negᵖ (edges (backwards (rotate s l)))))
  outline_back_neg r =
      subst₂ (λ p E. Outline p (map negᵖ l) (live E)) (corner_neg l s)
      (ap (λ k. edges (backwards k)) (sym (map_rotate negᵖ s l)) ∙ ap edges (backwards_neg (rotate s l)) ∙ edges_negᵖ (backwards (rotate s l)))
      (outline_back (map negᵖ l) inside least (back_neg r))

  pub winding_back_neg : RoundEdges (live (edges (reverse l))) → sumℤ (winding_terms s l) <ℤ pos 0
  winding_back_neg r = subst (λ k. sumℤ k <ℤ pos 0) (winding_neg s l) (winding_back (map negᵖ l) inside least (back_neg r))
