-- Once round, by the nonzero edges: "corners equal to the one before dropped" leaves the turns of
-- the nonzero edges. Laws of `fresh`, `without_repeats`, `how_many`, `round_by`, `once_round` of
-- specs/Premise.antt. In order: a count in another order (`how_many_perm`); edges once round
-- (`RoundEdges`) and `round_by`; the edges into the corners that are kept, and so the turns
-- (`turns_without`), read the other way round too (`turns_without_back`); the premise
-- (`round_live`, `live_round`, `once_round_lem`), and so of a walk's edges (`round_rotate`,
-- `round_backwards`). Assumes nothing.
use mathlib.Core.Path.{◌≡◌, refl, sym, ◌∙◌, ap, ap₂, subst}
use mathlib.Core.Bool.{Bool, true, not, cond}
use mathlib.Core.Logic.{◌⊎◌, inl, inr}
use mathlib.Core.List.Permᴰ
use mathlib.Core.List.{List, [], ◌∷◌, ◌++◌, map, map-append, reverse, Permᴰ}
use Prim.Native.Nat.{ℕ, ◌+◌, ◌-◌}
use native.Mathlib.Nat.{add_left_comm}
use borrow.Author.Tests.{eqb-true}
use lib.Dec.{eqb}
use lib.ListN.{length, take}
use Rattle.integers.specs.Lists.{rotate, links, neighbours, swap, both}
use Rattle.integers.proofs.Order.{by_test}
use Rattle.integers.proofs.Tests.{differ}
use Rattle.integers.proofs.Rotation.{rotate_append, reverse_rotate}
use Rattle.integers.proofs.Neighbours.{neighbours_cons, perm_neighbours_rotate, perm_neighbours_reverse, map_neighbours}
use Rattle.plane.specs.Plane.{Pt, ◌-ᵖ◌, negᵖ, eq_pt}
use Rattle.plane.specs.Contour.{edges}
use Rattle.pair.specs.Premise.{fresh, without_repeats, turns, how_many, forward, descent, round_by, once_round}
use Rattle.plane.specs.Contour.{last_of}
use Rattle.pair.specs.Demand.{live}
use Rattle.plane.proofs.Edges.{links_last, edges_rotate, edges_reverse, edges_backwards, eq_pt_true, is_zero_sub}
use Rattle.pair.proofs.Places.{backwards}
use Rattle.pair.proofs.Live.{live_zero, live_keep, live_rotate, live_reverse, live_negᵖ}

-- ---- counts

-- how many pass a test, in another order
pub how_many_perm : (t : Pt × Pt → Bool) {l m : List (Pt × Pt)} → Permᴰ l m → how_many t l ≡ how_many t m
unfolding how_many
how_many_perm t Permᴰ.nil = refl
how_many_perm t (Permᴰ.cons e p) = ap₂ (λ c n. cond (t c) 1 0 + n) e (how_many_perm t p)
how_many_perm t (Permᴰ.swap {a = a} {b = b} {l = l} e f) =
    add_left_comm (cond (t a) 1 0) (cond (t b) 1 0) (how_many t l) ∙ ap₂ (λ c d. cond (t c) 1 0 + (cond (t d) 1 0 + how_many t l)) f e
how_many_perm t (Permᴰ.trans p q) = how_many_perm t p ∙ how_many_perm t q

-- ---- edges once round: no neighbours that fail to go forward, one descent

pub record RoundEdges (E : List Pt) : Type 0 where
  pub calm : how_many (λ c. not (forward c)) (neighbours E) ≡ 0
  pub once : how_many descent (neighbours E) ≡ 1

-- from whatever edge they begin
pub round_perm : {E F : List Pt} → Permᴰ (neighbours E) (neighbours F) → RoundEdges E → RoundEdges F
round_perm p r = record { calm = sym (how_many_perm (λ c. not (forward c)) p) ∙ r.calm; once = sym (how_many_perm descent p) ∙ r.once }

-- the test and the record
pub round_edges : (l : List Pt) → round_by forward l ≡ true → RoundEdges (edges l)
unfolding round_by
round_edges l h = by_test (eqb (how_many (λ c. not (forward c)) (turns l)) 0)
    (λ t. record { calm = eqb-true _ 0 t; once = eqb-true _ 1 (rw t at h) })
    (λ t. differ (rw t at h))

pub edges_round : (l : List Pt) → RoundEdges (edges l) → round_by forward l ≡ true
unfolding round_by
edges_round l r = rw (r.calm, r.once)

-- ---- the edges into the corners that are kept

-- along an open list, from q
abbrev into : Pt → List Pt → List Pt
into q l = map (λ e. e.1 -ᵖ e.0) (links q l)

-- a corner is kept where the edge into it is not zero
fresh_into : (q : Pt) (l : List Pt) → into q (fresh q l) ≡ live (into q l)
unfolding fresh links
fresh_into q [] = unfold live in refl
fresh_into q (p ∷ l) = by_test (eq_pt q p)
    (λ t. rw t (ap (λ c. into c (fresh p l)) (eq_pt_true q p t) ∙ fresh_into p l ∙ sym (live_zero (p -ᵖ q) (into p l) (is_zero_sub q p ∙ t))))
    (λ t. rw t (ap (λ r. (p -ᵖ q) ∷ r) (fresh_into p l) ∙ sym (live_keep (p -ᵖ q) (into p l) (is_zero_sub q p ∙ t))))

-- the last is kept, or equal to the one kept last
last_fresh : (q : Pt) (l : List Pt) → last_of q (fresh q l) ≡ last_of q l
unfolding fresh last_of
last_fresh q [] = refl
last_fresh q (p ∷ l) = by_test (eq_pt q p)
    (λ t. rw t (ap (λ c. last_of c (fresh p l)) (eq_pt_true q p t) ∙ last_fresh p l)) (λ t. rw t (last_fresh p l))

-- round from the last corner: the contour's edges, the last of them first
into_edges : (p : Pt) (l : List Pt) → into (last_of p l) (p ∷ l) ≡ rotate (length (into p l)) (edges (p ∷ l))
unfolding edges links
into_edges p l =
    sym (rotate_append (into p l) ((p -ᵖ last_of p l) ∷ []))
    ∙ ap (rotate (length (into p l))) (sym (ap (map (λ e. e.1 -ᵖ e.0)) (neighbours_cons p l ∙ links_last p l p) ∙ map-append (λ e. e.1 -ᵖ e.0) (links p l) ((last_of p l, p) ∷ [])))

-- where the last of l is q, the turns of what is kept are those of the nonzero edges into l
fresh_turns : {q : Pt} (l : List Pt) → last_of q l ≡ q → Permᴰ (turns (fresh q l)) (neighbours (live (into q l)))
unfolding last_of edges links neighbours
fresh_turns {q} l e = by (fresh q l) (last_fresh q l ∙ e) (fresh_into q l)
  where
    by : (w : List Pt) → last_of q w ≡ q → into q w ≡ live (into q l) → Permᴰ (turns w) (neighbours (live (into q l)))
    by [] f g = subst (λ E. Permᴰ (turns []) (neighbours E)) g (Permᴰ.refl [])
    by (c ∷ w) f g =
        let r : rotate (length (into c w)) (edges (c ∷ w)) ≡ live (into q l) = sym (into_edges c w) ∙ ap (λ p. into p (c ∷ w)) f ∙ g in
        rw r at (Permᴰ.symm (perm_neighbours_rotate (length (into c w)) (edges (c ∷ w))))

-- dropping the corners equal to the one before leaves the turns of the nonzero edges
pub turns_without : (l : List Pt) → Permᴰ (turns (without_repeats l)) (neighbours (live (edges l)))
unfolding without_repeats last_of
turns_without [] = unfold live edges neighbours in Permᴰ.refl []
turns_without (p ∷ l) =
    let k : ℕ = length (into p l) in
    let r : live (into (last_of p l) (p ∷ l)) ≡ rotate (length (live (take k (edges (p ∷ l))))) (live (edges (p ∷ l))) = ap live (into_edges p l) ∙ live_rotate k (edges (p ∷ l)) in
    Permᴰ.trans (rw r at (fresh_turns (p ∷ l) refl)) (perm_neighbours_rotate (length (live (take k (edges (p ∷ l))))) (live (edges (p ∷ l))))

-- ---- the other way round

-- each edge negated, in the other order: turns in another order stay so
negated_back : (E F : List Pt) → Permᴰ (neighbours E) (neighbours F) → Permᴰ (neighbours (reverse (map negᵖ E))) (neighbours (reverse (map negᵖ F)))
negated_back E F p =
    Permᴰ.trans (perm_neighbours_reverse (map negᵖ E))
    (Permᴰ.trans (Permᴰ.map swap (rw (map_neighbours negᵖ E, map_neighbours negᵖ F) at (Permᴰ.map (both negᵖ) p)))
    (Permᴰ.symm (perm_neighbours_reverse (map negᵖ F))))

-- the turns of a contour read backwards
turns_reverse : (l : List Pt) → Permᴰ (turns (reverse l)) (neighbours (reverse (map negᵖ (edges l))))
turns_reverse l = rw edges_reverse (perm_neighbours_rotate 1 (reverse (map negᵖ (edges l))))

-- the nonzero edges of the contour read backwards are the nonzero edges negated, in the other
-- order, from another edge
live_reverse_edges : (l : List Pt) → Permᴰ (neighbours (live (edges (reverse l)))) (neighbours (reverse (map negᵖ (live (edges l)))))
live_reverse_edges l =
    let E : List Pt = reverse (map negᵖ (edges l)) in
    let r : live (edges (reverse l)) ≡ rotate (length (live (take 1 E))) (live E) = ap live (edges_reverse l) ∙ live_rotate 1 E in
    let b : live E ≡ reverse (map negᵖ (live (edges l))) = live_reverse (map negᵖ (edges l)) ∙ ap reverse (live_negᵖ (edges l)) in
    rw (r, ← b) (perm_neighbours_rotate (length (live (take 1 E))) (live E))

-- dropping, then reading backwards, leaves the turns of the nonzero edges read backwards
pub turns_without_back : (l : List Pt) → Permᴰ (turns (reverse (without_repeats l))) (neighbours (live (edges (reverse l))))
turns_without_back l = Permᴰ.trans (turns_reverse (without_repeats l)) (Permᴰ.trans (negated_back (edges (without_repeats l)) (live (edges l)) (turns_without l)) (Permᴰ.symm (live_reverse_edges l)))

-- so the order of dropping and reading backwards does not matter to the turns
pub turns_back_without : (l : List Pt) → Permᴰ (turns (reverse (without_repeats l))) (turns (without_repeats (reverse l)))
turns_back_without l = Permᴰ.trans (turns_without_back l) (Permᴰ.symm (turns_without (reverse l)))

-- ---- the premise

-- the test of the corners kept is the record of the nonzero edges, and the other way
pub round_live : (l : List Pt) → round_by forward (without_repeats l) ≡ true → RoundEdges (live (edges l))
round_live l h = round_perm (turns_without l) (round_edges (without_repeats l) h)

pub live_round : (l : List Pt) → RoundEdges (live (edges l)) → round_by forward (without_repeats l) ≡ true
live_round l r = edges_round (without_repeats l) (round_perm (Permᴰ.symm (turns_without l)) r)

-- so backwards
pub round_live_back : (l : List Pt) → round_by forward (reverse (without_repeats l)) ≡ true → RoundEdges (live (edges (reverse l)))
round_live_back l h = round_perm (turns_without_back l) (round_edges (reverse (without_repeats l)) h)

pub live_round_back : (l : List Pt) → RoundEdges (live (edges (reverse l))) → round_by forward (reverse (without_repeats l)) ≡ true
live_round_back l r = edges_round (reverse (without_repeats l)) (round_perm (Permᴰ.symm (turns_without_back l)) r)

-- one way round or the other
pub once_round_lem : (l : List Pt) → once_round l ≡ true → RoundEdges (live (edges l)) ⊎ RoundEdges (live (edges (reverse l)))
unfolding once_round
once_round_lem l h = by_test (round_by forward (without_repeats l)) (λ t. inl (round_live l t)) (λ t. inr (round_live_back l (rw t at h)))

pub round_once : (l : List Pt) → RoundEdges (live (edges l)) ⊎ RoundEdges (live (edges (reverse l))) → once_round l ≡ true
unfolding once_round
round_once l (inl r) = rw (live_round l r)
round_once l (inr r) = by_test (round_by forward (without_repeats l)) (λ t. rw t) (λ t. rw t (live_round_back l r))

-- ---- the premise of the edges that a walk hands out: from any corner, in table order or backwards

-- in table order from corner k
pub round_rotate : (k : ℕ) (l : List Pt) → RoundEdges (live (edges l)) → RoundEdges (live (edges (rotate k l)))
round_rotate k l r =
    let e : live (edges (rotate k l)) ≡ rotate (length (live (take k (edges l)))) (live (edges l)) = ap live (edges_rotate k l) ∙ live_rotate k (edges l) in
    rw e (round_perm (Permᴰ.symm (perm_neighbours_rotate (length (live (take k (edges l)))) (live (edges l)))) r)

-- the edges backwards from the first corner
pub backwards_edges : (l : List Pt) → edges (backwards l) ≡ reverse (map negᵖ (edges l))
unfolding backwards
backwards_edges [] = unfold edges neighbours in refl
backwards_edges (c ∷ l) = edges_backwards c l

-- backwards from corner k
pub round_backwards : (k : ℕ) (l : List Pt) → RoundEdges (live (edges (reverse l))) → RoundEdges (live (edges (backwards (rotate k l))))
round_backwards k l r =
    let m : List Pt = rotate k l in
    let e : live (edges (backwards m)) ≡ reverse (map negᵖ (live (edges m))) = ap live (backwards_edges m) ∙ live_reverse (map negᵖ (edges m)) ∙ ap reverse (live_negᵖ (edges m)) in
    let back : RoundEdges (live (edges (reverse m))) = rw reverse_rotate (round_rotate (length l - k) (reverse l) r) in
    rw e (round_perm (live_reverse_edges m) back)
