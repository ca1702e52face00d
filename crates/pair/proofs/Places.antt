-- A walk by places is a list of edges: laws of `begin`, `advance`, `point_of`, `edge_of`, `handed`
-- of specs/Walk.antt and specs/Demand.antt. In order: where a walk begins, one case a winding
-- (`begin_by`); the walk's places are corners of the contour (`Valid`); its points are the first
-- and the edges added (`point_advance`); the edges handed out: once round in table order
-- (`walk_onward`), backwards (`walk_backward`), and out and back along a segment (`walk_segment`,
-- `walk_point`); no more steps than corners (`begin_remaining`). Assumes nothing.
use mathlib.Core.Path.{◌≡◌, refl, sym, ◌∙◌, ap, ap₂, subst}
use mathlib.Core.Bool.{Bool, true, false, cond}
use mathlib.Core.List.{List, [], ◌∷◌, ◌++◌, map, map-id, reverse}
use Prim.Native.Nat.{ℕ, zero, suc, ◌+◌, ◌-◌, ◌≤◌, ◌<◌}
use native.Mathlib.Omega.{arith}
use borrow.Author.Tests.{eqb-true, eqb-false, eq-eqb, ne_eqb}
use lib.Dec.{eqb}
use lib.ListN.{length, take, drop, get_or, length-append, length-drop, length-reverse}
use lib.Seq.{take-append-le, take-length, length-take-le}
use lib.IntN.{pos}
use lib.Signed.{lt_z}
use Rattle.integers.specs.Lists.{rotate}
use Rattle.integers.proofs.Ring.{◌:≡ᵖ◌, pt, ringᵖ}
use Rattle.integers.proofs.Order.{<-≤, by_test, cond_ind, negative, null, positive, sign}
use Rattle.integers.proofs.Tests.{<-lt_z, ≤-lt_z, lt_z-<}
use Rattle.integers.proofs.Rotation.{length_rotate, get_d_reverse}
use Rattle.plane.specs.Plane.{Pt, O, ◌+ᵖ◌, ◌-ᵖ◌, negᵖ, eq_pt}
use Rattle.plane.specs.Contour.{edges}
use Rattle.plane.proofs.Terms.{◌+E◌, ◌-E◌, neg_e}
use Rattle.plane.proofs.Vectors.{+ᵖ--ᵖ}
use Rattle.pair.specs.declared.Place.{Place}
use Rattle.pair.specs.Walk.{corner_at, start_at, end_at, winding, begin, next_index, turned, point_of, edge_of, advance}
use Rattle.pair.specs.Demand.{handed, walk_edges}
use Rattle.integers.proofs.Rotation.{rotate_at, rotate_after, rotate_reverse}
use Rattle.plane.proofs.Edges.{length_edges, edges_rotate, edges_negᵖ, get_or_edges, eq_pt_refl, eq_pt_false, ≢-eq_pt}
use Rattle.pair.proofs.Start.{start_inside, end_inside}

-- from its first corner, the other way round
unfoldable pub backwards : List Pt → List Pt
backwards [] = []
backwards (c ∷ t) = c ∷ reverse t

-- ---- where a walk begins

-- round the contour, at place i, with k steps left
abbrev pub around : Bool → Bool → ℕ → ℕ → ℕ → Place
around back reflected s k i = record { index = i; remaining = k; reverse = back; reflected = reflected; segment = false; start = s; end = s }

-- along the segment from s to e, at s
abbrev pub between : Bool → ℕ → ℕ → ℕ → Place
between reflected k s e = record { index = s; remaining = k; reverse = false; reflected = reflected; segment = true; start = s; end = e }

module _ (reflected : Bool) (l : List Pt) where
  -- the corners at the two extremes
  abbrev pub first_corner : Pt
  first_corner = corner_at l (start_at reflected l)

  abbrev pub far_corner : Pt
  far_corner = corner_at l (end_at reflected l)

  -- the start, and which way
  pub begin_onward : lt_z (pos 0) (winding reflected l) ≡ true → begin reflected l ≡ around false reflected (start_at reflected l) (length l) (start_at reflected l)
  unfolding begin
  begin_onward h = rw (≤-lt_z {x = winding reflected l} {y = pos 0} (<-≤ (lt_z-< (pos 0) (winding reflected l) h)), h)

  pub begin_backward : lt_z (winding reflected l) (pos 0) ≡ true → begin reflected l ≡ around true reflected (start_at reflected l) (length l) (start_at reflected l)
  unfolding begin
  begin_backward h = rw h

  pub begin_segment : winding reflected l ≡ pos 0 → begin reflected l ≡ between reflected (cond (eq_pt first_corner far_corner) 0 2) (start_at reflected l) (end_at reflected l)
  unfolding begin
  begin_segment h = rw h

  -- above 0, below 0, or 0
  pub begin_by :
      (Q : Place → Type 0) →
      (lt_z (pos 0) (winding reflected l) ≡ true → Q (around false reflected (start_at reflected l) (length l) (start_at reflected l))) →
      (lt_z (winding reflected l) (pos 0) ≡ true → Q (around true reflected (start_at reflected l) (length l) (start_at reflected l))) →
      (winding reflected l ≡ pos 0 → Q (between reflected (cond (eq_pt first_corner far_corner) 0 2) (start_at reflected l) (end_at reflected l))) →
      Q (begin reflected l)
  begin_by Q f g h = elim (sign (winding reflected l)) [
    | negative k ↦ subst Q (sym (begin_backward (<-lt_z k))) (g (<-lt_z k))
    | null k ↦ subst Q (sym (begin_segment k)) (h k)
    | positive k ↦ subst Q (sym (begin_onward (<-lt_z k))) (f (<-lt_z k))
  ]

  -- the first point is the corner at the start
  pub begin_point : point_of l (begin reflected l) ≡ turned reflected first_corner
  unfolding point_of
  begin_point = begin_by (λ w. turned w.reflected (corner_at l w.index) ≡ turned reflected first_corner) (λ h. refl) (λ h. refl) (λ h. refl)

-- ---- places of the contour

-- a place and its segment's ends are corners of a contour of n
pub record Valid (n : ℕ) (w : Place) : Type 0 where
  pub index : w.index < n
  pub start : w.start < n
  pub end : w.end < n

-- and so is the next place
pub valid_next : {n : ℕ} {w : Place} → Valid n w → next_index n w < n
unfolding next_index
valid_next {n} {w} v =
    cond_ind w.segment (λ i. i < n)
    (λ t. cond_ind (eqb w.index w.start) (λ i. i < n) (λ t. v.end) (λ t. v.start))
    (λ t. cond_ind w.reverse (λ i. i < n)
    (λ t. cond_ind (eqb w.index 0) (λ i. i < n) (λ t. omega (arith, v.index)) (λ t. omega (arith, v.index)))
    (λ t. by_test (eqb (suc w.index) n) (λ e. rw e (omega (arith, v.index))) (λ e. rw e (further e v.index))))
  where
    further : {i : ℕ} → eqb (suc i) n ≡ false → i < n → suc i < n
    further {i} e h = let k : suc i ≡ n → ⊥ = eqb-false (suc i) n e in omega arith

pub valid_advance : {n : ℕ} {w : Place} → Valid n w → Valid n (advance n w)
unfolding advance
valid_advance v = record { index = valid_next v; start = v.start; end = v.end }

pub valid_begin : (reflected : Bool) (l : List Pt) → 0 < length l → Valid (length l) (begin reflected l)
valid_begin reflected l h =
    begin_by reflected l (Valid (length l)) (λ k. one) (λ k. one) (λ k. record { index = start_inside reflected l h; start = start_inside reflected l h; end = end_inside reflected l h })
  where
    one : {back : Bool} {k : ℕ} → Valid (length l) (around back reflected (start_at reflected l) k (start_at reflected l))
    one = record { index = start_inside reflected l h; start = start_inside reflected l h; end = start_inside reflected l h }

-- ---- points: the one before and the edge

-- r c' = r c + r (c' - c), of the identity and of the turn through the origin
turned_step : (reflected : Bool) (c d : Pt) → turned reflected d ≡ turned reflected c +ᵖ turned reflected (d -ᵖ c)
turned_step false c d = sym (+ᵖ--ᵖ c d)
turned_step true c d = opposite c d
  where
    opposite : (c d : Pt) → negᵖ d ≡ negᵖ c +ᵖ negᵖ (d -ᵖ c)
    opposite = ringᵖ (pt ∷ pt ∷ []) (λ c d. neg_e d :≡ᵖ neg_e c +E neg_e (d -E c)) tt

-- the next point is this one and the edge
pub point_advance : (l : List Pt) (w : Place) → point_of l (advance (length l) w) ≡ point_of l w +ᵖ edge_of l w
unfolding point_of edge_of advance
point_advance l w = turned_step w.reflected (corner_at l w.index) (corner_at l (next_index (length l) w))

-- ---- the edges, once round

-- k steps in table order from place i: the next k edges, round the end
handed_onward : (l : List Pt) (reflected : Bool) (s k m : ℕ) {i : ℕ} → k ≤ length l → i < length l → handed k l (around false reflected s m i) ≡ map (turned reflected) (take k (rotate i (edges l)))
unfolding handed edge_of advance next_index
handed_onward l reflected s zero m h g = refl
handed_onward l reflected s (suc k) m {i} h g =
    let n : length (edges l) ≡ length l = length_edges l in
    let next : ℕ = cond (eqb (suc i) (length l)) 0 (suc i) in
    let rest : List Pt = drop (suc i) (edges l) ++ take i (edges l) in
    let fits : k ≤ length rest = omega (arith, length-append (drop (suc i) (edges l)) (take i (edges l)), length-drop (suc i) (edges l), length-take-le i (edges l) (omega arith)) in
    let after : rotate next (edges l) ≡ rest ++ (get_or (edges l) i O ∷ []) = rw n at (rotate_after i (edges l) O (omega arith)) in
    ap₂ ◌∷◌ (ap (turned reflected) (sym (get_or_edges l g)))
    (handed_onward l reflected s k (m - 1) (omega arith) (valid_next {n = length l} {w = around false reflected i m i} (record { index = g; start = g; end = g }))
    ∙ ap (λ r. map (turned reflected) (take k r)) after ∙ ap (map (turned reflected)) (take-append-le k rest (get_or (edges l) i O ∷ []) fits))
    ∙ ap (λ r. map (turned reflected) (take (suc k) r)) (sym (rotate_at (edges l) O (omega arith)))

-- backwards from place i is in table order from place j of the table reversed, where i + j is the
-- last place
handed_backward : (l : List Pt) (reflected : Bool) (s k m i j : ℕ) → suc (i + j) ≡ length l → handed k l (around true reflected s m i) ≡ handed k (reverse l) (around false reflected s m j)
unfolding handed edge_of advance next_index
handed_backward l reflected s zero m i j h = refl
handed_backward l reflected s (suc k) m i j h =
    let before : ℕ = cond (eqb i 0) (length l - 1) (i - 1) in
    let next : ℕ = cond (eqb (suc j) (length (reverse l))) 0 (suc j) in
    let still : suc (before + next) ≡ length l = rw length-reverse (opposite h) in
    ap₂ ◌∷◌
    (ap₂ (λ c d. turned reflected (c -ᵖ d)) (sym (get_d_reverse l next before O (omega (arith, still)))) (sym (get_d_reverse l j i O (omega arith))))
    (handed_backward l reflected s k (m - 1) before next still)
  where
    opposite : {n : ℕ} → suc (i + j) ≡ n → suc (cond (eqb i 0) (n - 1) (i - 1) + cond (eqb (suc j) n) 0 (suc j)) ≡ n
    opposite {n} e = by_test (eqb i 0)
        (λ t. let z : i ≡ 0 = eqb-true i 0 t in rw (t, eq-eqb (suc j) n (omega arith)) (omega arith))
        (λ t. let z : i ≡ 0 → ⊥ = eqb-false i 0 t in rw (t, ne_eqb (suc j) n (λ q. z (omega arith))) (omega arith))

-- all steps in table order
handed_round : (reflected : Bool) (l : List Pt) (s m : ℕ) {i : ℕ} → i < length l → handed (length l) l (around false reflected s m i) ≡ map (turned reflected) (edges (rotate i l))
handed_round reflected l s m {i} h =
    handed_onward l reflected s (length l) m (omega arith) h
    ∙ ap (map (turned reflected)) (ap (λ k. take k (rotate i (edges l))) (sym (length_rotate i (edges l) ∙ length_edges l)) ∙ take-length (rotate i (edges l)) ∙ sym (edges_rotate i l))

module _ (reflected : Bool) (l : List Pt) (filled : 0 < length l) where
  -- above 0: in table order from the start
  pub walk_onward : lt_z (pos 0) (winding reflected l) ≡ true → walk_edges reflected l ≡ map (turned reflected) (edges (rotate (start_at reflected l) l))
  walk_onward h =
      ap (λ w. handed w.remaining l w) (begin_onward reflected l h)
      ∙ handed_round reflected l (start_at reflected l) (length l) (start_inside reflected l filled)

  -- below 0: from the start, the other way round
  pub walk_backward : lt_z (winding reflected l) (pos 0) ≡ true → walk_edges reflected l ≡ map (turned reflected) (edges (backwards (rotate (start_at reflected l) l)))
  unfolding backwards
  walk_backward h =
      let s : ℕ = start_at reflected l in
      let j : ℕ = length l - suc s in
      let inside : s < length l = start_inside reflected l filled in
      let n : length (reverse l) ≡ length l = length-reverse l in
      ap (λ w. handed w.remaining l w) (begin_backward reflected l h)
      ∙ handed_backward l reflected s (length l) (length l) s j (omega arith)
      ∙ ap (λ k. handed k (reverse l) (around false reflected s (length l) j)) (sym n)
      ∙ handed_round reflected (reverse l) s (length l) {i = j} (omega arith)
      ∙ ap (λ r. map (turned reflected) (edges r)) (rotate_reverse l O inside ∙ sym (ap backwards (rotate_at l O inside)))

-- a reflected walk's edges are those of the contour turned through the origin
pub turned_edges : (reflected : Bool) (l : List Pt) → map (turned reflected) (edges l) ≡ edges (map (turned reflected) l)
turned_edges false l = map-id (edges l) ∙ ap edges (sym (map-id l))
turned_edges true l = sym (edges_negᵖ l)

-- ---- the edges along a segment

module _ (reflected : Bool) (l : List Pt) where
  -- a point
  pub walk_point : winding reflected l ≡ pos 0 → first_corner reflected l ≡ far_corner reflected l → walk_edges reflected l ≡ []
  unfolding handed
  walk_point h e =
      ap (λ w. handed w.remaining l w) (begin_segment reflected l h)
      ∙ ap (λ t. handed (cond t 0 2) l (between reflected (cond t 0 2) (start_at reflected l) (end_at reflected l))) (ap (eq_pt (first_corner reflected l)) (sym e) ∙ eq_pt_refl (first_corner reflected l))

  -- out and back
  pub walk_segment :
      winding reflected l ≡ pos 0 → (first_corner reflected l ≡ far_corner reflected l → ⊥) →
      walk_edges reflected l ≡ turned reflected (far_corner reflected l -ᵖ first_corner reflected l) ∷ negᵖ (turned reflected (far_corner reflected l -ᵖ first_corner reflected l)) ∷ []
  unfolding handed edge_of advance next_index
  walk_segment h ne =
      ap (λ w. handed w.remaining l w) (begin_segment reflected l h)
      ∙ ap (λ t. handed (cond t 0 2) l (between reflected (cond t 0 2) (start_at reflected l) (end_at reflected l))) (≢-eq_pt ne)
      ∙ rw (eq-eqb (start_at reflected l) (start_at reflected l) refl, ne_eqb (end_at reflected l) (start_at reflected l) (λ e. ne (ap (corner_at l) (sym e))))
      (ap (λ v. turned reflected (far_corner reflected l -ᵖ first_corner reflected l) ∷ v ∷ []) (back reflected (first_corner reflected l) (far_corner reflected l)))
    where
      back : (reflected : Bool) (c d : Pt) → turned reflected (c -ᵖ d) ≡ negᵖ (turned reflected (d -ᵖ c))
      back false = ringᵖ (pt ∷ pt ∷ []) (λ c d. c -E d :≡ᵖ neg_e (d -E c)) tt
      back true = ringᵖ (pt ∷ pt ∷ []) (λ c d. neg_e (c -E d) :≡ᵖ neg_e (neg_e (d -E c))) tt

-- a walk has no more steps than its contour has corners: two places with distinct corners are two
pub begin_remaining : (reflected : Bool) (l : List Pt) → (begin reflected l).remaining ≤ length l
begin_remaining reflected [] = begin_by reflected [] (λ w. w.remaining ≤ 0) (λ h. omega arith) (λ h. omega arith) (λ h. omega arith)
begin_remaining reflected (p ∷ l) =
    begin_by reflected (p ∷ l) (λ w. w.remaining ≤ suc (length l)) (λ h. omega arith) (λ h. omega arith)
    (λ h. by_test (eq_pt (first_corner reflected (p ∷ l)) (far_corner reflected (p ∷ l)))
    (λ t. rw t (omega arith))
    (λ t. rw t (two (start_inside reflected (p ∷ l) (omega arith)) (end_inside reflected (p ∷ l) (omega arith))
    (λ e. eq_pt_false t (ap (corner_at (p ∷ l)) e)))))
  where
    two : {s e : ℕ} → s < suc (length l) → e < suc (length l) → (s ≡ e → ⊥) → 2 ≤ suc (length l)
    two a b ne = omega arith
