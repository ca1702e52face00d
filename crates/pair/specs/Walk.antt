-- One walk (document 01, "Walking a pair"): where it starts, its winding, its place, and what it
-- hands out. Assumes nothing.
use Rattle.std.specs.Prelude.{Bool, true, false, cond, List, [], ◌∷◌, map, ℕ, suc, ◌-◌, eqb, length, get_or, ℤ, pos, negsuc, ◌+ℤ◌}
use Rattle.std.specs.Int.Signed.{le_z, lt_z}
use Rattle.integers.specs.Lists.{sumℤ, rotate, neighbours}
use Rattle.plane.specs.Plane.{Pt, O, ◌-ᵖ◌, negᵖ, cross, eq_pt}
use Rattle.pair.specs.declared.Place.{Place}

-- the corner at a place of the table
abbrev pub corner_at : List Pt → ℕ → Pt
corner_at l i = get_or l i O

-- ---- "A walk starts at the lowest corner, then leftmost, first of equals; a reflected walk at the
-- highest, then rightmost, last of equals."

-- p comes before q by (y, x)
unfoldable pub below : Pt → Pt → Bool
below p q = cond (lt_z p.y q.y) true (cond (lt_z q.y p.y) false (lt_z p.x q.x))

-- the best place so far b, with its corner p; i is the place of the first corner to come
unfoldable pub least_from : ℕ → Pt → ℕ → List Pt → ℕ
least_from b p i [] = b
least_from b p i (q ∷ l) = cond (below q p) (least_from i q (suc i) l) (least_from b p (suc i) l)

unfoldable pub greatest_from : ℕ → Pt → ℕ → List Pt → ℕ
greatest_from b p i [] = b
greatest_from b p i (q ∷ l) = cond (below q p) (greatest_from b p (suc i) l) (greatest_from i q (suc i) l)

-- the place of the least corner by (y, x), first of equals
unfoldable pub least_at : List Pt → ℕ
least_at [] = 0
least_at (p ∷ l) = least_from 0 p 1 l

-- the place of the greatest, last of equals
unfoldable pub greatest_at : List Pt → ℕ
greatest_at [] = 0
greatest_at (p ∷ l) = greatest_from 0 p 1 l

unfoldable pub start_at : Bool → List Pt → ℕ
start_at reflected l = cond reflected (greatest_at l) (least_at l)

-- the other extreme: "the least taken as first of equals and the greatest as last of equals"
unfoldable pub end_at : Bool → List Pt → ℕ
end_at reflected l = cond reflected (least_at l) (greatest_at l)

-- ---- "Winding is the sum of crosses of neighbouring corners, seen from the start, in table
-- order."

unfoldable pub winding_terms : ℕ → List Pt → List ℤ
winding_terms s l = map (λ e. cross (e.0 -ᵖ corner_at l s) (e.1 -ᵖ corner_at l s)) (neighbours (rotate s l))

unfoldable pub winding : Bool → List Pt → ℤ
winding reflected l = sumℤ (winding_terms (start_at reflected l) l)

-- "a winding's running total, as the walk forms it, leaves signed 64 bits" (fault 8): some total of
-- t and the terms so far does
abbrev pub in_word : ℤ → Bool
in_word z = cond (lt_z z (negsuc 9223372036854775807)) false (le_z z (pos 9223372036854775807))

unfoldable pub total_leaves : ℤ → List ℤ → Bool
total_leaves t [] = false
total_leaves t (k ∷ l) = cond (in_word (t +ℤ k)) (total_leaves (t +ℤ k) l) true

unfoldable pub winding_leaves : Bool → List Pt → Bool
winding_leaves reflected l = total_leaves (pos 0) (winding_terms (start_at reflected l) l)

-- ---- where it stands at first

-- "Negative: walk backwards. Zero: the contour is a segment between the extremes by (y, x) ..,
-- walked out and back; a point if they are equal, with no edges."
abbrev pub place_by : Bool → ℕ → ℕ → ℕ → ℤ → Bool → Place
place_by reflected n s e w point =
    cond (lt_z w (pos 0))
    (record { index = s; remaining = n; reverse = true; reflected = reflected; segment = false; start = s; end = s })
    (cond (lt_z (pos 0) w)
    (record { index = s; remaining = n; reverse = false; reflected = reflected; segment = false; start = s; end = s })
    (record { index = s; remaining = cond point 0 2; reverse = false; reflected = reflected; segment = true; start = s; end = e }))

unfoldable pub begin : Bool → List Pt → Place
begin reflected l =
    place_by reflected (length l) (start_at reflected l) (end_at reflected l) (winding reflected l)
    (eq_pt (corner_at l (start_at reflected l)) (corner_at l (end_at reflected l)))

-- ---- "A walk .. hands out point, edge and the next place."

-- round a contour of n corners; a segment's walk goes from its start to its end, and from anywhere
-- else to its start
unfoldable pub next_index : ℕ → Place → ℕ
next_index n w =
    cond w.segment (cond (eqb w.index w.start) w.end w.start)
    (cond w.reverse (cond (eqb w.index 0) (n - 1) (w.index - 1)) (cond (eqb (suc w.index) n) 0 (suc w.index)))

-- "A reflected walk negates points and edges."
abbrev pub turned : Bool → Pt → Pt
turned reflected p = cond reflected (negᵖ p) p

unfoldable pub point_of : List Pt → Place → Pt
point_of l w = turned w.reflected (corner_at l w.index)

unfoldable pub edge_of : List Pt → Place → Pt
edge_of l w = turned w.reflected (corner_at l (next_index (length l) w) -ᵖ corner_at l w.index)

unfoldable pub advance : ℕ → Place → Place
advance n w = record {
  index = next_index n w;
  remaining = w.remaining - 1;
  reverse = w.reverse;
  reflected = w.reflected;
  segment = w.segment;
  start = w.start;
  end = w.end;
}
