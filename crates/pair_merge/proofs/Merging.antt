-- The merge over buffers of points, a turn at a time, by places: points and edges read (`point_in`,
-- `edge_in`), a turn by how the edges compare (`turn_less`, and so on), the room for its corner,
-- and what is put where one list has no edge left. Assumes nothing.
use mathlib.Core.Path.{◌≡◌, refl, sym, ◌∙◌, ap, ap₂, subst}
use mathlib.Core.Bool.{true, false}
use mathlib.Core.List.{List, [], ◌∷◌, ◌++◌, append-nil}
use mathlib.Core.Logic.{◌⊎◌, inl, inr, ⊎_elim}
use Prim.Native.Nat.{ℕ, ◌+◌, ◌-◌, ◌≤◌, ◌<◌}
use native.Mathlib.Omega.{arith}
use lib.ListN.{length, drop, get_or-map, length-map, length-append}
use lib.IntN.{ℤ}
use Rattle.integers.proofs.Order.{by_test}
use Rattle.std.specs.declared.cmp.Ordering.{Ordering}
use Rattle.std.specs.declared.cmp.Ordering.TheVariants.{Less, Equal, Greater}
use Rattle.plane.specs.Plane.{Pt, ◌+ᵖ◌, ◌-ᵖ◌, angle_cmp, is_greater}
use Rattle.points.specs.Points.{corner_of, corner_in}
use Rattle.pair_points.specs.Points.{edges_along, merged_of, second_next, rest_of, nth_point, edge_at}
use Rattle.pair_points.proofs.Turns.{second_more, rest_more, rest_last, at_less, at_greater, at_both, at_first, at_rest}
use Rattle.pair_merge.specs.Putting.{points_in, Mergeable, RoomAfter, CornersPut, Reached}
use Rattle.pair_merge.proofs.Placing.{reached_start, reached_more, reached_end, reached_room}

-- point i of a buffer, and the edge from it
pub point_in : (a : List (List ℤ)) (i : ℕ) → nth_point (points_in a) i ≡ corner_in a i
point_in a i = get_or-map corner_of a i []

pub edge_in : (a : List (List ℤ)) (i : ℕ) {p q : Pt} → p ≡ corner_in a (i + 1) → q ≡ corner_in a i → p -ᵖ q ≡ edge_at (points_in a) i
edge_in a i e f = ap₂ ◌-ᵖ◌ (e ∙ sym (point_in a (i + 1))) (f ∙ sym (point_in a i))

-- after a tie, with an edge left in the first list
pub tie_broken : (a b : List (List ℤ)) {i : ℕ} (j : ℕ) → i < length a → ¬ (i + 1 ≡ length a) → second_next (edges_along (drop i (points_in a))) (edge_at (points_in b) j) ≡ is_greater (angle_cmp (edge_at (points_in a) i) (edge_at (points_in b) j))
tie_broken a b {i} j h k = second_more (points_in a) i (edge_at (points_in b) j) (omega (arith, length-map a corner_of))

-- ---- a turn of the merge

module _ {a b : List (List ℤ)} (ma : Mergeable a) (mb : Mergeable b) (i j : ℕ) (hi : i + 1 < length a) (hj : j + 1 < length b) where
  -- what is still to come from places i and j on
  abbrev to_come : ℕ → ℕ → List Pt
  to_come i j = merged_of (drop i (points_in a)) (drop j (points_in b))

  abbrev corner : Pt
  corner = corner_in a i +ᵖ corner_in b j

  inside_a : i + 1 < length (points_in a)
  inside_a = omega (arith, length-map a corner_of)

  inside_b : j + 1 < length (points_in b)
  inside_b = omega (arith, length-map b corner_of)

  -- the corner as it is read
  as_read : (l : List Pt) → (nth_point (points_in a) i +ᵖ nth_point (points_in b) j) ∷ l ≡ corner ∷ l
  as_read l = λ k. (point_in a i k +ᵖ point_in b j k) ∷ l

  come_less : angle_cmp (edge_at (points_in a) i) (edge_at (points_in b) j) ≡ Less → to_come i j ≡ corner ∷ to_come (i + 1) j
  come_less e = at_less i j ma.turning mb.turning inside_a inside_b e ∙ as_read (to_come (i + 1) j)

  come_greater : angle_cmp (edge_at (points_in a) i) (edge_at (points_in b) j) ≡ Greater → to_come i j ≡ corner ∷ to_come i (j + 1)
  come_greater e = at_greater i j ma.turning mb.turning inside_a inside_b e ∙ as_read (to_come i (j + 1))

  come_both : angle_cmp (edge_at (points_in a) i) (edge_at (points_in b) j) ≡ Equal → second_next (edges_along (drop (i + 1) (points_in a))) (edge_at (points_in b) j) ≡ true → to_come i j ≡ corner ∷ to_come (i + 1) (j + 1)
  come_both e h = at_both i j ma.turning mb.turning inside_a inside_b e h ∙ as_read (to_come (i + 1) (j + 1))

  come_first : angle_cmp (edge_at (points_in a) i) (edge_at (points_in b) j) ≡ Equal → second_next (edges_along (drop (i + 1) (points_in a))) (edge_at (points_in b) j) ≡ false → to_come i j ≡ corner ∷ to_come (i + 1) j
  come_first e h = at_first i j ma.turning mb.turning inside_a inside_b e h ∙ as_read (to_come (i + 1) j)

  -- a corner comes, whichever edge steps
  come_some : 1 ≤ length (to_come i j)
  come_some = by (angle_cmp (edge_at (points_in a) i) (edge_at (points_in b) j)) refl
    where
      by : (o : Ordering) → angle_cmp (edge_at (points_in a) i) (edge_at (points_in b) j) ≡ o → 1 ≤ length (to_come i j)
      by Less e = omega (arith, ap length (come_less e))
      by Greater e = omega (arith, ap length (come_greater e))
      by Equal e = by_test (second_next (edges_along (drop (i + 1) (points_in a))) (edge_at (points_in b) j))
          (λ h. omega (arith, ap length (come_both e h))) (λ h. omega (arith, ap length (come_first e h)))

  -- so there is room for it
  pub turn_room : {whole : List Pt} {out out' : List ℤ} {n k : ℕ} → Reached whole (to_come i j) out n out' k → RoomAfter whole out n → RoomAfter (corner ∷ []) out' k
  turn_room r h = omega (arith, reached_room r h, come_some)

  -- it is put, and the merge goes on
  module _ {whole : List Pt} {out out' out'' : List ℤ} {n k : ℕ} (r : Reached whole (to_come i j) out n out' k) (p : CornersPut (corner ∷ []) out' k out'' (k + 1)) where
    turned : {left : List Pt} → to_come i j ≡ corner ∷ left → Reached whole left out n out'' (k + 1)
    turned {left} e = reached_more left (subst (λ l. Reached whole l out n out' k) e r) p

    pub turn_less : angle_cmp (edge_at (points_in a) i) (edge_at (points_in b) j) ≡ Less → Reached whole (to_come (i + 1) j) out n out'' (k + 1)
    turn_less e = turned (come_less e)

    pub turn_greater : angle_cmp (edge_at (points_in a) i) (edge_at (points_in b) j) ≡ Greater → Reached whole (to_come i (j + 1)) out n out'' (k + 1)
    turn_greater e = turned (come_greater e)

    pub turn_both : angle_cmp (edge_at (points_in a) i) (edge_at (points_in b) j) ≡ Equal → second_next (edges_along (drop (i + 1) (points_in a))) (edge_at (points_in b) j) ≡ true → Reached whole (to_come (i + 1) (j + 1)) out n out'' (k + 1)
    turn_both e h = turned (come_both e h)

    pub turn_first : angle_cmp (edge_at (points_in a) i) (edge_at (points_in b) j) ≡ Equal → second_next (edges_along (drop (i + 1) (points_in a))) (edge_at (points_in b) j) ≡ false → Reached whole (to_come (i + 1) j) out n out'' (k + 1)
    turn_first e h = turned (come_first e h)

-- both lists have an edge fewer
pub both_fall : {n m i j : ℕ} → i < n → j < m → (n - (i + 1)) + (m - (j + 1)) < (n - i) + (m - j)
both_fall h k = omega arith

-- ---- the rest of one list, at a point of the other

module _ (a b : List (List ℤ)) (p j : ℕ) where
  -- what is still to come from point p on
  abbrev rest_from : ℕ → List Pt
  rest_from p = rest_of (corner_in b j) (drop p (points_in a))

  rest_next : p + 1 < length a → rest_from p ≡ (corner_in a p +ᵖ corner_in b j) ∷ rest_from (p + 1)
  rest_next h = rest_more (corner_in b j) (points_in a) p (omega (arith, length-map a corner_of)) ∙ (λ k. (point_in a p k +ᵖ corner_in b j) ∷ rest_from (p + 1))

  pub rest_room : {whole : List Pt} {out out' : List ℤ} {n k : ℕ} → p + 1 < length a → Reached whole (rest_from p) out n out' k → RoomAfter whole out n → RoomAfter ((corner_in a p +ᵖ corner_in b j) ∷ []) out' k
  rest_room h r f = omega (arith, reached_room r f, ap length (rest_next h))

  pub rest_turn : {whole : List Pt} {out out' out'' : List ℤ} {n k : ℕ} → p + 1 < length a → Reached whole (rest_from p) out n out' k → CornersPut ((corner_in a p +ᵖ corner_in b j) ∷ []) out' k out'' (k + 1) → Reached whole (rest_from (p + 1)) out n out'' (k + 1)
  rest_turn {whole} {out} {out'} {n = n} {k = k} h r q = reached_more (rest_from (p + 1)) (subst (λ l. Reached whole l out n out' k) (rest_next h) r) q

  pub rest_end : {whole : List Pt} {out out' : List ℤ} {n k : ℕ} → p + 1 ≡ length a → Reached whole (rest_from p) out n out' k → CornersPut whole out n out' k
  rest_end {whole} {out} {out'} {n} {k} e r = reached_end (subst (λ l. Reached whole l out n out' k) (rest_last (corner_in b j) (points_in a) p (omega (arith, length-map a corner_of))) r)

-- ---- where one list has no edge left, and where a list is empty

module _ {a b : List (List ℤ)} (ma : Mergeable a) (mb : Mergeable b) {i j : ℕ} (hi : i < length a) (hj : j < length b) (h : (i + 1 ≡ length a) ⊎ (j + 1 ≡ length b)) {whole : List Pt} {out out' : List ℤ} {n k : ℕ} (r : Reached whole (merged_of (drop i (points_in a)) (drop j (points_in b))) out n out' k) where
  abbrev of_first : List Pt
  of_first = rest_of (corner_in b j) (drop i (points_in a))

  abbrev of_second : List Pt
  of_second = rest_of (corner_in a (length a - 1)) (drop j (points_in b))

  halted : Reached whole (of_first ++ of_second) out n out' k
  halted =
      subst (λ l. Reached whole l out n out' k)
      (at_rest ma.turning mb.turning (omega (arith, hi, length-map a corner_of)) (omega (arith, hj, length-map b corner_of))
      (⊎_elim (λ e. inl (e ∙ sym (length-map a corner_of))) (λ e. inr (e ∙ sym (length-map b corner_of))) h)
      ∙ (λ t. rest_of (point_in b j t) (drop i (points_in a)) ++ rest_of (last t) (drop j (points_in b)))) r
    where
      last : nth_point (points_in a) (length (points_in a) - 1) ≡ corner_in a (length a - 1)
      last = ap (λ m. nth_point (points_in a) (m - 1)) (length-map a corner_of) ∙ point_in a (length a - 1)

  pub first_room : RoomAfter whole out n → RoomAfter of_first out' k
  first_room f = omega (arith, reached_room halted f, length-append of_first of_second)

  module _ {out'' : List ℤ} {m : ℕ} (p : CornersPut of_first out' k out'' m) where
    pub second_room : RoomAfter whole out n → RoomAfter of_second out'' m
    second_room f = reached_room (reached_more of_second halted p) f

    pub both_put : {out''' : List ℤ} {q : ℕ} → CornersPut of_second out'' m out''' q → CornersPut whole out n out''' q
    both_put g = reached_end (reached_more [] (subst (λ l. Reached whole l out n out'' m) (sym (append-nil of_second)) (reached_more of_second halted p)) g)

-- no point, no corner
pub none_first : (a b : List (List ℤ)) (out : List ℤ) (n : ℕ) → length a ≡ 0 → CornersPut (merged_of (points_in a) (points_in b)) out n out n
unfolding merged_of
none_first [] b out n e = reached_end (reached_start [] out n)
none_first (p ∷ a) b out n e = absurd (omega arith)

pub none_second : (a b : List (List ℤ)) (out : List ℤ) (n : ℕ) → length b ≡ 0 → CornersPut (merged_of (points_in a) (points_in b)) out n out n
unfolding merged_of
none_second [] b out n e = reached_end (reached_start [] out n)
none_second (p ∷ a) [] out n e = reached_end (reached_start [] out n)
none_second (p ∷ a) (q ∷ b) out n e = absurd (omega arith)
