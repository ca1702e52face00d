-- The bound on all corners as pairs are counted: any pair has no more corners than edges
-- (`any_few`), so the bound is one at each place (`bounds_most`) and exact at the last
-- (`bounds_end`); from the edges of all pairs (`bounds_start`) a pair or four at a time
-- (`bounds_next`, `bounds_four`). Assumes nothing.
use mathlib.Core.Path.{◌≡◌, refl, sym, ◌∙◌, ap, subst}
use mathlib.Core.List.{List, [], ◌∷◌, flatten}
use Prim.Native.Nat.{ℕ, zero, suc, ◌+◌, ◌*◌, ◌<◌, ◌≤◌}
use native.Mathlib.Nat.{div-add-mod', mod-lt, div-lt_iff_lt-mul}
use native.Mathlib.Omega.{arith}
use lib.IntN.{ℤ}
use Rattle.plane.specs.Plane.{Pt}
use borrow.Author.Tests.{le-ltb, ltb-true, ltb-false}
use lib.Dec.{ltb}
use lib.ListN.{length, get_or, take, drop, length-append, take-append-drop}
use lib.Seq.{take-suc, take_all, drop-cons}
use Rattle.integers.specs.Lists.{sumℕ}
use Rattle.integers.proofs.Order.{by_test}
use Rattle.table.specs.Table.{max_contour}
use Rattle.pair_walks.specs.Walks.{contours_in}
use Rattle.pair_numbers.specs.Numbers.{Keyed}
use Rattle.pair_chains.specs.declared.Pair.{Pair}
use Rattle.pair_chains.specs.Chains.{Runs, Countable}
use native.Mathlib.Numerals.{add-one}
use Rattle.integers.proofs.Sums.{sumℕ_append, length_flatten_append}
use Rattle.minkowski_order.specs.declared.Place.{Place}
use Rattle.minkowski_order.specs.Order.{InOrder, Onward, edge_counts, PairAs, Used}
use Rattle.minkowski_counted.specs.Counts.{all_corners, four_edges, four_corners, Bounds, Lowered, Above}
use Rattle.minkowski_order.proofs.Order.{order_start}
use Rattle.minkowski_order.proofs.Pairs.{contours_length, edges_length, is_pair, as_few}
use Rattle.minkowski_order.proofs.Cut.{contours_same}

-- ---- sums of lists by places

sum_next : (es : List ℕ) (n : ℕ) → n < length es → sumℕ (take (n + 1) es) ≡ sumℕ (take n es) + get_or es n 0
unfolding sumℕ
sum_next es n h = ap (λ m. sumℕ (take m es)) (add-one n) ∙ ap sumℕ (take-suc es n 0 h) ∙ sumℕ_append (take n es) (get_or es n 0 ∷ []) ∙ omega arith

count_next : (ps : List (List Pt)) (n : ℕ) → n < length ps → length (flatten (take (n + 1) ps)) ≡ length (flatten (take n ps)) + length (get_or ps n [])
unfolding flatten
count_next ps n h =
    ap (λ m. length (flatten (take m ps))) (add-one n) ∙ ap (λ l. length (flatten l)) (take-suc ps n [] h) ∙ length_flatten_append (take n ps) (get_or ps n [] ∷ [])
    ∙ omega (arith, length-append (get_or ps n []) [])

sum_rest : (es : List ℕ) (n : ℕ) → sumℕ es ≡ sumℕ (take n es) + sumℕ (drop n es)
sum_rest es n = ap sumℕ (sym (take-append-drop n es)) ∙ sumℕ_append (take n es) (drop n es)

count_rest : (ps : List (List Pt)) (n : ℕ) → length (flatten ps) ≡ length (flatten (take n ps)) + length (flatten (drop n ps))
count_rest ps n = ap (λ l. length (flatten l)) (sym (take-append-drop n ps)) ∙ length_flatten_append (take n ps) (drop n ps)

-- each list no longer than its number: so all together
few_rest : (ps : List (List Pt)) (es : List ℕ) → length ps ≡ length es → ((i : ℕ) → i < length ps → length (get_or ps i []) ≤ get_or es i 0) → (n : ℕ) → length (flatten (drop n ps)) ≤ sumℕ (drop n es)
unfolding flatten sumℕ
few_rest [] es e h zero = omega arith
few_rest [] es e h (suc n) = omega arith
few_rest (p ∷ ps) [] e h n = absurd (omega arith)
few_rest (p ∷ ps) (x ∷ es) e h zero = omega (arith, length-append p (flatten ps), h 0 (omega arith), few_rest ps es (omega arith) (λ i k. h (suc i) (omega arith)) 0)
few_rest (p ∷ ps) (x ∷ es) e h (suc n) = few_rest ps es (omega arith) (λ i k. h (suc i) (omega arith)) n

-- ---- all pairs

-- the edges of the pairs before a place, added up
pub record Summed (firsts : List ℕ) (points : List (List ℤ)) (left right : ℕ) (s : Place) : Type 0 where
  pub order : InOrder left right s
  pub some : s.n ≤ left * right
  pub sum : s.k ≡ sumℕ (take s.n (edge_counts firsts points left right))
  pub small : s.k ≤ s.n * (2 * max_contour)

module _ (firsts : List ℕ) (points : List (List ℤ)) (numbers : List ℕ) (left right : ℕ) (k : Keyed firsts points numbers left right) where
  abbrev ps : List (List Pt)
  ps = contours_in firsts points left right

  abbrev es : List ℕ
  es = edge_counts firsts points left right

  abbrev same : length ps ≡ left * right
  same = contours_length k

  abbrev same_edges : length es ≡ left * right
  same_edges = edges_length k

  -- pair i is left walk i / right and right walk i % right
  any_few : {i : ℕ} → i < left * right → length (get_or ps i []) ≤ get_or es i 0
  any_few {i} h =
      let z : 0 < right = some left right h in
      as_few (is_pair k ((div-lt_iff_lt-mul z).1 h) (mod-lt i z) (sym (div-add-mod' i right)) refl)
    where
      some : (l r : ℕ) {i : ℕ} → i < l * r → 0 < r
      some l zero h = absurd (omega (arith, h))
      some l (suc r) h = omega arith

  pub bounds_start : {m : ℕ} → m ≡ sumℕ es → Bounds firsts points left right (record { p = 0; q = 0; n = 0; k = m })
  unfolding flatten sumℕ
  bounds_start {m} e = record { order = order_start left right m; some = omega arith; bound = omega (arith, e) }

  module _ (s : Place) (a : Bounds firsts points left right s) where
    -- no fewer than all corners
    pub bounds_most : all_corners firsts points left right ≤ s.k
    bounds_most = omega (arith, a.bound, sum_rest es s.n, count_rest ps s.n, few_rest ps es (same ∙ sym same_edges) (λ i h. any_few (omega (arith, h, same))) s.n)

    pub bounds_end : left * right ≤ s.n → s.k ≡ all_corners firsts points left right
    bounds_end h = omega (arith, a.bound, ap sumℕ (take_all s.n es (omega (arith, h, same_edges))), ap (λ l. length (flatten l)) (take_all s.n ps (omega (arith, h, same))))

    -- it has the edges of the pairs from there on in it
    pub bounds_edges : s.n < left * right → get_or es s.n 0 ≤ s.k
    unfolding sumℕ
    bounds_edges h = omega (arith, a.bound, sum_rest es s.n, ap sumℕ (drop-cons es s.n 0 (omega (arith, h, same_edges))))

    pub bounds_next : {r : Place} → s.n + 1 ≤ left * right → Lowered left right 1 (length (get_or ps s.n [])) (get_or es s.n 0) s r → Bounds firsts points left right r
    bounds_next {r} h l =
        let e : r.n ≡ s.n + 1 = l.place.number in
        record {
          order = l.place.order;
          some = omega (arith, e, h);
          bound = omega (arith, a.bound, l.corners, ap (λ n. sumℕ (take n es)) e, ap (λ n. length (flatten (take n ps))) e, sum_next es s.n (omega (arith, h, same_edges)), count_next ps s.n (omega (arith, h, same)));
        }

    four_sum : s.n + 4 ≤ left * right → sumℕ (take (s.n + 4) es) ≡ sumℕ (take s.n es) + four_edges es s.n
    four_sum h =
        on (s.n + 3) (s.n + 4) (omega arith) (omega (arith, h, same_edges)) ∙ omega (arith, on (s.n + 2) (s.n + 3) (omega arith) (omega (arith, h, same_edges)), on (s.n + 1) (s.n + 2) (omega arith) (omega (arith, h, same_edges)), sum_next es s.n (omega (arith, h, same_edges)))
      where
        on : (i j : ℕ) → i + 1 ≡ j → i < length es → sumℕ (take j es) ≡ sumℕ (take i es) + get_or es i 0
        on i j e h = ap (λ m. sumℕ (take m es)) (sym e) ∙ sum_next es i h

    four_count : s.n + 4 ≤ left * right → length (flatten (take (s.n + 4) ps)) ≡ length (flatten (take s.n ps)) + four_corners ps s.n
    four_count h =
        on (s.n + 3) (s.n + 4) (omega arith) (omega (arith, h, same)) ∙ omega (arith, on (s.n + 2) (s.n + 3) (omega arith) (omega (arith, h, same)), on (s.n + 1) (s.n + 2) (omega arith) (omega (arith, h, same)), count_next ps s.n (omega (arith, h, same)))
      where
        on : (i j : ℕ) → i + 1 ≡ j → i < length ps → length (flatten (take j ps)) ≡ length (flatten (take i ps)) + length (get_or ps i [])
        on i j e h = ap (λ m. length (flatten (take m ps))) (sym e) ∙ count_next ps i h

    pub bounds_four_edges : s.n + 4 ≤ left * right → four_edges es s.n ≤ s.k
    bounds_four_edges h = omega (arith, a.bound, sum_rest es (s.n + 4), four_sum h)

    pub bounds_four : {r : Place} → s.n + 4 ≤ left * right → Lowered left right 4 (four_corners ps s.n) (four_edges es s.n) s r → Bounds firsts points left right r
    bounds_four {r} h l =
        let e : r.n ≡ s.n + 4 = l.place.number in
        record {
          order = l.place.order;
          some = omega (arith, e, h);
          bound = omega (arith, a.bound, l.corners, ap (λ n. sumℕ (take n es)) e, ap (λ n. length (flatten (take n ps))) e, four_sum h, four_count h);
        }

    -- what is told of it
    pub bounds_within : {room : ℕ} → s.k ≤ room → Above room (all_corners firsts points left right) s.k
    bounds_within h = record { most = bounds_most; exact = λ g. absurd (omega (arith, g, h)) }

    pub bounds_exact : (room : ℕ) → left * right ≤ s.n → Above room (all_corners firsts points left right) s.k
    bounds_exact room h = let e = bounds_end h in record { most = omega (arith, e); exact = λ g. e }

  pub summed_start : Summed firsts points left right (record { p = 0; q = 0; n = 0; k = 0 })
  unfolding sumℕ
  summed_start = record { order = order_start left right 0; some = omega arith; sum = refl; small = omega arith }

  pub summed_next : {s : Place} {r : Place} {m e : ℕ} → Summed firsts points left right s → s.n + 1 ≤ left * right → e ≡ get_or es s.n 0 → e ≤ 2 * max_contour → m ≡ s.k + e → Onward left right 1 m s r → Summed firsts points left right r
  summed_next {s} {r} a h f g w o =
      let e : r.n ≡ s.n + 1 = o.number in
      record {
        order = o.order;
        some = omega (arith, e, h);
        sum = omega (arith, a.sum, f, w, o.corners, ap (λ n. sumℕ (take n es)) e, sum_next es s.n (omega (arith, h, same_edges)));
        small = omega (arith, a.small, g, w, o.corners, e);
      }

  pub summed_end : {s : Place} → Summed firsts points left right s → left * right ≤ s.n → s.k ≡ sumℕ es
  summed_end {s} a h = a.sum ∙ ap sumℕ (take_all s.n es (omega (arith, h, same_edges)))

-- ---- a pair counted

module _ {firsts : List ℕ} {points : List (List ℤ)} {numbers : List ℕ} {left right : ℕ} (u : Used firsts points numbers left right) {c : List Pt} {e : ℕ} {x : Pair} (a : PairAs points numbers c e x) where
  pub as_countable : Countable numbers x
  as_countable = record {
    few = omega (arith, u.same, u.buffers.few);
    runs = subst (λ n. Runs n numbers x.end x.i x.j) (sym u.same) a.runs;
    short = omega (arith, a.edges, a.short, a.runs.left, a.runs.right, u.buffers.few);
  }

-- ---- what a bound tells

pub above_test : {room t r : ℕ} → Above room t r → ltb room r ≡ ltb room t
above_test {room} {t} {r} a =
    by_test (ltb room r)
    (λ e. ap (ltb room) (a.exact (ltb-true room r e)))
    (λ e. e ∙ sym (le-ltb room t (omega (arith, ltb-false room r e, a.most))))

pub above_none : {t r : ℕ} → Above 0 t r → r ≡ t
above_none {t} {r} a = by_test (ltb 0 r) (λ e. a.exact (ltb-true 0 r e)) (λ e. omega (arith, ltb-false 0 r e, a.most))

-- the same of the buffers cut to the points in use
pub above_same :
    {firsts : List ℕ} {points : List (List ℤ)} {numbers : List ℕ} {left right : ℕ} → Keyed firsts points numbers left right → {n room m : ℕ} →
    n ≡ get_or firsts (left + right) 0 → Above room (all_corners firsts (take n points) left right) m → Above room (all_corners firsts points left right) m
above_same {firsts} {points} {numbers} {left} {right} k {room = room} {m} e r =
    subst (λ l. Above room (length (flatten l)) m) (ap (λ n. contours_in firsts (take n points) left right) e ∙ contours_same firsts points numbers left right k) r

-- pairs counted, and the place after them
pub lowered : {left right : ℕ} {m k c e : ℕ} {s r : Place} → Onward left right m k s r → k + e ≡ s.k + c → Lowered left right m c e s r
lowered a h = record { place = record { order = a.order; number = a.number; corners = refl }; corners = omega (arith, a.corners, h) }
