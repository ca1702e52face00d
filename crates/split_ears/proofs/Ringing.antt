-- The ring as it is filled (`filled_turn`, `filled_end`), steps round it, and one set
-- (`passed_over`, `length_passed`); corners appended round it (`after_none`, `after_turn`); the
-- list of corners not yet clipped that it holds (`Ringed`: `ringed_start`, `ringed_ear`,
-- `ringed_turn`). Assumes nothing.
use mathlib.Core.Path.{◌≡◌, refl, sym, ◌∙◌, ap, subst}
use mathlib.Core.Bool.{cond}
use mathlib.Core.List.{List, [], ◌∷◌, ◌++◌, map, map-append}
use Prim.Native.Nat.{ℕ, zero, suc, ◌+◌, ◌-◌, ◌≤◌, ◌<◌}
use native.Mathlib.Numerals.{add-one}
use native.Mathlib.Omega.{arith}
use borrow.Author.Tests.{ltb-true, ltb-false, eqb-true, eqb-false}
use lib.Dec.{eqb, ltb}
use lib.ListN.{length, get_or, set, take, drop, length-append, length-drop, length-map, length-set, get_or-append, get_or-map}
use lib.Seq.{take-suc, get_or-take, get_or-drop, get_or-append-add, get_or-set_same, get_or-set_other, length-take-le}
use lib.IntN.{ℤ}
use Rattle.integers.specs.Lists.{up_to}
use Rattle.integers.proofs.Order.{by_test}
use Rattle.integers.proofs.Counting.{up_to-suc, length-up_to, get_or-up_to}
use Rattle.points.specs.Points.{corner_in, Appended}
use Rattle.points.proofs.Points.{appended_none, appended_more}
use Rattle.split_ears.specs.Rings.{stepped, corners_after, Ring, Fresh}

-- ---- filled

-- the first i entries are filled
abbrev pub Filled : List ℕ → ℕ → Type 0
Filled ring i = (j : ℕ) → j < i → get_or ring j 0 ≡ j + 1

pub filled_turn : (ring : List ℕ) {i : ℕ} {ring' : List ℕ} → i < length ring → Filled ring i → ring' ≡ set ring i (i + 1) → Filled ring' (i + 1)
filled_turn ring {i} h f e j k =
    ap (λ l. get_or l j 0) e
    ∙ by_test (eqb j i)
    (λ t. let q : j ≡ i = eqb-true j i t in ap (λ n. get_or (set ring i (i + 1)) n 0) q ∙ get_or-set_same ring i (i + 1) 0 h ∙ ap (λ n. n + 1) (sym q))
    (λ t. get_or-set_other ring i j (i + 1) 0 (eqb-false j i t) ∙ f j (omega (arith, eqb-false j i t)))

pub filled_end : (ring : List ℕ) {n : ℕ} {ring' : List ℕ} → 0 < n → n ≤ length ring → Filled ring (n - 1) → ring' ≡ set ring (n - 1) 0 → Fresh ring' n
filled_end ring {n} h k f e = record {
  room = omega (arith, ap length e, length-set ring (n - 1) 0);
  next = λ i j. ap (λ l. get_or l i 0) e ∙ get_or-set_other ring (n - 1) i 0 0 (λ q. omega (arith, q)) ∙ f i j;
  last = ap (λ l. get_or l (n - 1) 0) e ∙ get_or-set_same ring (n - 1) 0 0 (omega arith);
}

-- ---- steps

pub stepped_none : (ring : List ℕ) (i : ℕ) → stepped ring i 0 ≡ i
unfolding stepped
stepped_none ring i = refl

pub stepped_more : (ring : List ℕ) (i k : ℕ) → stepped ring i (k + 1) ≡ get_or ring (stepped ring i k) 0
unfolding stepped
stepped_more ring i k = ap (stepped ring i) (add-one k)

-- after corner i comes the one k steps on
module _ (ring : List ℕ) (i k : ℕ) {ring' : List ℕ} where
  pub passed_over : {e : ℕ} → ring' ≡ set ring i e → e ≡ stepped ring i k → ring' ≡ set ring i (stepped ring i k)
  passed_over f e = f ∙ ap (set ring i) e

  pub length_passed : ring' ≡ set ring i (stepped ring i k) → length ring' ≡ length ring
  length_passed e = ap length e ∙ length-set ring i (stepped ring i k)

module _ (contour : List (List ℤ)) (ring : List ℕ) (i : ℕ) where
  pub length_after : (n : ℕ) → length (corners_after contour ring i n) ≡ n
  length_after n = length-map (up_to n) (λ k. corner_in contour (stepped ring i (suc k))) ∙ length-up_to n

  pub after_more : (k : ℕ) → corners_after contour ring i (suc k) ≡ corners_after contour ring i k ++ (corner_in contour (stepped ring i (suc k)) ∷ [])
  after_more k = ap (map (λ j. corner_in contour (stepped ring i (suc j)))) (up_to-suc k) ∙ map-append (λ j. corner_in contour (stepped ring i (suc j))) (up_to k) (k ∷ [])

  -- no corner is appended
  pub after_none : (p : List (List ℤ)) (n : ℕ) → Appended (corners_after contour ring i 0) p n p (n + 0)
  unfolding up_to
  after_none p n = let q : n ≡ n + 0 = omega arith in subst (λ m. Appended [] p n p m) q (appended_none p n)

  -- k corners are appended, and one more
  pub after_turn : (k : ℕ) {e n : ℕ} {p p' p'' : List (List ℤ)} {m : ℕ} → e ≡ stepped ring i (k + 1) → Appended (corners_after contour ring i k) p n p' (n + k) → Appended (corner_in contour e ∷ []) p' (n + k) p'' m → Appended (corners_after contour ring i (k + 1)) p n p'' (n + (k + 1))
  after_turn k {e} {n} {p} {p'' = p''} {m = m} f a b =
      let q : m ≡ n + (k + 1) = omega (arith, b.count) in
      let l : corners_after contour ring i k ++ (corner_in contour e ∷ []) ≡ corners_after contour ring i (k + 1) =
      ap (λ j. corners_after contour ring i k ++ (corner_in contour j ∷ [])) (f ∙ ap (stepped ring i) (add-one k)) ∙ sym (after_more k) ∙ ap (corners_after contour ring i) (sym (add-one k)) in
      subst (λ r. Appended (corners_after contour ring i (k + 1)) p n p'' r) q (subst (λ r. Appended r p n p'' m) l (appended_more a b))

-- ---- the corners not yet clipped

-- round the ring stand ks
pub record Ringed (ring : List ℕ) (n : ℕ) (ks : List ℕ) : Type 0 where
  pub steps : Ring ring n
  pub within : (j : ℕ) → j < length ks → get_or ks j 0 < n
  pub linked : (j : ℕ) → j + 1 < length ks → get_or ring (get_or ks j 0) 0 ≡ get_or ks (j + 1) 0
  pub closed : 0 < length ks → get_or ring (get_or ks (length ks - 1) 0) 0 ≡ get_or ks 0 0
  pub distinct : (i j : ℕ) → i < length ks → j < length ks → get_or ks i 0 ≡ get_or ks j 0 → i ≡ j

pub ringed_start : {ring : List ℕ} {n : ℕ} → 0 < n → Fresh ring n → Ringed ring n (up_to n)
ringed_start {ring} {n} some f = record {
  steps = record { room = f.room; below = below };
  within = λ j h. omega (arith, at h, size);
  linked = λ j h. ap (λ i. get_or ring i 0) (at (omega arith)) ∙ f.next j (omega (arith, size)) ∙ sym (at h);
  closed = λ h. ap (λ i. get_or ring i 0) (at (omega arith) ∙ ap (λ m. m - 1) size) ∙ f.last ∙ sym (at h);
  distinct = λ i j h k e. sym (at h) ∙ e ∙ at k;
}
  where
    size : length (up_to n) ≡ n
    size = length-up_to n

    at : {j : ℕ} → j < length (up_to n) → get_or (up_to n) j 0 ≡ j
    at {j} h = get_or-up_to n 0 (omega (arith, size))

    below : (i : ℕ) → i < n → get_or ring i 0 < n
    below i h =
        by_test (ltb i (n - 1))
        (λ t. omega (arith, f.next i (ltb-true i (n - 1) t), ltb-true i (n - 1) t))
        (λ t. let e : i ≡ n - 1 = omega (arith, ltb-false i (n - 1) t) in omega (arith, ap (λ k. get_or ring k 0) e, f.last))

module _ {ring : List ℕ} {n : ℕ} {ks : List ℕ} (r : Ringed ring n ks) where
  pub ringed_steps : (j : ℕ) → j < length ks → stepped ring (get_or ks 0 0) j ≡ get_or ks j 0
  unfolding stepped
  ringed_steps zero h = refl
  ringed_steps (suc j) h = ap (λ i. get_or ring i 0) (ringed_steps j (omega arith)) ∙ r.linked j (omega arith) ∙ ap (λ i. get_or ks i 0) (add-one j)

  -- the first and the m after it
  pub ringed_ear : (contour : List (List ℤ)) (m : ℕ) → m < length ks → corner_in contour (get_or ks 0 0) ∷ corners_after contour ring (get_or ks 0 0) m ≡ take (suc m) (map (corner_in contour) ks)
  unfolding up_to
  ringed_ear contour zero h = sym (take-suc (map (corner_in contour) ks) 0 (corner_in contour 0) (omega (arith, length-map ks (corner_in contour))) ∙ ap (λ p. p ∷ []) (get_or-map (corner_in contour) ks 0 0))
  ringed_ear contour (suc m) h =
      ap (λ q. corner_in contour (get_or ks 0 0) ∷ q) (after_more contour ring (get_or ks 0 0) m) ∙ ap (λ q. q ++ (corner_in contour (stepped ring (get_or ks 0 0) (suc m)) ∷ [])) (ringed_ear contour m (omega arith))
      ∙ ap (λ k. take (suc m) (map (corner_in contour) ks) ++ (corner_in contour k ∷ [])) (ringed_steps (suc m) h)
      ∙ ap (λ p. take (suc m) (map (corner_in contour) ks) ++ (p ∷ [])) (sym (get_or-map (corner_in contour) ks (suc m) 0))
      ∙ sym (take-suc (map (corner_in contour) ks) (suc m) (corner_in contour 0) (omega (arith, length-map ks (corner_in contour))))

  -- after the first comes the one m places on, and those between are passed over
  module _ {m : ℕ} (some : 0 < m) (few : m < length ks) {ring' : List ℕ} (e : ring' ≡ set ring (get_or ks 0 0) (stepped ring (get_or ks 0 0) m)) where
    length_left : length (drop m ks ++ take 1 ks) ≡ length ks - m + 1
    length_left = omega (arith, length-append (drop m ks) (take 1 ks), length-drop m ks, length-take-le 1 ks (omega arith))

    at_near : (j : ℕ) → m + j < length ks → get_or (drop m ks ++ take 1 ks) j 0 ≡ get_or ks (m + j) 0
    at_near j h = get_or-append (drop m ks) (take 1 ks) 0 j (omega (arith, length-drop m ks)) ∙ get_or-drop m ks j 0

    at_last : (j : ℕ) → m + j ≡ length ks → get_or (drop m ks ++ take 1 ks) j 0 ≡ get_or ks 0 0
    at_last j h =
        ap (λ i. get_or (drop m ks ++ take 1 ks) i 0) (omega (arith, length-drop m ks, h)) ∙ get_or-append-add (drop m ks) (take 1 ks) 0 0 ∙ get_or-take 1 ks 0 0 (omega arith)

    -- where corner j of the new list stood
    abbrev place : ℕ → ℕ
    place j = cond (ltb (m + j) (length ks)) (m + j) 0

    at_place : {j : ℕ} → j < length (drop m ks ++ take 1 ks) → get_or (drop m ks ++ take 1 ks) j 0 ≡ get_or ks (place j) 0
    at_place {j} h = by_test (ltb (m + j) (length ks))
        (λ t. rw t (at_near j (ltb-true (m + j) (length ks) t)))
        (λ t. rw t (at_last j (omega (arith, ltb-false (m + j) (length ks) t, length_left))))

    place_below : (j : ℕ) → place j < length ks
    place_below j = by_test (ltb (m + j) (length ks)) (λ t. rw t (ltb-true (m + j) (length ks) t)) (λ t. rw t (omega arith))

    place_once : {i j : ℕ} → i < length (drop m ks ++ take 1 ks) → j < length (drop m ks ++ take 1 ks) → place i ≡ place j → i ≡ j
    place_once {i} {j} h k = by_test (ltb (m + i) (length ks))
        (λ t. by_test (ltb (m + j) (length ks))
        (λ u. rw (t, u) (λ q. omega (arith, q)))
        (λ u. rw (t, u) (λ q. omega (arith, q))))
        (λ t. by_test (ltb (m + j) (length ks))
        (λ u. rw (t, u) (λ q. omega (arith, q)))
        (λ u. rw (t, u) (λ q. omega (arith, ltb-false (m + i) (length ks) t, ltb-false (m + j) (length ks) u, length_left))))

    next_first : get_or ring' (get_or ks 0 0) 0 ≡ get_or ks m 0
    next_first =
        ap (λ l. get_or l (get_or ks 0 0) 0) e ∙ get_or-set_same ring (get_or ks 0 0) (stepped ring (get_or ks 0 0) m) 0 (omega (arith, r.within 0 (omega arith), r.steps.room))
        ∙ ringed_steps m few

    next_other : {i : ℕ} → (i ≡ get_or ks 0 0 → ⊥) → get_or ring' i 0 ≡ get_or ring i 0
    next_other {i} d = ap (λ l. get_or l i 0) e ∙ get_or-set_other ring (get_or ks 0 0) i (stepped ring (get_or ks 0 0) m) 0 d

    below : (i : ℕ) → i < n → get_or ring' i 0 < n
    below i h = by_test (eqb i (get_or ks 0 0))
        (λ t. omega (arith, ap (λ k. get_or ring' k 0) (eqb-true i (get_or ks 0 0) t), next_first, r.within m few))
        (λ t. omega (arith, next_other (eqb-false i (get_or ks 0 0) t), r.steps.below i h))

    linked : (j : ℕ) → j + 1 < length (drop m ks ++ take 1 ks) → get_or ring' (get_or (drop m ks ++ take 1 ks) j 0) 0 ≡ get_or (drop m ks ++ take 1 ks) (j + 1) 0
    linked j h =
        let k : m + j < length ks = omega (arith, length_left) in
        ap (λ i. get_or ring' i 0) (at_near j k) ∙ next_other {i = get_or ks (m + j) 0} (λ q. omega (arith, r.distinct (m + j) 0 k (omega arith) q))
        ∙ by_test (ltb (m + j + 1) (length ks))
        (λ t. r.linked (m + j) (ltb-true (m + j + 1) (length ks) t) ∙ ap (λ i. get_or ks i 0) (omega arith) ∙ sym (at_near (j + 1) (omega (arith, ltb-true (m + j + 1) (length ks) t))))
        (λ t. ap (λ i. get_or ring (get_or ks i 0) 0) (omega (arith, ltb-false (m + j + 1) (length ks) t)) ∙ r.closed (omega arith) ∙ sym (at_last (j + 1) (omega (arith, ltb-false (m + j + 1) (length ks) t))))

    pub ringed_next : get_or ring' (get_or ks 0 0) 0 ≡ get_or (drop m ks ++ take 1 ks) 0 0
    ringed_next = next_first ∙ ap (λ i. get_or ks i 0) (omega arith) ∙ sym (at_near 0 (omega arith))

    pub ringed_turn : Ringed ring' n (drop m ks ++ take 1 ks)
    ringed_turn = record {
      steps = record { room = omega (arith, r.steps.room, ap length e, length-set ring (get_or ks 0 0) (stepped ring (get_or ks 0 0) m)); below = below };
      within = λ j h. omega (arith, at_place h, r.within (place j) (place_below j));
      linked = linked;
      closed = λ h. ap (λ i. get_or ring' i 0) (at_last (length (drop m ks ++ take 1 ks) - 1) (omega (arith, length_left))) ∙ ringed_next;
      distinct = λ i j h k q. place_once h k (r.distinct (place i) (place j) (place_below i) (place_below j) (sym (at_place h) ∙ q ∙ at_place k));
    }
