-- The winding, term by term: a term by its places (`term_is`), the total so far (`wound_turn`,
-- `wound_leaves`, `wound_ends`), and what the whole tells: that it leaves, or the winding
-- (`wound_total`, `wound_left`). Assumes nothing.
use Rattle.std.specs.Prelude.{Option, Some, None, SomeIff}
use mathlib.Core.Path.{◌≡◌, refl, sym, ◌∙◌, ap, subst}
use mathlib.Core.Bool.{true, false, cond}
use mathlib.Core.List.{List, [], ◌∷◌, map}
use Prim.Native.Nat.{ℕ, zero, suc, ◌+◌, ◌-◌, ◌≤◌, ◌<◌}
use native.Mathlib.Numerals.{add-one}
use native.Mathlib.Omega.{arith}
use borrow.Author.Tests.{ltb-true, ltb-false, eqb-true, eqb-false, lt-ltb, le-ltb}
use lib.Dec.{eqb, ltb}
use lib.ListN.{length, drop, get_or, drop_of_length-le, length-map}
use lib.Seq.{drop-cons}
use lib.IntN.{ℤ, pos, negsuc, ◌+ℤ◌}
use lib.Signed.{◌≤ℤ◌, lt_z, le_z}
use mir.Syntax.{w64}
use mir.Val.{SFits, to_z, of_z}
use Rattle.integers.specs.Lists.{sumℤ, rotate, neighbours}
use Rattle.integers.proofs.Order.{zarith, by_test}
use Rattle.integers.proofs.Tests.{≤-lt_z, ≤-le_z, lt_z-≤, le_z-≤, not_then}
use Rattle.integers.proofs.Sizes.{mag_parts}
use Rattle.integers.proofs.Bits.{kept}
use Rattle.integers.proofs.Ring.{con, ◌:+◌, ◌:≡◌, int, ring}
use Rattle.integers.proofs.Rotation.{length_rotate, get_or_rotate, get_or_rotate_past}
use Rattle.integers.proofs.Neighbours.{length_neighbours, get_or_neighbours, get_or_neighbours_last}
use Rattle.plane.specs.Plane.{Pt, O, ◌-ᵖ◌, cross}
use Rattle.pair.specs.Walk.{corner_at, winding_terms, in_word, total_leaves}
use Rattle.walk_winding.specs.Winding.{round_to, added_of, winding_of}

-- ---- places round the contour

pub round_near : {n i : ℕ} → i < n → round_to n i ≡ i
unfolding round_to
round_near {n} {i} h = rw (lt-ltb i n h)

pub round_past : {n i : ℕ} → n ≤ i → round_to n i ≡ i - n
unfolding round_to
round_past {n} {i} h = rw (le-ltb i n h)

-- corner k of the contour from corner s on
ring_at : (l : List Pt) {s k : ℕ} → s < length l → k < length l → get_or (rotate s l) k O ≡ corner_at l (round_to (length l) (s + k))
ring_at l {s} {k} h g =
    by_test (ltb (s + k) (length l))
    (λ t. let f = ltb-true (s + k) (length l) t in get_or_rotate s l k O f ∙ ap (corner_at l) (sym (round_near f)))
    (λ t. let f = ltb-false (s + k) (length l) t in get_or_rotate_past l O (omega arith) g f ∙ ap (corner_at l) (sym (round_past f)))

-- and the corner after it, round the contour
ring_after : (l : List Pt) {s k : ℕ} → s < length l → k < length l → get_or (neighbours (rotate s l)) k (O, O) ≡ (corner_at l (round_to (length l) (s + k)), corner_at l (round_to (length l) (s + k + 1)))
ring_after l {s} {k} h g =
    let n : length (rotate s l) ≡ length l = length_rotate s l in
    by_test (eqb (suc k) (length l))
    (λ t. let f : suc k ≡ length l = eqb-true (suc k) (length l) t in
    get_or_neighbours_last (rotate s l) O (O, O) (f ∙ sym n)
    ∙ (λ i. (ring_at l h g i, (ring_at l {k = 0} h (omega arith) ∙ ap (corner_at l) (round_near {n = length l} (omega arith) ∙ back f ∙ sym (round_past {n = length l} {i = s + k + 1} (omega arith)))) i)))
    (λ t. let f : suc k ≡ length l → ⊥ = eqb-false (suc k) (length l) t in
    get_or_neighbours (rotate s l) O (O, O) (omega (arith, n))
    ∙ (λ i. (ring_at l h g i, (ring_at l {k = suc k} h (omega arith) ∙ ap (λ j. corner_at l (round_to (length l) j)) (onward k)) i)))
  where
    back : suc k ≡ length l → s + 0 ≡ s + k + 1 - length l
    back f = omega arith

    onward : (k : ℕ) → s + suc k ≡ s + k + 1
    onward k = omega arith

-- ---- terms

map_at : {A B : Type 0} (f : A → B) (l : List A) (i : ℕ) (d : A) (e : B) → i < length l → get_or (map f l) i e ≡ f (get_or l i d)
map_at f [] i d e h = absurd (omega arith)
map_at f (x ∷ l) zero d e h = refl
map_at f (x ∷ l) (suc i) d e h = map_at f l i d e (omega arith)

pub length_terms : (s : ℕ) (l : List Pt) → length (winding_terms s l) ≡ length l
unfolding winding_terms
length_terms s l = length-map (neighbours (rotate s l)) _ ∙ length_neighbours (rotate s l) ∙ length_rotate s l

pub term_is : (l : List Pt) {s k : ℕ} → s < length l → k < length l → get_or (winding_terms s l) k (pos 0) ≡ cross (corner_at l (round_to (length l) (s + k)) -ᵖ corner_at l s) (corner_at l (round_to (length l) (s + k + 1)) -ᵖ corner_at l s)
unfolding winding_terms
term_is l {s} {k} h g =
    map_at seen (neighbours (rotate s l)) k (O, O) (pos 0) (omega (arith, length_neighbours (rotate s l), length_rotate s l)) ∙ ap seen (ring_after l h g)
  where
    seen : Pt × Pt → ℤ
    seen = λ e. cross (e.0 -ᵖ corner_at l s) (e.1 -ᵖ corner_at l s)

-- ---- totals

-- a checked addition, of numbers as the machine holds them
fits_word : {z : ℤ} → SFits w64 z → in_word z ≡ true
fits_word {z} f =
    let a : negsuc 9223372036854775807 ≤ℤ z = omega (zarith, mag_parts z) in
    let b : z ≤ℤ pos 9223372036854775807 = omega (zarith, mag_parts z) in
    rw (≤-lt_z {x = z} {y = negsuc 9223372036854775807} a, ≤-le_z {x = z} {y = pos 9223372036854775807} b)

word_fits : {z : ℤ} → in_word z ≡ true → SFits w64 z
word_fits {z} h =
    let q = not_then (lt_z z (negsuc 9223372036854775807)) (le_z z (pos 9223372036854775807)) h in
    let a : negsuc 9223372036854775807 ≤ℤ z = lt_z-≤ z (negsuc 9223372036854775807) q.0 in
    let b : z ≤ℤ pos 9223372036854775807 = le_z-≤ z (pos 9223372036854775807) q.1 in
    omega (zarith, mag_parts z)

added_is : {r : Option ℤ} (z : ℤ) → SomeIff r (SFits w64 z) z → r ≡ added_of z
unfolding added_of
added_is {r = None} z n = by_test (in_word z) (λ t. absurd (n (word_fits t))) (λ t. rw t)
added_is {r = Some x} z h = rw (fits_word h.0) (ap Some h.1)

pub added_by : {t k : ℤ} {r : Option ℤ} → SFits w64 t → SFits w64 k →
    SomeIff r (SFits w64 (to_z w64 (of_z w64 t) +ℤ to_z w64 (of_z w64 k))) (to_z w64 (of_z w64 t) +ℤ to_z w64 (of_z w64 k)) → r ≡ added_of (t +ℤ k)
added_by {t} {k} {r} ft fk h = added_is (t +ℤ k) (subst (λ z. SomeIff r (SFits w64 z) z) (λ i. kept ft i +ℤ kept fk i) h)

-- what an addition tells
added_total : (z : ℤ) {n : ℤ} → added_of z ≡ Some n → (in_word z ≡ true) × (n ≡ z)
unfolding added_of
added_total z {n} h =
    by_test (in_word z)
    (λ e. (e, (let q : Some z ≡ Some n = sym (ap (λ t. cond t (Some z) None) e) ∙ h in cc)))
    (λ e. absurd (let q : None ≡ Some n = sym (ap (λ t. cond t (Some z) None) e) ∙ h in let k : ◌≡◌ {A = ℕ} 0 1 = cc in omega (arith, k)))

added_leaves : (z : ℤ) → added_of z ≡ None → in_word z ≡ false
unfolding added_of
added_leaves z h =
    by_test (in_word z)
    (λ e. absurd (let q : Some z ≡ None = sym (ap (λ t. cond t (Some z) None) e) ∙ h in let k : ◌≡◌ {A = ℕ} 0 1 = cc in omega (arith, k)))
    (λ e. e)

-- term k is x
module _ (ts : List ℤ) {k : ℕ} (t : ℤ) {x : ℤ} (e : x ≡ get_or ts k (pos 0)) where
  pub wound_turn : {n : ℤ} → k < length ts → added_of (t +ℤ x) ≡ Some n → winding_of t (drop k ts) ≡ winding_of n (drop (k + 1) ts)
  unfolding winding_of
  wound_turn {n} h a =
      let q = added_total (t +ℤ x) a in
      rw (add-one, drop-cons ts k (pos 0), ← e, q.0) (ap (λ z. winding_of z (drop (suc k) ts)) (sym q.1))

  pub wound_leaves : k < length ts → added_of (t +ℤ x) ≡ None → winding_of t (drop k ts) ≡ None
  unfolding winding_of
  wound_leaves h a = rw (drop-cons ts k (pos 0), ← e, added_leaves (t +ℤ x) a)

pub wound_ends : (ts : List ℤ) (k : ℕ) {t : ℤ} → length ts ≤ k → winding_of t (drop k ts) ≡ Some t
unfolding winding_of
wound_ends ts k h = rw (drop_of_length-le ts {i = k} h)

-- ---- the whole

-- the terms so far and those to come
pub wound_total : (ts : List ℤ) (t : ℤ) {n : ℤ} → winding_of t ts ≡ Some n → (total_leaves t ts ≡ false) × (n ≡ t +ℤ sumℤ ts)
unfolding winding_of total_leaves sumℤ
wound_total [] t {n} h = (refl, (let q : t ≡ n = cc in sym q ∙ sym (plus_zero t)))
  where
    plus_zero : (t : ℤ) → t +ℤ pos 0 ≡ t
    plus_zero = ring (int ∷ []) (λ t. t :+ con (pos 0) :≡ t) tt
wound_total (k ∷ ts) t {n} h =
    by_test (in_word (t +ℤ k))
    (λ e. let q = wound_total ts (t +ℤ k) (sym (ap (λ b. cond b (winding_of (t +ℤ k) ts) None) e) ∙ h) in
    (rw e q.0, q.1 ∙ regroup t k (sumℤ ts)))
    (λ e. absurd (let q : None ≡ Some n = sym (ap (λ b. cond b (winding_of (t +ℤ k) ts) None) e) ∙ h in let k : ◌≡◌ {A = ℕ} 0 1 = cc in omega (arith, k)))
  where
    regroup : (t k s : ℤ) → (t +ℤ k) +ℤ s ≡ t +ℤ (k +ℤ s)
    regroup = ring (int ∷ int ∷ int ∷ []) (λ t k s. (t :+ k) :+ s :≡ t :+ (k :+ s)) tt

pub wound_left : (ts : List ℤ) (t : ℤ) → winding_of t ts ≡ None → total_leaves t ts ≡ true
unfolding winding_of total_leaves
wound_left [] t h = absurd (let k : ◌≡◌ {A = ℕ} 0 1 = cc in omega (arith, k))
wound_left (k ∷ ts) t h =
    by_test (in_word (t +ℤ k))
    (λ e. rw e (wound_left ts (t +ℤ k) (sym (ap (λ b. cond b (winding_of (t +ℤ k) ts) None) e) ∙ h)))
    (λ e. rw e)
