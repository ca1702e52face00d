-- Sums in two words. In order: a number, and the high word of a sum; the crosses round a contour,
-- of which those before corner k are added (`Summing`), at the start, after a turn, at the end; the
-- contours of a table, of which those before contour k are added (`Totalling`), likewise. Assumes
-- nothing.
use mathlib.Core.Path.{◌≡◌, refl, sym, ◌∙◌, ap}
use mathlib.Core.Bool.{false}
use mathlib.Core.List.{List, [], ◌∷◌, map, map-append}
use Prim.Native.Nat.{ℕ, suc, ◌+◌, ◌-◌, ◌^◌, ◌≤◌, ◌<◌}
use native.Mathlib.Nat.{zero-add}
use native.Mathlib.Numerals.{add-one}
use native.Mathlib.Omega.{arith}
use lib.ListN.{length, take, drop, get_or, drop_of_length-le, length-take, length-drop}
use lib.Seq.{drop-cons}
use lib.IntN.{ℤ, pos, nat_abs, ◌+ℤ◌, +ℤ_idl, +ℤ_idr, +ℤ_assoc, +ℤ_comm}
use lib.Signed.{lt_z}
use Rattle.integers.specs.Lists.{sumℤ, links, neighbours}
use Rattle.integers.proofs.Ring.{◌:≡◌, pt, ring}
use Rattle.integers.proofs.Order.{by_test, neg_parts}
use Rattle.integers.proofs.Sizes.{abs_+, abs_parts}
use Rattle.integers.proofs.Sums.{sum_cons, sum_snoc}
use Rattle.integers.proofs.Tests.{zneeds}
use Rattle.plane.specs.Plane.{Pt, O, cross, area_two}
use Rattle.plane.specs.Contour.{last_of, contour_area}
use Rattle.plane.specs.Machine.{CrossSize}
use Rattle.plane.proofs.Terms.{OE, cross_e, area_two_e}
use Rattle.plane.proofs.Edges.{links_last}
use Rattle.wide.specs.declared.SignedProduct.{SignedProduct}
use Rattle.wide.specs.Words.{two_words, magnitude, signed, value}
use Rattle.wide.proofs.Signs.{signed_size}
use Rattle.corners.specs.Corners.{points_of, corners_between}
use Rattle.corners.proofs.Corners.{points_slice}
use Rattle.pair.specs.Walk.{corner_at}
use Rattle.table_areas.specs.Areas.{total_area, Terms}

-- ---- one number

-- a sign and a size are the number
pub signed_is : (z : ℤ) → signed (lt_z z (pos 0)) (two_words 0 (nat_abs z)) ≡ z
signed_is z = ap (signed (lt_z z (pos 0))) (zero-add (nat_abs z)) ∙ of
  where
    of : signed (lt_z z (pos 0)) (nat_abs z) ≡ z
    of =
        by_test (lt_z z (pos 0))
        (λ h. rw h (omega (zneeds, h, abs_parts z, neg_parts (pos (nat_abs z)))))
        (λ h. rw h (omega (zneeds, h, abs_parts z)))

-- h 2^64 ≤ |value| ≤ n 2^63 < 2^126
pub high_of_terms : {n : ℕ} {p : SignedProduct} → Terms n p → n < 2 ^ 63 → p.words.high < 2 ^ 62
high_of_terms {p} t h = omega (arith, t.most, h, signed_size p.negative (magnitude p.words))

-- ---- a contour

-- seen from the origin
pub origin_area : (a b : Pt) → area_two O a b ≡ cross a b
origin_area = ring (pt ∷ pt ∷ []) (λ a b. area_two_e OE a b :≡ cross_e a b) tt

-- the crosses of some edges, added
abbrev pub crosses : List (Pt × Pt) → ℤ
crosses es = sumℤ (map (λ e. cross e.0 e.1) es)

last_at : (p : Pt) (l : List Pt) → get_or (p ∷ l) (length l) O ≡ last_of p l
unfolding last_of
last_at p [] = refl
last_at p (q ∷ l) = last_at q l

-- round the contour from the edge into the first corner on
crosses_round : (l : List Pt) → (length l ≡ 0 → ⊥) → crosses (links (corner_at l (length l - 1)) l) ≡ contour_area l
unfolding contour_area neighbours links
crosses_round [] h = absurd (h refl)
crosses_round (p ∷ l) h =
    let n : suc (length l) - 1 ≡ length l = omega arith in
    let f : Pt × Pt → ℤ = λ e. cross e.0 e.1 in
    ap (λ a. crosses ((a, p) ∷ links p l)) (ap (λ k. get_or (p ∷ l) k O) n ∙ last_at p l)
    ∙ sum_cons (f (last_of p l, p)) (map f (links p l))
    ∙ +ℤ_comm (f (last_of p l, p)) (crosses (links p l))
    ∙ sym (ap crosses (links_last p l p) ∙ ap sumℤ (map-append f (links p l) ((last_of p l, p) ∷ [])) ∙ sum_snoc (map f (links p l)) (f (last_of p l, p)))

-- the edge into corner k, and those after it
crosses_next : (l : List Pt) (a : Pt) {k : ℕ} → k < length l → crosses (links a (drop k l)) ≡ cross a (corner_at l k) +ℤ crosses (links (corner_at l k) (drop (k + 1) l))
unfolding links sumℤ
crosses_next l a {k} h = rw (add-one, drop-cons l k O)

-- (t + c) + r = t + (c + r)
added : (t c r : ℤ) {u s x : ℤ} → t +ℤ x ≡ s → x ≡ c +ℤ r → u ≡ t +ℤ c → u +ℤ r ≡ s
added t c r e p q = ap (λ z. z +ℤ r) q ∙ +ℤ_assoc t c r ∙ ap (λ z. t +ℤ z) (sym p) ∙ e

module _ (l : List Pt) where
  -- the total, and the crosses from the edge into corner k on, make the whole; corner i is before
  -- corner k
  pub record Summing (i k : ℕ) (total : SignedProduct) : Type 0 where
    pub sum : value total +ℤ crosses (links (corner_at l i) (drop k l)) ≡ contour_area l
    pub size : Terms k total

  pub sums_start : (length l ≡ 0 → ⊥) → Summing (length l - 1) 0 (record { negative = false; words = record { high = 0; low = 0 } })
  sums_start h = record { sum = +ℤ_idl (crosses (links (corner_at l (length l - 1)) l)) ∙ crosses_round l h; size = record { most = omega arith } }

  pub sums_turn : {i k : ℕ} {t r : SignedProduct} {z : ℤ} → Summing i k t → k < length l → z ≡ cross (corner_at l i) (corner_at l k) → CrossSize z → value r ≡ value t +ℤ z → Summing k (k + 1) r
  sums_turn {i} {k} {t} {r} {z} s h e c v = record {
    sum = added (value t) z (crosses (links (corner_at l k) (drop (k + 1) l))) s.sum (crosses_next l (corner_at l i) h ∙ ap (λ x. x +ℤ crosses (links (corner_at l k) (drop (k + 1) l))) (sym e)) v;
    size = record { most = omega (arith, ap nat_abs v, abs_+ (value t) z, s.size.most, c.abs) };
  }

  pub sums_end : {i k : ℕ} {t : SignedProduct} → Summing i k t → length l ≤ k → value t ≡ contour_area l
  unfolding links sumℤ
  sums_end {i} {k} {t} s h = sym (+ℤ_idr (value t)) ∙ ap (λ m. value t +ℤ crosses (links (corner_at l i) m)) (sym (drop_of_length-le l {i = k} h)) ∙ s.sum

pub no_corners : (l : List Pt) → length l ≡ 0 → pos 0 ≡ contour_area l
unfolding contour_area neighbours sumℤ
no_corners [] h = refl
no_corners (p ∷ l) h = absurd (omega (arith, h))

-- ---- a table

-- contour k as the machine takes it has as many corners as lie between its starts, or fewer
pub taken_terms : (starts : List ℕ) (corners : List ℤ) (k : ℕ) {l : List ℤ} {p : SignedProduct}
    → l ≡ corners_between (get_or starts k 0) (get_or starts (k + 1) 0) corners → Terms (length (points_of l)) p → Terms (get_or starts (k + 1) 0 - get_or starts k 0) p
taken_terms s c k {l} {p} e t = of (get_or s (k + 1) 0) (get_or s k 0) (ap (λ m. length (points_of m)) e ∙ ap length (points_slice (get_or s k 0) (get_or s (k + 1) 0) c) ∙ length-drop (get_or s k 0) (take (get_or s (k + 1) 0) (points_of c))) (omega (arith, length-take (get_or s (k + 1) 0) (points_of c))) t
  where
    of : {n : ℕ} (b a : ℕ) {m : ℕ} → n ≡ m - a → m ≤ b → Terms n p → Terms (b - a) p
    of {n} b a e h t = let l : n ≤ b - a = omega arith in record { most = omega (arith, t.most) }

module _ (ps : List (List Pt)) where
  -- the total, and the areas from contour k on, make the whole; n corners are before it
  pub record Totalling (n k : ℕ) (total : SignedProduct) : Type 0 where
    pub sum : value total +ℤ total_area (drop k ps) ≡ total_area ps
    pub size : Terms n total

  pub totals_start : {n : ℕ} → Totalling n 0 (record { negative = false; words = record { high = 0; low = 0 } })
  totals_start = record { sum = +ℤ_idl (total_area ps); size = record { most = omega arith } }

  totals_next : {k : ℕ} → k < length ps → total_area (drop k ps) ≡ contour_area (get_or ps k []) +ℤ total_area (drop (k + 1) ps)
  unfolding total_area sumℤ
  totals_next {k} h = rw (add-one, drop-cons ps k [])

  pub totals_turn : {n m k : ℕ} {t a r : SignedProduct} → Totalling n k t → k < length ps → value a ≡ contour_area (get_or ps k []) → Terms (m - n) a → n ≤ m → value r ≡ value t +ℤ value a → Totalling m (k + 1) r
  totals_turn {n} {m} {k} {t} {a} {r} s h e c rises v = record {
    sum = added (value t) (value a) (total_area (drop (k + 1) ps)) s.sum (totals_next h ∙ ap (λ x. x +ℤ total_area (drop (k + 1) ps)) (sym e)) v;
    size = record { most = omega (arith, ap nat_abs v, abs_+ (value t) (value a), s.size.most, c.most, rises) };
  }

  pub totals_end : {n k : ℕ} {t : SignedProduct} → Totalling n k t → length ps ≤ k → value t ≡ total_area ps
  unfolding total_area sumℤ
  totals_end {n} {k} {t} s h = sym (+ℤ_idr (value t)) ∙ ap (λ m. value t +ℤ total_area m) (sym (drop_of_length-le ps {i = k} h)) ∙ s.sum
