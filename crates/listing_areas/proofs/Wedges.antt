-- The wedges of a contour at its first corner, added so that they wrap: one term (`wraps`), the
-- sum so far (`Fanning`) at the start, after a turn and at the end, where it is the doubled area
-- (`fanning_end`). Assumes nothing.
use Rattle.std.proofs.Common.{◌≡◌, ℕ, suc, ◌+◌, ◌*◌, ◌/◌, ◌%◌, ◌^◌, ◌<◌, ◌≤◌, true, List, [], ◌∷◌, length, get_or, drop, ℤ, pos, ◌+ℤ◌, ◌*ℤ◌, neg_ℤ, nat_abs, sym, refl, ap, ◌∙◌, div-add-mod', add-one, arith, length-drop, drop-cons}
use lib.Signed.{le_z, mag}
use lib.IntN.{negsuc}
use mir.Syntax.{w64}
use mir.Val.{of_z}
use Rattle.integers.specs.Lists.{sumℤ, links, neighbours}
use Rattle.integers.proofs.Ring.{con, ◌:+◌, ◌:≡◌, pt, ring}
use Rattle.integers.proofs.Order.{zarith, add_parts, mul_parts, neg_parts}
use Rattle.integers.proofs.Sizes.{abs_parts}
use Rattle.integers.proofs.Tests.{zneeds}
use Rattle.integers.proofs.Laws.{*ℤ_distr_r}
use Rattle.plane.specs.Plane.{Pt, O, area_two}
use Rattle.plane.specs.Contour.{contour_area}
use Rattle.plane.proofs.Terms.{cross_e}
use Rattle.plane.proofs.Contours.{contour_insert}
use Rattle.listing_areas.specs.Areas.{Wraps}

-- ---- one term

-- t + m = (t + m) % W + (t + m) / W · W, where m is z, or z and a turn
pub wraps : (t : ℕ) (z : ℤ) {m r : ℕ} → mag z < 2 ^ 63 → m ≡ of_z w64 z → r ≡ (t + m) % 2 ^ 64 → Wraps (pos t +ℤ z) r
wraps t (pos n) {m} {r} h e p = record {
  turns = neg_ℤ (pos ((t + m) / 2 ^ 64));
  same = of ((t + m) / 2 ^ 64) (div-add-mod' (t + m) (2 ^ 64)) p e;
}
  where
    of : (q : ℕ) → q * 2 ^ 64 + (t + m) % 2 ^ 64 ≡ t + m → r ≡ (t + m) % 2 ^ 64 → m ≡ n → pos r ≡ (pos t +ℤ pos n) +ℤ neg_ℤ (pos q) *ℤ pos (2 ^ 64)
    of q d p e = omega (zarith, add_parts (pos t) (pos n), add_parts (pos t +ℤ pos n) (neg_ℤ (pos q) *ℤ pos (2 ^ 64)), mul_parts (neg_ℤ (pos q)) (pos (2 ^ 64)), neg_parts (pos q))
wraps t (negsuc n) {m} {r} h e p = record {
  turns = pos 1 +ℤ neg_ℤ (pos ((t + m) / 2 ^ 64));
  same = of ((t + m) / 2 ^ 64) (div-add-mod' (t + m) (2 ^ 64)) p (omega (arith, e, h));
}
  where
    of : (q : ℕ) → q * 2 ^ 64 + (t + m) % 2 ^ 64 ≡ t + m → r ≡ (t + m) % 2 ^ 64 → m + suc n ≡ 2 ^ 64 → pos r ≡ (pos t +ℤ negsuc n) +ℤ (pos 1 +ℤ neg_ℤ (pos q)) *ℤ pos (2 ^ 64)
    of q d p e =
        omega (
          zarith,
          add_parts (pos t) (negsuc n),
          add_parts (pos t +ℤ negsuc n) ((pos 1 +ℤ neg_ℤ (pos q)) *ℤ pos (2 ^ 64)),
          mul_parts (pos 1 +ℤ neg_ℤ (pos q)) (pos (2 ^ 64)),
          add_parts (pos 1) (neg_ℤ (pos q)),
          neg_parts (pos q),
        )

-- ---- the sum so far

-- what is left of a contour at corner i: the first corner, and those from i on
abbrev pub left_at : List Pt → ℕ → ℤ
left_at l i = contour_area (get_or l 0 O ∷ drop i l)

-- t and the area of what is left at corner i make the whole, but for turns
pub record Fanning (l : List Pt) (t i : ℕ) : Type 0 where
  pub turns : ℤ
  pub same : pos t +ℤ left_at l i ≡ contour_area l +ℤ turns *ℤ pos (2 ^ 64)

-- one corner, and an edge out and back, have no area
alone : (a : Pt) → contour_area (a ∷ []) ≡ pos 0
unfolding contour_area neighbours links sumℤ
alone = ring (pt ∷ []) (λ a. cross_e a a :+ con (pos 0) :≡ con (pos 0)) tt

out_and_back : (a b : Pt) → contour_area (a ∷ b ∷ []) ≡ pos 0
unfolding contour_area neighbours links sumℤ
out_and_back = ring (pt ∷ pt ∷ []) (λ a b. cross_e a b :+ (cross_e b a :+ con (pos 0)) :≡ con (pos 0)) tt

all_left : (l : List Pt) → left_at l 1 ≡ contour_area l
all_left [] = alone O ∙ (unfold contour_area neighbours sumℤ in refl)
all_left (a ∷ l) = refl

none_left : (l : List Pt) (i : ℕ) → length l ≤ i + 1 → left_at l i ≡ pos 0
none_left l i h = of (drop i l) (omega (arith, length-drop i l))
  where
    of : (r : List Pt) → length r ≤ 1 → contour_area (get_or l 0 O ∷ r) ≡ pos 0
    of [] k = alone (get_or l 0 O)
    of (b ∷ []) k = out_and_back (get_or l 0 O) b
    of (b ∷ c ∷ r) k = absurd (omega arith)

-- the wedge at corner i
wedge_left : (l : List Pt) (i : ℕ) → i + 1 < length l → left_at l i ≡ left_at l (i + 1) +ℤ area_two (get_or l 0 O) (get_or l i O) (get_or l (i + 1) O)
wedge_left l i h =
    ap (λ r. contour_area (get_or l 0 O ∷ r)) (drop-cons l i O (omega arith) ∙ ap (λ r. get_or l i O ∷ r) (ap (λ n. drop n l) (sym (add-one i)) ∙ rest))
    ∙ contour_insert (get_or l 0 O) (get_or l i O) (get_or l (i + 1) O) (drop (suc (i + 1)) l)
    ∙ ap (λ r. contour_area (get_or l 0 O ∷ r) +ℤ area_two (get_or l 0 O) (get_or l i O) (get_or l (i + 1) O)) (sym rest)
  where
    rest : drop (i + 1) l ≡ get_or l (i + 1) O ∷ drop (suc (i + 1)) l
    rest = drop-cons l (i + 1) O h

pub fanning_start : (l : List Pt) → Fanning l 0 1
fanning_start l = record { turns = pos 0; same = of (all_left l) }
  where
    of : {a b : ℤ} → a ≡ b → pos 0 +ℤ a ≡ b +ℤ pos 0 *ℤ pos (2 ^ 64)
    of {a} {b} e = omega (zarith, add_parts (pos 0) a, add_parts b (pos 0 *ℤ pos (2 ^ 64)), mul_parts (pos 0) (pos (2 ^ 64)))

pub fanning_turn : {l : List Pt} {t i r : ℕ} {z : ℤ} → i + 1 < length l → z ≡ area_two (get_or l 0 O) (get_or l i O) (get_or l (i + 1) O) → Fanning l t i → Wraps (pos t +ℤ z) r → Fanning l r (i + 1)
fanning_turn {l} {t} {i} {r} {z} h e f w = record {
  turns = f.turns +ℤ w.turns;
  same =
      of (pos t) z (left_at l (i + 1)) (contour_area l) (f.turns *ℤ pos (2 ^ 64)) (w.turns *ℤ pos (2 ^ 64)) (wedge_left l i h ∙ ap (λ k. left_at l (i + 1) +ℤ k) (sym e)) f.same w.same
      ∙ ap (λ k. contour_area l +ℤ k) (sym (*ℤ_distr_r f.turns w.turns (pos (2 ^ 64))));
}
  where
    of : (t : ℤ) {r : ℤ} (z : ℤ) {a : ℤ} (b s j k : ℤ) → a ≡ b +ℤ z → t +ℤ a ≡ s +ℤ j → r ≡ (t +ℤ z) +ℤ k → r +ℤ b ≡ s +ℤ (j +ℤ k)
    of t {r} z {a} b s j k p q o =
        omega (zarith, add_parts b z, add_parts t a, add_parts s j, add_parts t z, add_parts (t +ℤ z) k, add_parts r b, add_parts j k, add_parts s (j +ℤ k))

-- at the end no turn is left over, for both are at least 0 and below 2^64
pub fanning_end : {l : List Pt} {t i : ℕ} → length l ≤ i + 1 → le_z (pos 0) (contour_area l) ≡ true → nat_abs (contour_area l) < 2 ^ 63 → t < 2 ^ 64 → Fanning l t i → t ≡ nat_abs (contour_area l)
fanning_end {l} {t} {i} h a b f g = of (contour_area l) g.turns (none_left l i h) g.same a b f
  where
    of : {t : ℕ} {z : ℤ} (s k : ℤ) → z ≡ pos 0 → pos t +ℤ z ≡ s +ℤ k *ℤ pos (2 ^ 64) → le_z (pos 0) s ≡ true → nat_abs s < 2 ^ 63 → t < 2 ^ 64 → t ≡ nat_abs s
    of {t} {z} s k p q a b f = omega (zneeds, a, abs_parts s, abs_parts k, add_parts (pos t) z, add_parts s (k *ℤ pos (2 ^ 64)), mul_parts k (pos (2 ^ 64)))
