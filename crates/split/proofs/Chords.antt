-- A contour cut along a chord: the doubled areas of the two sides add up to its own (`chord`); so
-- those of the parts of ear clipping and of fan do (`ear_areas`, `fan_areas`). Assumes nothing.
use mathlib.Core.Path.{◌≡◌, refl, sym, ◌∙◌, ap, ap₂}
use mathlib.Core.List.{List, [], ◌∷◌, ◌++◌, map, map-append, append_assoc}
use Prim.Native.Nat.{ℕ, zero, suc, ◌+◌, ◌-◌, ◌/◌, ◌≤◌, ◌<◌}
use native.Mathlib.Omega.{arith}
use native.Mathlib.Nat.{le-div_iff_mul-le}
use native.Mathlib.Numerals.{add-one}
use lib.ListN.{length, take, drop, get_or, length-append, length-drop, length-take}
use lib.Seq.{drop-cons, take-suc, take_all, split_at, length-take-le}
use lib.IntN.{ℤ, pos, ◌+ℤ◌}
use Rattle.integers.specs.Lists.{sumℤ, sumℕ, rotate, links, neighbours}
use Rattle.integers.proofs.Ring.{con, ◌:+◌, ◌:≡◌, pt, int, ring}
use Rattle.integers.proofs.Sums.{sum_cons, sum_append, sumℕ_cons}
use Rattle.integers.proofs.Neighbours.{links_append, links_cons, neighbours_cons}
use Rattle.plane.specs.Plane.{Pt, O, cross}
use Rattle.plane.specs.Contour.{contour_area}
use Rattle.integers.proofs.Rotation.{rotate_eq}
use Rattle.plane.proofs.Terms.{cross_e}
use Rattle.plane.proofs.Contours.{contour_rotate}
use Rattle.split.specs.Splitting.{clipped, fanned, shares, triangle_shares, ear_parts, fan_parts}
use Rattle.split.proofs.Shares.{sum_shares}

-- the sum of crosses along a path from a
abbrev pub along : Pt → List Pt → ℤ
along a l = sumℤ (map (λ e. cross e.0 e.1) (links a l))

pub area_along : (a : Pt) (l : List Pt) → contour_area (a ∷ l) ≡ along a (l ++ (a ∷ []))
unfolding contour_area
area_along a l = ap (λ m. sumℤ (map (λ e. cross e.0 e.1) m)) (neighbours_cons a l)

-- past b
along_past : (a : Pt) (m : List Pt) (b : Pt) (n : List Pt) → along a (m ++ (b ∷ n)) ≡ along a (m ++ (b ∷ [])) +ℤ along b n
unfolding links sumℤ
along_past a [] b n = one (cross a b) (along b n)
  where
    one : (k l : ℤ) → k +ℤ l ≡ (k +ℤ pos 0) +ℤ l
    one = ring (int ∷ int ∷ []) (λ k l. k :+ l :≡ (k :+ con (pos 0)) :+ l) tt
along_past a (c ∷ m) b n = ap (λ k. cross a c +ℤ k) (along_past c m b n) ∙ one (cross a c) (along c (m ++ (b ∷ []))) (along b n)
  where
    one : (j k l : ℤ) → j +ℤ (k +ℤ l) ≡ (j +ℤ k) +ℤ l
    one = ring (int ∷ int ∷ int ∷ []) (λ j k l. j :+ (k :+ l) :≡ (j :+ k) :+ l) tt

along_one : (a b : Pt) → along a (b ∷ []) ≡ cross a b
unfolding links sumℤ
along_one a b = one (cross a b)
  where
    one : (k : ℤ) → k +ℤ pos 0 ≡ k
    one = ring (int ∷ []) (λ k. k :+ con (pos 0) :≡ k) tt

-- the chord from a to b and back adds nothing
pub chord : (a : Pt) (m : List Pt) (b : Pt) (n : List Pt) → contour_area (a ∷ m ++ (b ∷ n)) ≡ contour_area (a ∷ m ++ (b ∷ [])) +ℤ contour_area (b ∷ n ++ (a ∷ []))
chord a m b n =
    area_along a (m ++ (b ∷ n)) ∙ ap (along a) (append_assoc m (b ∷ n) (a ∷ [])) ∙ along_past a m b (n ++ (a ∷ []))
    ∙ both a b (along a (m ++ (b ∷ []))) (along b (n ++ (a ∷ [])))
    ∙ sym (ap₂ ◌+ℤ◌ left right)
  where
    left : contour_area (a ∷ m ++ (b ∷ [])) ≡ along a (m ++ (b ∷ [])) +ℤ cross b a
    left = area_along a (m ++ (b ∷ [])) ∙ ap (along a) (append_assoc m (b ∷ []) (a ∷ [])) ∙ along_past a m b (a ∷ []) ∙ ap (λ k. along a (m ++ (b ∷ [])) +ℤ k) (along_one b a)

    right : contour_area (b ∷ n ++ (a ∷ [])) ≡ along b (n ++ (a ∷ [])) +ℤ cross a b
    right = area_along b (n ++ (a ∷ [])) ∙ ap (along b) (append_assoc n (a ∷ []) (b ∷ [])) ∙ along_past b n a (b ∷ []) ∙ ap (λ k. along b (n ++ (a ∷ [])) +ℤ k) (along_one a b)

    both : (a b : Pt) (k l : ℤ) → k +ℤ l ≡ (k +ℤ cross b a) +ℤ (l +ℤ cross a b)
    both = ring (pt ∷ pt ∷ int ∷ int ∷ []) (λ a b k l. k :+ l :≡ (k :+ cross_e b a) :+ (l :+ cross_e a b)) tt

-- ---- ear clipping

-- the first part, and what is left after it
cut_first : (s : ℕ) (l : List Pt) → s + 1 < length l → contour_area l ≡ contour_area (take (s + 2) l) +ℤ contour_area (drop (s + 1) l ++ take 1 l)
cut_first s [] h = absurd (omega arith)
cut_first s (a ∷ t) h =
    let g : s < length t = omega arith in
    let b : Pt = get_or t s O in
    ap (λ m. contour_area (a ∷ m)) (split_at t s O g) ∙ chord a (take s t) b (drop (suc s) t)
    ∙ ap₂ (λ x y. contour_area x +ℤ contour_area y)
    (sym (ap (λ n. take n (a ∷ t)) (two s) ∙ ap (λ m. a ∷ m) (take-suc t s O g)))
    (sym (ap (λ n. drop n (a ∷ t) ++ (a ∷ [])) (add-one s) ∙ ap (λ m. m ++ (a ∷ [])) (drop-cons t s O g)))
  where
    two : (s : ℕ) → s + 2 ≡ suc (suc s)
    two s = omega arith

-- two corners enclose nothing
two_corners : (l : List Pt) → length l ≡ 2 → contour_area l ≡ pos 0
unfolding contour_area neighbours links sumℤ
two_corners [] h = absurd (omega arith)
two_corners (a ∷ []) h = absurd (omega arith)
two_corners (a ∷ b ∷ []) h = back a b
  where
    back : (a b : Pt) → cross a b +ℤ (cross b a +ℤ pos 0) ≡ pos 0
    back = ring (pt ∷ pt ∷ []) (λ a b. cross_e a b :+ (cross_e b a :+ con (pos 0)) :≡ con (pos 0)) tt
two_corners (a ∷ b ∷ c ∷ l) h = absurd (omega arith)

pub clipped_areas : (ss : List ℕ) (l : List Pt) → length l ≡ sumℕ ss + 2 → sumℤ (map contour_area (clipped ss l)) ≡ contour_area l
unfolding clipped sumℤ sumℕ
clipped_areas [] l h = sym (two_corners l (omega (arith, h)))
clipped_areas (s ∷ ss) l h =
    ap (λ k. contour_area (take (s + 2) l) +ℤ k) (clipped_areas ss (drop (s + 1) l ++ take 1 l) rest)
    ∙ sym (cut_first s l (omega (arith, h)))
  where
    rest : length (drop (s + 1) l ++ take 1 l) ≡ sumℕ ss + 2
    rest = omega (arith, h, length-append (drop (s + 1) l) (take 1 l), length-drop (s + 1) l, length-take 1 l)

-- ---- fan

cut_fan : (s : ℕ) (c : Pt) (l : List Pt) → s < length l → contour_area (c ∷ l) ≡ contour_area (c ∷ take (s + 1) l) +ℤ contour_area (c ∷ drop s l)
cut_fan s c l h =
    let b : Pt = get_or l s O in
    ap (λ m. contour_area (c ∷ m)) (split_at l s O h) ∙ chord c (take s l) b (drop (suc s) l)
    ∙ ap₂ ◌+ℤ◌ (ap (λ m. contour_area (c ∷ m)) (sym (ap (λ n. take n l) (add-one s) ∙ take-suc l s O h))) (turned b (drop (suc s) l) ∙ ap (λ m. contour_area (c ∷ m)) (sym (drop-cons l s O h)))
  where
    -- from c instead of from b
    turned : (b : Pt) (n : List Pt) → contour_area (b ∷ n ++ (c ∷ [])) ≡ contour_area (c ∷ b ∷ n)
    turned b n = sym (ap contour_area (around b n)) ∙ contour_rotate 1 (c ∷ b ∷ n)
      where
        around : (b : Pt) (n : List Pt) → rotate 1 (c ∷ b ∷ n) ≡ b ∷ n ++ (c ∷ [])
        around b n = rotate_eq 1 (c ∷ b ∷ n)

pub fanned_areas : (ss : List ℕ) (c : Pt) (l : List Pt) → length l ≡ sumℕ ss + 1 → sumℤ (map contour_area (fanned ss c l)) ≡ contour_area (c ∷ l)
unfolding fanned sumℤ sumℕ
fanned_areas [] c l h = sym (two_corners (c ∷ l) (omega (arith, h)))
fanned_areas (s ∷ ss) c l h =
    ap (λ k. contour_area (c ∷ take (s + 1) l) +ℤ k) (fanned_areas ss c (drop s l) (omega (arith, h, length-drop s l)))
    ∙ sym (cut_fan s c l (omega (arith, h)))

-- ---- so the parts' areas add up to the contour's, for a limit of at least 3

parts_above : {n m : ℕ} → 3 ≤ n → 3 ≤ m → 0 < (n - 2 + (m - 2 - 1)) / (m - 2)
parts_above {n} {m} h k = div_pos (omega arith) (omega arith)
  where
    div_pos : {a b : ℕ} → 0 < b → b ≤ a → 0 < a / b
    div_pos {a} {b} h k = (le-div_iff_mul-le {k = b} {x = 1} {y = a} h).1 (omega arith)

pub ear_areas : {m : ℕ} (l : List Pt) → 3 ≤ m → 3 ≤ length l → sumℤ (map contour_area (ear_parts m l)) ≡ contour_area l
ear_areas {m} l h k = clipped_areas (triangle_shares (length l) m) l (omega (arith, sum_shares (length l - 2) (parts_above k h)))

pub fan_areas : {m : ℕ} (l : List Pt) → 3 ≤ m → 3 ≤ length l → sumℤ (map contour_area (fan_parts m l)) ≡ contour_area l
unfolding fan_parts
fan_areas [] h k = absurd (omega arith)
fan_areas {m} (c ∷ l) h k = fanned_areas (triangle_shares (suc (length l)) m) c l (omega (arith, sum_shares (suc (length l) - 2) (parts_above k h)))
