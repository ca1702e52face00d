-- Parts about a centre: a part's doubled area is that of its radial triangles (`radial`), so the
-- parts of the groups have the contour's (`centroid_areas`). Assumes nothing.
use mathlib.Core.Path.{◌≡◌, refl, sym, ◌∙◌, ap, ap₂}
use mathlib.Core.Bool.{Bool, true, false, cond}
use mathlib.Core.List.{List, [], ◌∷◌, ◌++◌, map, map-append}
use Prim.Native.Nat.{ℕ, zero, suc, ◌+◌, ◌-◌, ◌/◌, ◌≤◌, ◌<◌}
use native.Mathlib.Omega.{arith}
use native.Mathlib.Nat.{le-div_iff_mul-le}
use native.Mathlib.Numerals.{add-one}
use borrow.Author.Tests.{eqb-true, eqb-false}
use lib.Dec.{eqb}
use lib.ListN.{length, take, drop, get_or, length-append, length-drop}
use lib.Seq.{drop-drop, take-add, take-take, drop_at, take_all, length-take-le}
use lib.IntN.{ℤ, pos, ◌+ℤ◌, ◌-ℤ◌}
use Rattle.integers.specs.Lists.{sumℤ, sumℕ, links, neighbours}
use Rattle.integers.proofs.Ring.{con, ◌:+◌, ◌:-◌, ◌:≡◌, pt, int, ring}
use Rattle.integers.proofs.Order.{by_test}
use Rattle.integers.proofs.Sums.{sum_append}
use Rattle.integers.proofs.Neighbours.{links_append, neighbours_cons}
use Rattle.plane.specs.Plane.{Pt, O, cross, area_two}
use Rattle.plane.specs.Contour.{contour_area}
use Rattle.plane.proofs.Terms.{cross_e, area_two_e}
use Rattle.split.specs.Splitting.{edges_taken, group_parts, sectors, shares, centroid_parts}
use Rattle.split.proofs.Shares.{sum_shares}
use Rattle.split.proofs.Sectors.{edges_taken_le}
use Rattle.split.proofs.Chords.{along, area_along}

-- the radial triangles of a path, about g
unfoldable pub radial : Pt → List Pt → ℤ
radial g [] = pos 0
radial g (a ∷ []) = pos 0
radial g (a ∷ b ∷ l) = area_two g a b +ℤ radial g (b ∷ l)

-- a path in two, sharing a corner
radial_split : (g : Pt) (k : ℕ) (l : List Pt) → k < length l → radial g l ≡ radial g (take (suc k) l) +ℤ radial g (drop k l)
unfolding radial
radial_split g k [] h = absurd (omega arith)
radial_split g zero (a ∷ l) h = none (radial g (a ∷ l))
  where
    none : (k : ℤ) → k ≡ pos 0 +ℤ k
    none = ring (int ∷ []) (λ k. k :≡ con (pos 0) :+ k) tt
radial_split g (suc k) (a ∷ []) h = absurd (omega arith)
radial_split g (suc k) (a ∷ b ∷ l) h =
    ap (λ s. area_two g a b +ℤ s) (radial_split g k (b ∷ l) (omega arith)) ∙ group (area_two g a b) (radial g (take (suc k) (b ∷ l))) (radial g (drop k (b ∷ l)))
  where
    group : (x y z : ℤ) → x +ℤ (y +ℤ z) ≡ (x +ℤ y) +ℤ z
    group = ring (int ∷ int ∷ int ∷ []) (λ x y z. x :+ (y :+ z) :≡ (x :+ y) :+ z) tt

-- a part about g: from g along the path and back
part_radial : (g a : Pt) (l : List Pt) → contour_area (g ∷ a ∷ l) ≡ radial g (a ∷ l)
unfolding contour_area neighbours links sumℤ radial
part_radial g a [] = back g a
  where
    back : (g a : Pt) → cross g a +ℤ (cross a g +ℤ pos 0) ≡ pos 0
    back = ring (pt ∷ pt ∷ []) (λ g a. cross_e g a :+ (cross_e a g :+ con (pos 0)) :≡ con (pos 0)) tt
part_radial g a (b ∷ l) =
    wedge g a b (sumℤ (map (λ e. cross e.0 e.1) (links b (l ++ (g ∷ []))))) ∙ ap (λ k. area_two g a b +ℤ k) (part_radial g b l)
  where
    wedge : (g a b : Pt) (k : ℤ) → cross g a +ℤ (cross a b +ℤ k) ≡ area_two g a b +ℤ (cross g b +ℤ k)
    wedge = ring (pt ∷ pt ∷ pt ∷ int ∷ []) (λ g a b k. cross_e g a :+ (cross_e a b :+ k) :≡ area_two_e g a b :+ (cross_e g b :+ k)) tt

-- a path closed at c: the wedges beside g cancel
radial_along : (g a : Pt) (l : List Pt) (c : Pt) → radial g (a ∷ l ++ (c ∷ [])) ≡ along a (l ++ (c ∷ [])) +ℤ (cross g a -ℤ cross g c)
unfolding radial links sumℤ
radial_along g a [] c = base g a c
  where
    base : (g a c : Pt) → area_two g a c +ℤ pos 0 ≡ (cross a c +ℤ pos 0) +ℤ (cross g a -ℤ cross g c)
    base = ring (pt ∷ pt ∷ pt ∷ []) (λ g a c. area_two_e g a c :+ con (pos 0) :≡ (cross_e a c :+ con (pos 0)) :+ (cross_e g a :- cross_e g c)) tt
radial_along g a (b ∷ l) c = ap (λ k. area_two g a b +ℤ k) (radial_along g b l c) ∙ turn g a b c (along b (l ++ (c ∷ [])))
  where
    turn : (g a b c : Pt) (k : ℤ) → area_two g a b +ℤ (k +ℤ (cross g b -ℤ cross g c)) ≡ (cross a b +ℤ k) +ℤ (cross g a -ℤ cross g c)
    turn = ring (pt ∷ pt ∷ pt ∷ pt ∷ int ∷ []) (λ g a b c k. area_two_e g a b :+ (k :+ (cross_e g b :- cross_e g c)) :≡ (cross_e a b :+ k) :+ (cross_e g a :- cross_e g c)) tt

pub radial_closed : (g c : Pt) (l : List Pt) → radial g (c ∷ l ++ (c ∷ [])) ≡ contour_area (c ∷ l)
radial_closed g c l = radial_along g c l c ∙ none (along c (l ++ (c ∷ []))) (cross g c) ∙ sym (area_along c l)
  where
    none : (k j : ℤ) → k +ℤ (j -ℤ j) ≡ k
    none = ring (int ∷ int ∷ []) (λ k j. k :+ (j :- j) :≡ k) tt

-- ---- groups

-- what is taken of a part of a list that starts in its middle
drop-take : (k m : ℕ) (l : List Pt) → k ≤ length l → drop k (take (k + m) l) ≡ take m (drop k l)
drop-take k m l h = ap (drop k) (take-add k m l) ∙ drop_at (take k l) (take m (drop k l)) k (length-take-le k l h)

radial_two : (g : Pt) (e r : ℕ) (l : List Pt) → e + r < length l → radial g (take (e + r + 1) l) ≡ radial g (take (e + 1) l) +ℤ radial g (take (r + 1) (drop e l))
radial_two g e r l h =
    let one : suc e ≡ e + 1 = omega arith in
    let two : e + r + 1 ≡ e + (r + 1) = omega arith in
    radial_split g e (take (e + r + 1) l) (omega (arith, length-take-le (e + r + 1) l (omega arith)))
    ∙ ap₂ (λ x y. radial g x +ℤ radial g y)
    (take-take (suc e) (e + r + 1) l (omega arith) ∙ ap (λ n. take n l) one)
    (ap (λ n. drop e (take n l)) two ∙ drop-take e (r + 1) l (omega arith))

-- a part takes its edges' wedges
part_of : (g : Pt) (e : ℕ) (l : List Pt) → 0 < length l → contour_area (g ∷ take (e + 1) l) ≡ radial g (take (e + 1) l)
part_of g e [] h = absurd (omega arith)
part_of g e (a ∷ l) h = ap (λ n. contour_area (g ∷ take n (a ∷ l))) (add-one e) ∙ part_radial g a (take e l) ∙ ap (λ n. radial g (take n (a ∷ l))) (sym (add-one e))

-- a group with no edges has no parts, and its path no wedges
no_edges : (g : Pt) {s : ℕ} (l : List Pt) → s ≡ 0 → s < length l → pos 0 ≡ radial g (take (s + 1) l)
unfolding radial
no_edges g [] e h = absurd (omega arith)
no_edges g {s} (a ∷ l) e h = ap (λ n. radial g (take n (a ∷ l))) (sym (one e))
  where
    one : {s : ℕ} → s ≡ 0 → s + 1 ≡ 1
    one e = omega (arith, e)

pub group_areas : (n : ℕ) (g : Pt) {s : ℕ} (l : List Pt) → s ≤ n → s < length l → sumℤ (map contour_area (group_parts n g s l)) ≡ radial g (take (s + 1) l)
unfolding group_parts sumℤ
group_areas zero g {s} l h k = no_edges g l (omega arith) k
group_areas (suc n) g {s} l h k =
    by_test (eqb s 0) (λ e. rw e (no_edges g l (eqb-true s 0 e) k))
    (λ d. let e : ℕ = edges_taken g s l in
    let z : s ≡ 0 → ⊥ = eqb-false s 0 d in
    let few : e ≤ s = edges_taken_le g l (omega (arith, z)) in
    let whole : e + (s - e) + 1 ≡ s + 1 = omega (arith, few) in
    rw d
    (ap₂ ◌+ℤ◌ (part_of g e l (omega arith)) (group_areas n g (drop e l) (omega arith) (omega (arith, few, length-drop e l)))
    ∙ sym (radial_two g e (s - e) l (omega (arith, few))) ∙ ap (λ n. radial g (take n l)) whole))

pub sectors_areas : (ss : List ℕ) (g : Pt) (l : List Pt) → sumℕ ss < length l → sumℤ (map contour_area (sectors ss g l)) ≡ radial g (take (sumℕ ss + 1) l)
unfolding sectors sumℕ
sectors_areas [] g l h = unfold sumℤ in no_edges g l refl h
sectors_areas (s ∷ ss) g l h =
    let t : ℕ = sumℕ ss in
    ap sumℤ (map-append contour_area (group_parts s g s l) (sectors ss g (drop s l))) ∙ sum_append (map contour_area (group_parts s g s l)) (map contour_area (sectors ss g (drop s l)))
    ∙ ap₂ ◌+ℤ◌ (group_areas s g l (omega arith) (omega (arith, h))) (sectors_areas ss g (drop s l) (omega (arith, h, length-drop s l)))
    ∙ sym (radial_two g s (sumℕ ss) l (omega (arith, h)))

-- ---- so the parts about the centre have the contour's doubled area

pub centroid_areas : {m : ℕ} (g c : Pt) (l : List Pt) → 3 ≤ m → sumℤ (map contour_area (centroid_parts m g c (c ∷ l))) ≡ contour_area (c ∷ l)
centroid_areas {m} g c l h =
    let k : ℕ = (suc (length l) + (m - 2 - 1)) / (m - 2) in
    let some : 0 < (suc (length l) + (m - 2 - 1)) / (m - 2) = (le-div_iff_mul-le {k = m - 2} {x = 1} {y = suc (length l) + (m - 2 - 1)} (omega arith)).1 (omega arith) in
    let all : sumℕ (shares (suc (length l)) k) ≡ suc (length l) = sum_shares (suc (length l)) some in
    let size : length (c ∷ l ++ (c ∷ [])) ≡ suc (length l) + 1 = length-append (c ∷ l) (c ∷ []) in
    sectors_areas (shares (suc (length l)) k) g (c ∷ l ++ (c ∷ [])) (omega (arith, all, size))
    ∙ ap (radial g) (take_all (sumℕ (shares (suc (length l)) k) + 1) (c ∷ l ++ (c ∷ [])) (omega (arith, all, size))) ∙ radial_closed g c l
