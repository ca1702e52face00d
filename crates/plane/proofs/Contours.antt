-- Laws of a contour's doubled area: from another corner (`contour_rotate`), the other way round
-- (`contour_reverse`), translated (`contour_shift`), of a triangle (`contour_triangle`), with a
-- corner put between two neighbours (`contour_insert`). Assumes nothing.
use mathlib.Core.Path.{◌≡◌, refl, sym, ◌∙◌, ap}
use mathlib.Core.List.Permᴰ
use mathlib.Core.List.{List, [], ◌∷◌, ◌++◌, map, reverse}
use Prim.Native.Nat.{ℕ}
use lib.IntN.{ℤ, pos, neg_ℤ, ◌+ℤ◌, ◌-ℤ◌, +ℤ_idr}
use Rattle.integers.specs.Lists.{sumℤ, rotate, links, neighbours, swap, both}
use Rattle.integers.proofs.Ring.{con, ◌:+◌, ◌:-◌, ◌:≡◌, pt, int, ring}
use Rattle.integers.proofs.Sums.{sum_perm, sum_neg, sum_add}
use Rattle.integers.proofs.Neighbours.{perm_neighbours_rotate, perm_neighbours_reverse, map_neighbours, sum_neighbours_diff}
use Rattle.plane.specs.Plane.{Pt, ◌+ᵖ◌, cross, area_two}
use Rattle.plane.specs.Contour.{contour_area}
use Rattle.plane.proofs.Terms.{◌+E◌, cross_e, area_two_e}
use Rattle.plane.proofs.Vectors.{cross_swap}

-- an edge's term
abbrev term : Pt × Pt → ℤ
term e = cross e.0 e.1

pub contour_rotate : (k : ℕ) (l : List Pt) → contour_area (rotate k l) ≡ contour_area l
unfolding contour_area
contour_rotate k l = sum_perm (Permᴰ.map term (perm_neighbours_rotate k l))

pub contour_reverse : (l : List Pt) → contour_area (reverse l) ≡ neg_ℤ (contour_area l)
unfolding contour_area
contour_reverse l =
    sum_perm (Permᴰ.map term (perm_neighbours_reverse l)) ∙ ap sumℤ (turned (neighbours l)) ∙ sum_neg (map term (neighbours l))
  where
    turned : (m : List (Pt × Pt)) → map term (map swap m) ≡ map neg_ℤ (map term m)
    turned [] = refl
    turned (e ∷ m) = λ i. cross_swap e.1 e.0 i ∷ turned m i

-- (a + t) × (b + t) = a × b + (t × b - t × a), and differences round the contour add up to 0
pub contour_shift : (t : Pt) (l : List Pt) → contour_area (map (λ p. p +ᵖ t) l) ≡ contour_area l
unfolding contour_area
contour_shift t l =
    ap (λ m. sumℤ (map term m)) (sym (map_neighbours (λ p. p +ᵖ t) l)) ∙ ap sumℤ (moved (neighbours l))
    ∙ sum_add term (λ e. cross t e.1 -ℤ cross t e.0) (neighbours l)
    ∙ ap (λ k. sumℤ (map term (neighbours l)) +ℤ k) (sum_neighbours_diff (cross t) l) ∙ +ℤ_idr (sumℤ (map term (neighbours l)))
  where
    one : (a b t : Pt) → cross (a +ᵖ t) (b +ᵖ t) ≡ cross a b +ℤ (cross t b -ℤ cross t a)
    one = ring (pt ∷ pt ∷ pt ∷ []) (λ a b t. cross_e (a +E t) (b +E t) :≡ cross_e a b :+ (cross_e t b :- cross_e t a)) tt

    moved : (m : List (Pt × Pt)) → map term (map (both (λ p. p +ᵖ t)) m) ≡ map (λ e. term e +ℤ (cross t e.1 -ℤ cross t e.0)) m
    moved [] = refl
    moved (e ∷ m) = λ i. one e.0 e.1 t i ∷ moved m i

pub contour_triangle : (a b c : Pt) → contour_area (a ∷ b ∷ c ∷ []) ≡ area_two a b c
unfolding contour_area neighbours links sumℤ
contour_triangle = ring (pt ∷ pt ∷ pt ∷ []) (λ a b c. cross_e a b :+ (cross_e b c :+ (cross_e c a :+ con (pos 0))) :≡ area_two_e a b c) tt

-- "edge a-p is stacked before p-b": a corner p between a and b adds the triangle a p b
pub contour_insert : (a p b : Pt) (l : List Pt) → contour_area (a ∷ p ∷ b ∷ l) ≡ contour_area (a ∷ b ∷ l) +ℤ area_two a p b
unfolding contour_area neighbours links sumℤ
contour_insert a p b l = wedge a p b (sumℤ (map term (links b (l ++ (a ∷ [])))))
  where
    wedge : (a p b : Pt) (k : ℤ) → cross a p +ℤ (cross p b +ℤ k) ≡ (cross a b +ℤ k) +ℤ area_two a p b
    wedge = ring (pt ∷ pt ∷ pt ∷ int ∷ []) (λ a p b k. cross_e a p :+ (cross_e p b :+ k) :≡ (cross_e a b :+ k) :+ area_two_e a p b) tt
