-- No running total of a polygon's winding leaves 64 bits where its doubled area fits
-- (`winding_stays`): no term is below 0. Assumes nothing.
use mathlib.Core.Path.{◌≡◌, refl, sym, subst}
use mathlib.Core.Bool.{Bool, true, false}
use mathlib.Core.List.{List, [], ◌∷◌, ◌++◌}
use Prim.Native.Nat.{ℕ, suc, ◌<◌}
use native.Mathlib.Omega.{arith}
use lib.ListN.{length, take, drop}
use lib.IntN.{ℤ, pos, negsuc, ◌+ℤ◌}
use lib.Signed.{◌≤ℤ◌}
use Rattle.integers.specs.Lists.{All, sumℤ, rotate, neighbours}
use Rattle.integers.proofs.Order.{zarith, add_parts}
use Rattle.integers.proofs.Tests.{≤-lt_z, ≤-le_z}
use Rattle.integers.proofs.Sums.{sum_cons}
use Rattle.integers.proofs.Elements.{all_image}
use Rattle.integers.proofs.Rotation.{rotate_at}
use Rattle.plane.specs.Plane.{Pt, O, ◌-ᵖ◌, cross, area_two}
use Rattle.plane.specs.Contour.{contour_area}
use Rattle.pair.specs.Walk.{corner_at, start_at, winding_terms, in_word, total_leaves, winding_leaves}
use Rattle.pair.proofs.Totals.{nn_sum}
use Rattle.pair.proofs.Start.{start_inside}
use Rattle.pair.proofs.Sharp.{winding_area}
use Rattle.convex_pairs.proofs.Triples.{Triples, triples_rotate}
use Rattle.convex_pairs.proofs.Convexity.{Polygon, triples_wedges}

-- at least 0 and no more than 2^63 − 1
in_word_lem : {z : ℤ} → pos 0 ≤ℤ z → z ≤ℤ pos 9223372036854775807 → in_word z ≡ true
in_word_lem {z} h k = rw (≤-lt_z {x = z} {y = negsuc 9223372036854775807} (omega zarith), ≤-le_z {x = z} {y = pos 9223372036854775807} k)

-- t and the terms so far are no more than t and all
running : {t : ℤ} (l : List ℤ) → pos 0 ≤ℤ t → All (λ k. pos 0 ≤ℤ k) l → (t +ℤ sumℤ l) ≤ℤ pos 9223372036854775807 → total_leaves t l ≡ false
unfolding total_leaves
running {t} [] n h k = refl
running {t} (x ∷ l) n h k =
    let p = parts (sum_cons x l) n h.0 (nn_sum l h.1) k in
    rw (in_word_lem p.0 p.1) (running {t = t +ℤ x} l p.0 h.1 p.2)
  where
    parts : {t x r : ℤ} {s : ℤ} → s ≡ x +ℤ r → pos 0 ≤ℤ t → pos 0 ≤ℤ x → pos 0 ≤ℤ r → (t +ℤ s) ≤ℤ pos 9223372036854775807
        → (pos 0 ≤ℤ (t +ℤ x)) × ((t +ℤ x) ≤ℤ pos 9223372036854775807) × (((t +ℤ x) +ℤ r) ≤ℤ pos 9223372036854775807)
    parts {t} {x} {r} {s} e a b c d =
        (omega (zarith, add_parts t x), omega (zarith, add_parts t x, add_parts x r, add_parts t s), omega (zarith, add_parts t x, add_parts x r, add_parts t s, add_parts (t +ℤ x) r))

-- seen from the corner at s
terms_above : {s : ℕ} (l : List Pt) → s < length l → Triples l → All (λ k. pos 0 ≤ℤ k) (winding_terms s l)
unfolding winding_terms
terms_above {s} l h t =
    let c : Pt = corner_at l s in
    let at : rotate s l ≡ corner_at l s ∷ (drop (suc s) l ++ take s l) = rotate_at l O h in
    (all_image (λ k. pos 0 ≤ℤ k) (λ e. cross (e.0 -ᵖ c) (e.1 -ᵖ c)) (neighbours (rotate s l))).1
    (subst (λ r. All (λ e. pos 0 ≤ℤ area_two (corner_at l s) e.0 e.1) (neighbours r)) (sym at)
    (triples_wedges (corner_at l s) (drop (suc s) l ++ take s l) (subst Triples at (triples_rotate s l t))))

pub winding_stays : (reflected : Bool) {l : List Pt} → Polygon l → contour_area l ≤ℤ pos 9223372036854775807 → winding_leaves reflected l ≡ false
unfolding winding_leaves
winding_stays reflected {l} p k =
    let s : ℕ = start_at reflected l in
    running {t = pos 0} (winding_terms s l) (omega zarith) (terms_above l (start_inside reflected l (omega (arith, p.long))) p.triples) (from (winding_area s l) k)
  where
    from : {w a : ℤ} → w ≡ a → a ≤ℤ pos 9223372036854775807 → (pos 0 +ℤ w) ≤ℤ pos 9223372036854775807
    from {w} e h = omega (zarith, add_parts (pos 0) w)
