-- The parts of a table that can be listed: the areas added part by part (`totals_turn`), a part's
-- area is above 0 and at most the total (`area_most`, `area_some`), part k can be measured
-- (`part_measurable`); a share is the quotient (`share-is`). Assumes nothing.
use Rattle.std.proofs.Common.{◌≡◌, ℕ, zero, suc, ◌+◌, ◌*◌, ◌^◌, ◌<◌, ◌≤◌, true, List, [], ◌∷◌, length, get_or, drop, ℤ, pos, nat_abs, sym, subst, add-one, arith, drop_of_length-le, drop-cons}
use native.Mathlib.Nat.{div-eq_of_lt-le}
use lib.Signed.{le_z, lt_z}
use Rattle.integers.specs.Lists.{All}
use Rattle.integers.proofs.Order.{<-≤}
use Rattle.integers.proofs.Sizes.{abs_parts}
use Rattle.integers.proofs.Tests.{zneeds, lt_z-<, ≤-le_z}
use Rattle.integers.proofs.Elements.{all_get_d}
use Rattle.plane.specs.Plane.{Pt}
use Rattle.plane.specs.Contour.{contour_area}
use Rattle.corners.specs.Corners.{points_of}
use Rattle.table.specs.Table.{table_parts, part_count}
use Rattle.table.specs.Shown.{part_numbers}
use Rattle.table.proofs.Rules.{count_parts}
use Rattle.table.proofs.Shown.{part_is, part_ranged}
use Rattle.wide_divide.specs.declared.Quotient.{Quotient}
use Rattle.wide_divide.specs.Quotients.{Divided}
use Rattle.listing.specs.Listing.{area_of, total_area, share_of}
use Rattle.listing_areas.specs.Areas.{Measurable, Listable}

-- ---- the total, part by part

pub totals_turn : (ps : List (List Pt)) (k : ℕ) → k < length ps → total_area (drop k ps) ≡ area_of (get_or ps k []) + total_area (drop (k + 1) ps)
unfolding total_area
totals_turn ps k h = rw (add-one, drop-cons ps k [] h)

pub totals_end : (ps : List (List Pt)) (k : ℕ) → length ps ≤ k → total_area (drop k ps) ≡ 0
unfolding total_area
totals_end ps k h = rw (drop_of_length-le ps {i = k} h)

-- a part's is part of it
pub area_most : (ps : List (List Pt)) (k : ℕ) → k < length ps → area_of (get_or ps k []) ≤ total_area ps
unfolding total_area
area_most [] k h = absurd (omega arith)
area_most (p ∷ ps) zero h = omega arith
area_most (p ∷ ps) (suc k) h = omega (arith, area_most ps k (omega arith))

-- and the total is above 0 where there is a part
pub area_some : (ps : List (List Pt)) → All (λ p. lt_z (pos 0) (contour_area p) ≡ true) ps → {k : ℕ} → k < length ps → 0 < area_of (get_or ps k [])
area_some ps h {k} l = of (contour_area (get_or ps k [])) (all_get_d (λ p. lt_z (pos 0) (contour_area p) ≡ true) ps [] h k l)
  where
    of : (z : ℤ) → lt_z (pos 0) z ≡ true → 0 < nat_abs z
    of z e = omega (zneeds, e, abs_parts z)

-- ---- part k

-- an area above 0 and at most the total is measured
pub part_measurable : {starts : List ℕ} {corners : List ℤ} → Listable starts corners → {k : ℕ} → k < part_count starts → Measurable (part_numbers starts corners k)
part_measurable {starts = s} {corners = c} h {k} l =
    let ps : List (List Pt) = table_parts s c in
    let inside : k < length ps = omega (arith, count_parts s c h.whole) in
    let e : get_or ps k [] ≡ points_of (part_numbers s c k) = sym (part_is s c l) in
    record {
      ranged = part_ranged s c k h.ranged;
      above = subst (λ p. le_z (pos 0) (contour_area p) ≡ true) e (above (contour_area (get_or ps k [])) (all_get_d (λ p. lt_z (pos 0) (contour_area p) ≡ true) ps [] h.above k inside));
      below = subst (λ p. nat_abs (contour_area p) < 2 ^ 63) e (omega (arith, area_most ps k inside, h.below));
    }
  where
    above : (z : ℤ) → lt_z (pos 0) z ≡ true → le_z (pos 0) z ≡ true
    above z e = ≤-le_z {y = z} (<-≤ (lt_z-< (pos 0) z e))

-- ---- a share

-- the product's high word is below the total
pub high_below : {a t : ℕ} {high : ℕ} (low : ℕ) → high * 2 ^ 64 + low ≡ a * 10000 → a ≤ t → 0 < t → high < t
high_below low e h k = omega arith

pub share-is : (a : ℕ) {t : ℕ} {q : Quotient} {n : ℕ} → n ≡ a * 10000 → Divided n t q → q.quotient ≡ share_of t a
share-is a {t} {q} {n} e g = sym (div-eq_of_lt-le {k = q.quotient} t {m = a * 10000} (omega (arith, e, g.whole, g.rest)) (omega (arith, e, g.whole, g.rest)))
