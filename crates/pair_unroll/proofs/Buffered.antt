-- Points in a buffer. In order: those appended, read by their places (`new_at`, `all_at`), and the
-- first of them (`appended_fewer`); the code's test whether a point lies straight on (`goes_few`,
-- `goes_some`); a point added: repeated, straight on, neither (`added_repeated`, `added_straight`,
-- `added_turning`). Assumes nothing.
use mathlib.Core.Path.{◌≡◌, sym, ◌∙◌, ap, ap₂, subst}
use mathlib.Core.Bool.{Bool, true, false}
use mathlib.Core.List.{List, [], ◌∷◌, ◌++◌, map}
use Prim.Native.Nat.{ℕ, suc, ◌+◌, ◌-◌, ◌≤◌, ◌<◌}
use native.Mathlib.Omega.{arith}
use borrow.Author.Tests.{ltb-true, ltb-false, lt-ltb, le-ltb}
use lib.Dec.{ltb}
use lib.ListN.{length, get_or, set, take, length-map, get_or-map}
use lib.Seq.{get_or-take, get_or-append-add, length-take-le, take-take, take-append-add}
use lib.IntN.{ℤ}
use Rattle.integers.proofs.Order.{by_test}
use Rattle.integers.proofs.Tests.{differ}
use Rattle.integers.proofs.Elements.{map-take, all_get_d}
use Rattle.integers.specs.Lists.{All}
use Rattle.plane.specs.Plane.{Pt, O, eq_pt}
use Rattle.plane.specs.declared.IntPoint.{IntPoint}
use Rattle.plane.specs.Machine.{point, OnGrid}
use Rattle.points.specs.Points.{corner_of, corner_in, pair_of, first_points, Appended}
use Rattle.points.proofs.Points.{appended_one, appended_more}
use Rattle.pair_unroll.specs.Unroll.{straight_on, with_point, Ranged, Adding, goes_on, PointAdded}
use Rattle.pair_unroll.proofs.Along.{with_repeated, with_straight, with_turning, with_second}

module _ {new : List Pt} {points₀ : List (List ℤ)} {from : ℕ} {points : List (List ℤ)} {count : ℕ} (a : Appended new points₀ from points count) (fits : count ≤ length points) where
  length_front : length (first_points from points₀) ≡ from
  length_front = length-map (take from points₀) corner_of ∙ length-take-le from points₀ (omega (arith, a.size, a.count))

  -- point i of those appended
  pub new_at : {i : ℕ} → i < length new → corner_in points (from + i) ≡ get_or new i O
  new_at {i} h =
      ap corner_of (sym (get_or-take count points (from + i) [] (omega (arith, a.count)))) ∙ sym (get_or-map corner_of (take count points) (from + i) [])
      ∙ ap₂ (λ l n. get_or l (n + i) O) a.written (sym length_front) ∙ get_or-append-add (first_points from points₀) new i O

  -- the first n of those appended
  pub appended_fewer : {n : ℕ} → n ≤ length new → Appended (take n new) points₀ from points (from + n)
  appended_fewer {n} h = record {
    size = a.size;
    count = ap (λ k. from + k) (sym (length-take-le n new h));
    written =
        ap (map corner_of) (sym (take-take (from + n) count points (omega (arith, a.count)))) ∙ map-take corner_of (from + n) (take count points)
        ∙ ap₂ (λ l k. take (k + n) l) a.written (sym length_front) ∙ take-append-add (first_points from points₀) new n;
  }

  -- what holds of those appended, at their places
  pub all_at : (Q : Pt → Type 0) → All Q new → (i : ℕ) → from ≤ i → i < count → Q (corner_in points i)
  all_at Q q i h k =
      let e : from + (i - from) ≡ i = omega arith in
      let l : i - from < length new = omega (arith, a.count) in
      subst (λ j. Q (corner_in points j)) e (subst Q (sym (new_at l)) (all_get_d Q new O q (i - from) l))

-- a point of the code, in range
pub ranged_on_grid : {p : IntPoint} {q : Pt} → point p ≡ q → Ranged q → OnGrid p
ranged_on_grid {p} e h = let b : Ranged (point p) = subst Ranged (sym e) h in record { x_small = b.0; y_small = b.1 }

-- whether a point lies straight on, by the code's test
module _ (r : Pt) (from : ℕ) (points : List (List ℤ)) (count : ℕ) where
  pub goes_few : count - from < 2 → false ≡ goes_on points from count r
  unfolding goes_on
  goes_few h = sym (rw (lt-ltb (count - from) 2 h))

  pub goes_some : 2 ≤ count - from → straight_on (corner_in points (count - 2)) (corner_in points (count - 1)) r ≡ goes_on points from count r
  unfolding goes_on
  goes_some h = sym (rw (le-ltb (count - from) 2 h))

-- ---- a point added: r after the points from `from` up to `count`

module _ (r : Pt) {from : ℕ} {points : List (List ℤ)} {count : ℕ} (w : Adding points from count) where
  -- the place of the last point among those appended
  abbrev last : ℕ
  last = count - from - 1

  at_last : {new : List Pt} {points₀ : List (List ℤ)} → Appended new points₀ from points count → corner_in points (count - 1) ≡ get_or new last O
  at_last a =
      let e : count - 1 ≡ from + last = omega (arith, w.some) in
      ap (corner_in points) e ∙ new_at a (omega (arith, w.room)) (omega (arith, a.count, w.some))

  pub added_repeated : {t : Bool} → t ≡ eq_pt (corner_in points (count - 1)) r → t ≡ true → PointAdded r from points count points count
  added_repeated e t = record {
    added = λ points₀ new a. subst (λ l. Appended l points₀ from points count)
        (sym (with_repeated r new last (omega (arith, a.count, w.some)) (ap (λ q. eq_pt q r) (sym (at_last a)) ∙ sym e ∙ t))) a;
  }

  module _ {t s : Bool} (e : t ≡ eq_pt (corner_in points (count - 1)) r) (no : t ≡ false) (f : s ≡ goes_on points from count r) where
    other : {new : List Pt} {points₀ : List (List ℤ)} → Appended new points₀ from points count → eq_pt (get_or new last O) r ≡ false
    other a = ap (λ q. eq_pt q r) (sym (at_last a)) ∙ sym e ∙ no

    -- two points at least, and the last two
    module _ {new : List Pt} {points₀ : List (List ℤ)} (a : Appended new points₀ from points count) (two : from + 2 ≤ count) where
      abbrev second : ℕ
      second = count - from - 2

      size : length new ≡ suc (suc second)
      size = omega (arith, a.count)

      other_two : eq_pt (get_or new (suc second) O) r ≡ false
      other_two = let n : suc second ≡ last = omega arith in ap (λ k. eq_pt (get_or new k O) r) n ∙ other a

      straight_two : straight_on (get_or new second O) (get_or new (suc second) O) r ≡ straight_on (corner_in points (count - 2)) (corner_in points (count - 1)) r
      straight_two =
          let m : count - 2 ≡ from + second = omega arith in
          let n : last ≡ suc second = omega arith in
          ap₂ (λ p q. straight_on p q r) (sym (ap (corner_in points) m ∙ new_at a (omega (arith, w.room)) (omega (arith, a.count))))
          (sym (at_last a ∙ ap (λ k. get_or new k O) n))

    goes_two : s ≡ true → (from + 2 ≤ count) × (straight_on (corner_in points (count - 2)) (corner_in points (count - 1)) r ≡ true)
    goes_two y = by_test (ltb (count - from) 2)
        (λ b. differ (goes_few r from points count (ltb-true (count - from) 2 b) ∙ sym f ∙ y))
        (λ b. let l : 2 ≤ count - from = ltb-false (count - from) 2 b in (omega arith, goes_some r from points count l ∙ sym f ∙ y))

    goes_not : s ≡ false → from + 2 ≤ count → straight_on (corner_in points (count - 2)) (corner_in points (count - 1)) r ≡ false
    goes_not n h = goes_some r from points count (omega arith) ∙ sym f ∙ n

    pub added_straight : {points' : List (List ℤ)} → s ≡ true → points' ≡ set points (count - 1) (pair_of r) → PointAdded r from points count points' count
    added_straight {points'} y g = record { added = λ points₀ new a. straight a (goes_two y) }
      where
        straight :
            {points₀ : List (List ℤ)} {new : List Pt} → Appended new points₀ from points count →
            (from + 2 ≤ count) × (straight_on (corner_in points (count - 2)) (corner_in points (count - 1)) r ≡ true) → Appended (with_point new r) points₀ from points' count
        straight {points₀} {new} a q =
            let n = second a q.0 in
            let before : from + suc n ≡ count - 1 = omega (arith, q.0) in
            let after : count - 1 + 1 ≡ count = omega (arith, w.some) in
            subst (λ l. Appended l points₀ from points' count) (sym (with_straight r new n (size a q.0) (other_two a q.0) (straight_two a q.0 ∙ q.1)))
            (appended_more
            (subst (Appended (take (suc n) new) points₀ from points) before (appended_fewer a (omega (arith, w.room)) (omega (arith, size a q.0))))
            (subst (λ b. Appended (r ∷ []) points (count - 1) b count) (sym g)
            (subst (Appended (r ∷ []) points (count - 1) (set points (count - 1) (pair_of r))) after (appended_one points r (omega (arith, w.room))))))

    pub added_turning : {points' : List (List ℤ)} → s ≡ false → points' ≡ set points count (pair_of r) → PointAdded r from points count points' (count + 1)
    added_turning {points'} n g = record { added = turning }
      where
        kept : {new : List Pt} {points₀ : List (List ℤ)} → Appended new points₀ from points count → with_point new r ≡ new ++ (r ∷ [])
        kept {new} a = by_test (ltb (count - from) 2)
            (λ b. let l : count - from < 2 = ltb-true (count - from) 2 b in
            let z : last ≡ 0 = omega arith in
            with_second r new (omega (arith, a.count, w.some)) (ap (λ k. eq_pt (get_or new k O) r) (sym z) ∙ other a))
            (λ b. let l : 2 ≤ count - from = ltb-false (count - from) 2 b in
            let two : from + 2 ≤ count = omega arith in
            with_turning r new (second a two) (size a two) (other_two a two) (straight_two a two ∙ goes_not n two))

        turning : (points₀ : List (List ℤ)) (new : List Pt) → Appended new points₀ from points count → Appended (with_point new r) points₀ from points' (count + 1)
        turning points₀ new a =
            subst (λ l. Appended l points₀ from points' (count + 1)) (sym (kept a))
            (appended_more a (subst (λ b. Appended (r ∷ []) points count b (count + 1)) (sym g) (appended_one points r w.room)))
