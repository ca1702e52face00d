-- The searches of pair's specs/Walk.antt, from their first corner (`least_begins`,
-- `greatest_begins`), one corner on (`least_turn`, `greatest_turn`), and with none left
-- (`least_ends`, `greatest_ends`). Assumes nothing.
use mathlib.Core.Path.{◌≡◌, refl, sym, ◌∙◌, ap}
use mathlib.Core.Bool.{Bool, true, false, cond}
use mathlib.Core.List.{List, [], ◌∷◌}
use Prim.Native.Nat.{ℕ, suc, ◌+◌, ◌≤◌, ◌<◌}
use native.Mathlib.Numerals.{add-one}
use lib.ListN.{length, drop, drop_of_length-le}
use lib.Seq.{drop-cons}
use Rattle.plane.specs.Plane.{Pt, O}
use Rattle.pair.specs.Walk.{corner_at, below, least_from, greatest_from, least_at, greatest_at}

pub least_begins : (l : List Pt) → least_at l ≡ least_from 0 (corner_at l 0) 1 (drop 1 l)
unfolding least_at least_from
least_begins [] = refl
least_begins (p ∷ l) = refl

pub greatest_begins : (l : List Pt) → greatest_at l ≡ greatest_from 0 (corner_at l 0) 1 (drop 1 l)
unfolding greatest_at greatest_from
greatest_begins [] = refl
greatest_begins (p ∷ l) = refl

module _ (l : List Pt) (b : ℕ) {i : ℕ} where
  pub least_turn : {r : ℕ} → i < length l → r ≡ cond (below (corner_at l i) (corner_at l b)) i b → least_from b (corner_at l b) i (drop i l) ≡ least_from r (corner_at l r) (i + 1) (drop (i + 1) l)
  unfolding least_from
  least_turn h e = rw (add-one, drop-cons l i O) (by (below (corner_at l i) (corner_at l b)) ∙ ap (λ k. least_from k (corner_at l k) (suc i) (drop (suc i) l)) (sym e))
    where
      by : (t : Bool) → cond t (least_from i (corner_at l i) (suc i) (drop (suc i) l)) (least_from b (corner_at l b) (suc i) (drop (suc i) l)) ≡ least_from (cond t i b) (corner_at l (cond t i b)) (suc i) (drop (suc i) l)
      by true = refl
      by false = refl

  pub greatest_turn : {r : ℕ} → i < length l → r ≡ cond (below (corner_at l i) (corner_at l b)) b i → greatest_from b (corner_at l b) i (drop i l) ≡ greatest_from r (corner_at l r) (i + 1) (drop (i + 1) l)
  unfolding greatest_from
  greatest_turn h e = rw (add-one, drop-cons l i O) (by (below (corner_at l i) (corner_at l b)) ∙ ap (λ k. greatest_from k (corner_at l k) (suc i) (drop (suc i) l)) (sym e))
    where
      by : (t : Bool) → cond t (greatest_from b (corner_at l b) (suc i) (drop (suc i) l)) (greatest_from i (corner_at l i) (suc i) (drop (suc i) l)) ≡ greatest_from (cond t b i) (corner_at l (cond t b i)) (suc i) (drop (suc i) l)
      by true = refl
      by false = refl

  pub least_ends : length l ≤ i → least_from b (corner_at l b) i (drop i l) ≡ b
  unfolding least_from
  least_ends h = rw (drop_of_length-le l {i = i} h)

  pub greatest_ends : length l ≤ i → greatest_from b (corner_at l b) i (drop i l) ≡ b
  unfolding greatest_from
  greatest_ends h = rw (drop_of_length-le l {i = i} h)

-- both searches, and the better of two places b and i
abbrev pub extreme_from : Bool → ℕ → ℕ → List Pt → ℕ
extreme_from greatest b i l = cond greatest (greatest_from b (corner_at l b) i (drop i l)) (least_from b (corner_at l b) i (drop i l))

pub extreme_begins : (greatest : Bool) (l : List Pt) → cond greatest (greatest_at l) (least_at l) ≡ extreme_from greatest 0 1 l
extreme_begins true l = greatest_begins l
extreme_begins false l = least_begins l

pub extreme_turn : (greatest : Bool) (l : List Pt) (b : ℕ) {i r : ℕ} → i < length l →
    r ≡ cond greatest (cond (below (corner_at l i) (corner_at l b)) b i) (cond (below (corner_at l i) (corner_at l b)) i b) → extreme_from greatest b i l ≡ extreme_from greatest r (i + 1) l
extreme_turn true l b h e = greatest_turn l b h e
extreme_turn false l b h e = least_turn l b h e

pub extreme_ends : (greatest : Bool) (l : List Pt) (b : ℕ) {i : ℕ} → length l ≤ i → extreme_from greatest b i l ≡ b
extreme_ends true l b h = greatest_ends l b h
extreme_ends false l b h = least_ends l b h

-- the better of two places is one of them
pub better_inside : {r m : ℕ} (greatest t : Bool) {j k : ℕ} → r ≡ cond greatest (cond t j k) (cond t k j) → j < m → k < m → r < m
better_inside true true e h g = rw e h
better_inside true false e h g = rw e g
better_inside false true e h g = rw e g
better_inside false false e h g = rw e h
