-- Where a walk starts, and the other extreme of its contour: laws of `below`, `least_at`,
-- `greatest_at`, `start_at`, `end_at` of specs/Walk.antt.
-- In order: `below` is a strict total order of points by (y, x), which is the upper half seen from
-- the lower one (`below_up`), and turning through the origin turns it about; the least corner,
-- first of equals, and the greatest, last of equals (`Least`, `Greatest`, by place); a walk's start
-- and end, of either kind. Assumes nothing.
use mathlib.Core.Path.{◌≡◌, refl, sym, ◌∙◌, ap, subst}
use mathlib.Core.Bool.{Bool, true, false}
use mathlib.Core.List.{List, [], ◌∷◌}
use mathlib.Core.Logic.{◌⊎◌, inl, inr, ⊎_elim}
use Prim.Native.Nat.{ℕ, suc, ◌+◌, ◌<◌}
use native.Mathlib.Nat.{eq-or-lt_of_le, le_of_suc-le-suc}
use native.Mathlib.Omega.{arith}
use lib.ListN.{length, drop, get_or}
use lib.Seq.{drop-cons}
use lib.IntN.{ℤ, pos, neg_ℤ, ◌-ℤ◌}
use lib.Signed.{◌<ℤ◌, lt_z}
use Rattle.integers.specs.Lists.{All}
use Rattle.integers.proofs.Order.{zarith, sub_parts, neg_parts, <-≤, Compared, less, same, more, compared, by_test}
use Rattle.integers.proofs.Tests.{differ, <-lt_z, ≤-lt_z}
use Rattle.integers.proofs.Elements.{all_map, get_or_all}
use Rattle.plane.specs.Plane.{Pt, O, ◌-ᵖ◌, negᵖ}
use Rattle.plane.proofs.Vectors.{pt_eq}
use Rattle.plane.specs.Halves.{Up, above, level}
use Rattle.pair.specs.Walk.{corner_at, below, least_from, greatest_from, least_at, greatest_at, start_at, end_at, turned}

-- ---- the order by (y, x)

-- the test decides
pub data Keys (p q : Pt) : Type 0 where
  lower : below p q ≡ true → below q p ≡ false → Up (q -ᵖ p) → Keys p q
  equal : below p q ≡ false → below q p ≡ false → p ≡ q → Keys p q
  upper : below p q ≡ false → below q p ≡ true → Up (p -ᵖ q) → Keys p q

pub keys : (p q : Pt) → Keys p q
unfolding below
keys p q = go (compared p.y q.y) (compared p.x q.x)
  where
    no_less : {a b : ℤ} → a ≡ b → lt_z a b ≡ false
    no_less {a} {b} e = ≤-lt_z {x = a} {y = b} (omega zarith)

    no_more : {a b : ℤ} → a ≡ b → lt_z b a ≡ false
    no_more {a} {b} e = ≤-lt_z {x = b} {y = a} (omega zarith)

    apart : {a b : ℤ} → a <ℤ b → pos 0 <ℤ (b -ℤ a)
    apart {a} {b} h = omega (zarith, sub_parts b a)

    none : {a b : ℤ} → a ≡ b → b -ℤ a ≡ pos 0
    none {a} {b} e = omega (zarith, sub_parts b a)

    go : Compared p.y q.y → Compared p.x q.x → Keys p q
    go (less h) c = lower (rw (<-lt_z h)) (rw (≤-lt_z (<-≤ h), <-lt_z h)) (above (apart h))
    go (more h) c = upper (rw (≤-lt_z (<-≤ h), <-lt_z h)) (rw (<-lt_z h)) (above (apart h))
    go (same e) (less h) = lower (rw (no_less e, no_more e, <-lt_z h)) (rw (no_more e, no_less e, ≤-lt_z (<-≤ h))) (level (none e) (apart h))
    go (same e) (more h) = upper (rw (no_less e, no_more e, ≤-lt_z (<-≤ h))) (rw (no_more e, no_less e, <-lt_z h)) (level (none (sym e)) (apart h))
    go (same e) (same f) = equal (rw (no_less e, no_more e, no_less f)) (rw (no_more e, no_less e, no_more f)) (pt_eq f e)

-- below: the other lies in the upper half
pub below_up : (p q : Pt) → below p q ≡ true → Up (q -ᵖ p)
below_up p q h = elim (keys p q) [ lower a b u ↦ u | equal a b e ↦ differ (sym a ∙ h) | upper a b u ↦ differ (sym a ∙ h) ]

-- not below: the same point, or above
pub not_below_up : (p q : Pt) → below p q ≡ false → (p ≡ q) ⊎ Up (p -ᵖ q)
not_below_up p q h = elim (keys p q) [ lower a b u ↦ differ (sym h ∙ a) | equal a b e ↦ inl e | upper a b u ↦ inr u ]

-- Up (q - p) and Up (p - q) exclude each other
up_not_both : (p q : Pt) → Up (q -ᵖ p) → Up (p -ᵖ q) → ⊥
up_not_both p q (above h) (above k) = omega (zarith, sub_parts q.y p.y, sub_parts p.y q.y)
up_not_both p q (above h) (level e k) = omega (zarith, sub_parts q.y p.y, sub_parts p.y q.y)
up_not_both p q (level e h) (above k) = omega (zarith, sub_parts q.y p.y, sub_parts p.y q.y)
up_not_both p q (level e h) (level f k) = omega (zarith, sub_parts q.x p.x, sub_parts p.x q.x)

-- the upper half has no zero
up_not_same : {p q : Pt} → Up (q -ᵖ p) → p ≡ q → ⊥
up_not_same {p} {q} (above h) e = omega (zarith, sub_parts q.y p.y, ap (λ c. c.y) e)
up_not_same {p} {q} (level d h) e = omega (zarith, sub_parts q.x p.x, ap (λ c. c.x) e)

pub up_below : (p q : Pt) → Up (q -ᵖ p) → below p q ≡ true
up_below p q h = elim (keys p q) [ lower a b u ↦ a | equal a b e ↦ absurd (up_not_same h e) | upper a b u ↦ absurd (up_not_both p q h u) ]

pub below_irrefl : (p : Pt) → below p p ≡ false
below_irrefl p = elim (keys p p) [ lower a b u ↦ b | equal a b e ↦ a | upper a b u ↦ a ]

pub below_asym : (p q : Pt) → below p q ≡ true → below q p ≡ false
below_asym p q h = elim (keys p q) [ lower a b u ↦ b | equal a b e ↦ b | upper a b u ↦ differ (sym a ∙ h) ]

-- (r - q) + (q - p) = r - p, of two in the upper half
up_chain : (p q r : Pt) → Up (q -ᵖ p) → Up (r -ᵖ q) → Up (r -ᵖ p)
up_chain p q r (above h) (above k) = above (omega (zarith, sub_parts q.y p.y, sub_parts r.y q.y, sub_parts r.y p.y))
up_chain p q r (above h) (level e k) = above (omega (zarith, sub_parts q.y p.y, sub_parts r.y q.y, sub_parts r.y p.y))
up_chain p q r (level e h) (above k) = above (omega (zarith, sub_parts q.y p.y, sub_parts r.y q.y, sub_parts r.y p.y))
up_chain p q r (level e h) (level f k) =
    level (omega (zarith, sub_parts q.y p.y, sub_parts r.y q.y, sub_parts r.y p.y))
    (omega (zarith, sub_parts q.x p.x, sub_parts r.x q.x, sub_parts r.x p.x))

pub below_trans : (p q r : Pt) → below p q ≡ true → below q r ≡ true → below p r ≡ true
below_trans p q r h k = up_below p r (up_chain p q r (below_up p q h) (below_up q r k))

-- total up to equality of points
pub below_total : (p q : Pt) → below p q ≡ false → below q p ≡ false → p ≡ q
below_total p q h k = elim (keys p q) [ lower a b u ↦ differ (sym h ∙ a) | equal a b e ↦ e | upper a b u ↦ differ (sym k ∙ b) ]

-- p < q ≤ r and p ≤ q < r
pub below_not_trans : (p q r : Pt) → below p q ≡ true → below r q ≡ false → below p r ≡ true
below_not_trans p q r h k = ⊎_elim (λ e. subst (λ c. below p c ≡ true) (sym e) h) (λ u. below_trans p q r h (up_below q r u)) (not_below_up r q k)

pub not_below_trans : (p q r : Pt) → below q p ≡ false → below q r ≡ true → below p r ≡ true
not_below_trans p q r h k = ⊎_elim (λ e. subst (λ c. below c r ≡ true) e k) (λ u. below_trans p q r (up_below p q u) k) (not_below_up q p h)

-- through the origin, the other way round: -p - (-q) = -(p - q)
pub below_negᵖ : (p q : Pt) → below (negᵖ p) (negᵖ q) ≡ below q p
below_negᵖ p q = elim (keys q p) [
  | lower a b u ↦ up_below (negᵖ p) (negᵖ q) (subst Up (turn p q) u) ∙ sym a
  | equal a b e ↦ ap (λ c. below (negᵖ p) (negᵖ c)) e ∙ below_irrefl (negᵖ p) ∙ sym a
  | upper a b u ↦ below_asym (negᵖ q) (negᵖ p) (up_below (negᵖ q) (negᵖ p) (subst Up (turn q p) u)) ∙ sym a
]
  where
    one : (a b : ℤ) → a -ℤ b ≡ neg_ℤ b -ℤ neg_ℤ a
    one a b = omega (zarith, sub_parts a b, sub_parts (neg_ℤ b) (neg_ℤ a), neg_parts a, neg_parts b)

    turn : (p q : Pt) → p -ᵖ q ≡ negᵖ q -ᵖ negᵖ p
    turn p q = pt_eq (one p.x q.x) (one p.y q.y)

-- ---- the least corner and the greatest, of the first n of l

pub record Least (l : List Pt) (n b : ℕ) : Type 0 where
  pub inside : b < n
  pub lowest : (i : ℕ) → i < n → below (corner_at l i) (corner_at l b) ≡ false
  pub first : (i : ℕ) → i < b → below (corner_at l b) (corner_at l i) ≡ true

pub record Greatest (l : List Pt) (n b : ℕ) : Type 0 where
  pub inside : b < n
  pub highest : (i : ℕ) → i < n → below (corner_at l b) (corner_at l i) ≡ false
  pub last : (i : ℕ) → b < i → i < n → below (corner_at l i) (corner_at l b) ≡ true

module _ (l : List Pt) where
  -- what holds of each place below n, and of n, holds of each below n + 1
  up_to : {P : ℕ → Type 0} {n : ℕ} → ((i : ℕ) → i < n → P i) → P n → (i : ℕ) → i < suc n → P i
  up_to {P} f p i h = ⊎_elim (λ e. subst P (sym e) p) (λ k. f i k) (eq-or-lt_of_le (le_of_suc-le-suc h))

  -- of one corner
  least_one : Least l 1 0
  least_one = record {
    inside = omega arith;
    lowest = up_to (λ i h. absurd (omega arith)) (below_irrefl (corner_at l 0));
    first = λ i h. absurd (omega arith);
  }

  greatest_one : Greatest l 1 0
  greatest_one = record {
    inside = omega arith;
    highest = up_to (λ i h. absurd (omega arith)) (below_irrefl (corner_at l 0));
    last = λ i h k. absurd (omega arith);
  }

  -- the next corner is lower: it is least, and those before it are above it
  least_moved : {n b : ℕ} → Least l n b → below (corner_at l n) (corner_at l b) ≡ true → Least l (suc n) n
  least_moved {n} {b} r h = record {
    inside = omega arith;
    lowest = up_to
        (λ i k. below_asym (corner_at l n) (corner_at l i) (over i k)) (below_irrefl (corner_at l n));
    first = over;
  }
    where
      over : (i : ℕ) → i < n → below (corner_at l n) (corner_at l i) ≡ true
      over i k = below_not_trans (corner_at l n) (corner_at l b) (corner_at l i) h (r.lowest i k)

  least_kept : {n b : ℕ} → Least l n b → below (corner_at l n) (corner_at l b) ≡ false → Least l (suc n) b
  least_kept {b} r h = record {
    inside = omega (arith, r.inside);
    lowest = up_to r.lowest h;
    first = r.first;
  }

  -- the next corner is lower: the greatest stays, and it is above the next
  greatest_kept : {n b : ℕ} → Greatest l n b → below (corner_at l n) (corner_at l b) ≡ true → Greatest l (suc n) b
  greatest_kept {n} {b} r h = record {
    inside = omega (arith, r.inside);
    highest = up_to r.highest (below_asym (corner_at l n) (corner_at l b) h);
    last = λ i k m. up_to {P = λ i. b < i → below (corner_at l i) (corner_at l b) ≡ true} (λ i m k. r.last i k m) (λ k. h) i m k;
  }

  greatest_moved : {n b : ℕ} → Greatest l n b → below (corner_at l n) (corner_at l b) ≡ false → Greatest l (suc n) n
  greatest_moved {n} {b} r h = record {
    inside = omega arith;
    highest = up_to over (below_irrefl (corner_at l n));
    last = λ i k m. absurd (omega arith);
  }
    where
      -- n below i would put n below b
      over : (i : ℕ) → i < n → below (corner_at l n) (corner_at l i) ≡ false
      over i k = by_test (below (corner_at l n) (corner_at l i))
          (λ t. differ (sym h ∙ below_not_trans (corner_at l n) (corner_at l i) (corner_at l b) t (r.highest i k))) (λ t. t)

  -- m is what is left of l from place n on
  least_from_lem : {m : List Pt} {n b : ℕ} {p : Pt} → drop n l ≡ m → n + length m ≡ length l → corner_at l b ≡ p → Least l n b → Least l (length l) (least_from b p n m)
  unfolding least_from
  least_from_lem {m = []} {b} d e c r = subst (λ k. Least l k b) (omega arith) r
  least_from_lem {m = q ∷ m} {n} {b} {p} d e c r =
      let at : get_or l n O ∷ drop (suc n) l ≡ q ∷ m = sym (drop-cons l n O (omega arith)) ∙ d in
      let here : corner_at l n ≡ q = cc in
      let rest : drop (suc n) l ≡ m = cc in
      let test : below (corner_at l n) (corner_at l b) ≡ below q p = cc in
      by_test (below q p)
      (λ t. rw t (least_from_lem rest (omega arith) here (least_moved r (test ∙ t))))
      (λ t. rw t (least_from_lem rest (omega arith) c (least_kept r (test ∙ t))))

  greatest_from_lem : {m : List Pt} {n b : ℕ} {p : Pt} → drop n l ≡ m → n + length m ≡ length l → corner_at l b ≡ p → Greatest l n b → Greatest l (length l) (greatest_from b p n m)
  unfolding greatest_from
  greatest_from_lem {m = []} {b} d e c r = subst (λ k. Greatest l k b) (omega arith) r
  greatest_from_lem {m = q ∷ m} {n} {b} {p} d e c r =
      let at : get_or l n O ∷ drop (suc n) l ≡ q ∷ m = sym (drop-cons l n O (omega arith)) ∙ d in
      let here : corner_at l n ≡ q = cc in
      let rest : drop (suc n) l ≡ m = cc in
      let test : below (corner_at l n) (corner_at l b) ≡ below q p = cc in
      by_test (below q p)
      (λ t. rw t (greatest_from_lem rest (omega arith) c (greatest_kept r (test ∙ t))))
      (λ t. rw t (greatest_from_lem rest (omega arith) here (greatest_moved r (test ∙ t))))

-- the whole list gone through
pub least_is : (l : List Pt) → 0 < length l → Least l (length l) (least_at l)
unfolding least_at
least_is [] h = absurd (omega arith)
least_is (p ∷ l) h = least_from_lem (p ∷ l) refl (omega arith) refl (least_one (p ∷ l))

pub greatest_is : (l : List Pt) → 0 < length l → Greatest l (length l) (greatest_at l)
unfolding greatest_at
greatest_is [] h = absurd (omega arith)
greatest_is (p ∷ l) h = greatest_from_lem (p ∷ l) refl (omega arith) refl (greatest_one (p ∷ l))

-- nothing is below the least, and nothing above the greatest
pub least_all : (l : List Pt) → 0 < length l → All (λ c. below c (corner_at l (least_at l)) ≡ false) l
least_all l h = get_or_all (λ c. below c (corner_at l (least_at l)) ≡ false) l O (least_is l h).lowest

pub greatest_all : (l : List Pt) → 0 < length l → All (λ c. below (corner_at l (greatest_at l)) c ≡ false) l
greatest_all l h = get_or_all (λ c. below (corner_at l (greatest_at l)) c ≡ false) l O (greatest_is l h).highest

-- ---- a walk's start and the other extreme: the least and the greatest, for a reflected walk the
-- other way round

pub start_is_least : (l : List Pt) → 0 < length l → Least l (length l) (start_at false l)
unfolding start_at
start_is_least = least_is

pub start_is_greatest : (l : List Pt) → 0 < length l → Greatest l (length l) (start_at true l)
unfolding start_at
start_is_greatest = greatest_is

pub end_is_greatest : (l : List Pt) → 0 < length l → Greatest l (length l) (end_at false l)
unfolding end_at
end_is_greatest = greatest_is

pub end_is_least : (l : List Pt) → 0 < length l → Least l (length l) (end_at true l)
unfolding end_at
end_is_least = least_is

pub start_inside : (reflected : Bool) (l : List Pt) → 0 < length l → start_at reflected l < length l
start_inside false l h = (start_is_least l h).inside
start_inside true l h = (start_is_greatest l h).inside

pub end_inside : (reflected : Bool) (l : List Pt) → 0 < length l → end_at reflected l < length l
end_inside false l h = (end_is_greatest l h).inside
end_inside true l h = (end_is_least l h).inside

-- no point that the walk may hand out is below its start, or above its other extreme
pub start_lowest : (reflected : Bool) (l : List Pt) → 0 < length l → All (λ c. below (turned reflected c) (turned reflected (corner_at l (start_at reflected l))) ≡ false) l
start_lowest false l h = get_or_all (λ c. below c (corner_at l (start_at false l)) ≡ false) l O (start_is_least l h).lowest
start_lowest true l h = get_or_all (λ c. below (negᵖ c) (negᵖ (corner_at l (start_at true l))) ≡ false) l O
    (λ i k. below_negᵖ (corner_at l i) (corner_at l (start_at true l)) ∙ (start_is_greatest l h).highest i k)

pub end_highest : (reflected : Bool) (l : List Pt) → 0 < length l → All (λ c. below (turned reflected (corner_at l (end_at reflected l))) (turned reflected c) ≡ false) l
end_highest false l h = get_or_all (λ c. below (corner_at l (end_at false l)) c ≡ false) l O (end_is_greatest l h).highest
end_highest true l h = get_or_all (λ c. below (negᵖ (corner_at l (end_at true l))) (negᵖ c) ≡ false) l O
    (λ i k. below_negᵖ (corner_at l (end_at true l)) (corner_at l i) ∙ (end_is_least l h).lowest i k)

-- seen from the start, every point is the start or in the upper half
pub start_up : (reflected : Bool) (l : List Pt) → 0 < length l → All (λ c. (turned reflected c ≡ turned reflected (corner_at l (start_at reflected l))) ⊎ Up (turned reflected c -ᵖ turned reflected (corner_at l (start_at reflected l)))) l
start_up reflected l h = all_map l (λ c k. not_below_up (turned reflected c) (turned reflected (corner_at l (start_at reflected l))) k) (start_lowest reflected l h)
