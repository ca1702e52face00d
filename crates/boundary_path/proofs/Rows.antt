-- Rows as items. In order: a number by its bits (`finite_bits`, `no_nan`); an item by its kind
-- (`drawn_is`, `next_first`, `closes_is`); the point reached (`reach-..`); the items of
-- rows (`row_item`). Assumes nothing.
use mathlib.Core.Path.{◌≡◌, refl, sym, ◌∙◌, ap, ap₂, subst}
use mathlib.Core.Bool.{Bool, true, false, cond, not, ◌&&◌}
use mathlib.Core.List.{List, [], ◌∷◌}
use Prim.Native.Nat.{ℕ, zero, suc, ◌+◌, ◌*◌, ◌/◌, ◌%◌, ◌^◌, ◌≤◌, ◌<◌}
use native.Mathlib.Omega.{arith}
use borrow.Author.Tests.{ltb-true, ltb-false, eqb-true, eqb-false, ne_eqb, eq-eqb}
use lib.Dec.{T, eqb, leb, ltb}
use lib.ListN.{length, take, get_or, length-map}
use lib.Seq.{length-take-le, get_or-take}
use lib.Ieee.{Float, nan, inf, fin, binary64, odd, of_fields, of_bits, nan_bits, is_nan, add}
use lib.Ieee.Bits.{nan_bits_is, is_true}
use lib.Ieee.Fits.{and_l, and_r}
use lib.Ieee.Scale.{finite}
use Rattle.integers.proofs.Order.{by_test}
use Rattle.integers.proofs.Tests.{differ}
use Rattle.floats.proofs.Comparisons.{and_true}
use Rattle.path.specs.declared.PathItem.{PathItem}
use Rattle.path.specs.declared.PathItem.TheVariants.{Move, Line, Horizontal, Vertical, RelativeLine, Close}
use Rattle.path.specs.declared.Point.{Point}
use Rattle.path.specs.Path.{reach, closes}
use Rattle.path.specs.Judging.{is_drawn, moves, is_next}
use Rattle.boundary_path.specs.Rows.{number_at, item_of, items_of}

-- ---- a number by its bits

abbrev sign : ℕ
sign = 0x8000_0000_0000_0000

abbrev infinity : ℕ
infinity = 0x7ff0_0000_0000_0000

odd_finite : (d : ℕ) (s : Bool) (q k l : ℕ) → true ≡ finite (odd d s q k l)
unfolding odd
odd_finite d s zero k l = refl
odd_finite d s (suc q) k l = refl

-- the greatest exponent is that of no finite number
fields_finite : (s : Bool) (x t : ℕ) → not (eqb x 2047) ≡ finite (of_fields binary64 s x t)
unfolding of_fields
fields_finite s zero t = odd_finite 53 s t 0 1074
fields_finite s (suc x) t = go (eqb (suc x) 2047) (eqb t 0)
  where
    go : (b c : Bool) → not b ≡ finite (cond b (cond c (inf s) nan) (odd 53 s (2 ^ 52 + t) x 1074))
    go true true = refl
    go true false = refl
    go false c = odd_finite 53 s (2 ^ 52 + t) x 1074

exponent_below : (m : ℕ) → m < sign → ltb m infinity ≡ not (eqb (m / 2 ^ 52) 2047)
exponent_below m h =
    by_test (ltb m infinity)
    (λ e. e ∙ ap not (sym (ne_eqb (m / 2 ^ 52) 2047 (λ k. omega (arith, k, ltb-true m infinity e)))))
    (λ e. e ∙ ap not (sym (eq-eqb (m / 2 ^ 52) 2047 (omega (arith, h, ltb-false m infinity e)))))

pub finite_bits : (n : ℕ) → ltb (n % sign) infinity ≡ finite (of_bits binary64 n)
unfolding of_bits
finite_bits n = exponent_below (n % sign) (omega arith) ∙ fields_finite (leb sign n) (n % sign / 2 ^ 52) (n % 2 ^ 52)

finite_number : (x : Float) → T (finite x) → is_nan x ≡ false
unfolding is_nan
finite_number nan t = absurd t
finite_number (inf s) t = absurd t
finite_number (fin s m e) t = refl

pub no_nan : (n : ℕ) → T (finite (of_bits binary64 n)) → T (not (nan_bits binary64 n))
no_nan n t = subst (λ b. T (not b)) (sym (nan_bits_is binary64 n ∙ finite_number (of_bits binary64 n) t)) tt

-- ---- an item by its kind

-- of kind k
abbrev choice : Float → Float → ℕ → PathItem
choice x y k =
    cond (eqb k 0) (Move x y)
    (cond (eqb k 1) (Line x y) (cond (eqb k 2) (Horizontal x) (cond (eqb k 3) (Vertical y) (cond (eqb k 4) (RelativeLine x y) (cond (eqb k 5) Close (Move nan nan))))))

otherwise : (k j : ℕ) (a b : PathItem) → (k ≡ j → ⊥) → cond (eqb k j) a b ≡ b
otherwise k j a b h = ap (λ t. cond t a b) (ne_eqb k j h)

-- no kind below 5
choice_past : (x y : Float) {k : ℕ} → 5 ≤ k → choice x y k ≡ cond (eqb k 5) Close (Move nan nan)
choice_past x y {k} h =
    otherwise k 0 _ _ (λ e. omega (arith, e)) ∙ otherwise k 1 _ _ (λ e. omega (arith, e)) ∙ otherwise k 2 _ _ (λ e. omega (arith, e)) ∙ otherwise k 3 _ _ (λ e. omega (arith, e)) ∙ otherwise k 4 _ _ (λ e. omega (arith, e))

past_drawn : (b : Bool) → is_drawn (cond b Close (Move nan nan)) ≡ false
past_drawn true = refl
past_drawn false = refl

past_closes : (b : Bool) → closes (cond b Close (Move nan nan)) ≡ b
past_closes true = refl
past_closes false = refl

closes_kind : (x y : Float) (k : ℕ) → k < 5 → closes (choice x y k) ≡ eqb k 5
closes_kind x y zero h = refl
closes_kind x y (suc zero) h = refl
closes_kind x y (suc (suc zero)) h = refl
closes_kind x y (suc (suc (suc zero))) h = refl
closes_kind x y (suc (suc (suc (suc zero)))) h = refl
closes_kind x y (suc (suc (suc (suc (suc k))))) h = absurd (omega (arith, h))

-- the bits that are carried, and 0 for the others
abbrev given : ℕ → ℕ → ℕ → ℕ
given k other n = cond (eqb k other) 0 n

module _ (a b : ℕ) where
  abbrev X : Float
  X = of_bits binary64 a

  abbrev Y : Float
  Y = of_bits binary64 b

  drawn_kind : (k : ℕ) → k < 5 → is_drawn (choice X Y k) ≡ finite (of_bits binary64 (given k 3 a)) && finite (of_bits binary64 (given k 2 b))
  unfolding of_bits
  drawn_kind zero h = refl
  drawn_kind (suc zero) h = refl
  drawn_kind (suc (suc zero)) h = and_true (finite X)
  drawn_kind (suc (suc (suc zero))) h = refl
  drawn_kind (suc (suc (suc (suc zero)))) h = refl
  drawn_kind (suc (suc (suc (suc (suc k))))) h = absurd (omega (arith, h))

  moves_kind : (k : ℕ) → k < 5 → moves (choice X Y k) ≡ eqb k 0
  moves_kind zero h = refl
  moves_kind (suc zero) h = refl
  moves_kind (suc (suc zero)) h = refl
  moves_kind (suc (suc (suc zero))) h = refl
  moves_kind (suc (suc (suc (suc zero)))) h = refl
  moves_kind (suc (suc (suc (suc (suc k))))) h = absurd (omega (arith, h))

module _ (row : List ℕ) where
  abbrev kind : ℕ
  kind = get_or row 0 0

  -- what the row carries
  abbrev xs : ℕ
  xs = given kind 3 (get_or row 1 0)

  abbrev ys : ℕ
  ys = given kind 2 (get_or row 2 0)

  pub drawn_past : 5 ≤ kind → false ≡ is_drawn (item_of row)
  unfolding item_of
  drawn_past h = sym (ap is_drawn (choice_past (number_at row 1) (number_at row 2) h) ∙ past_drawn (eqb kind 5))

  pub drawn_is : kind < 5 → finite (of_bits binary64 xs) && finite (of_bits binary64 ys) ≡ is_drawn (item_of row)
  unfolding item_of
  drawn_is h = sym (drawn_kind (get_or row 1 0) (get_or row 2 0) kind h)

  drawn_below : is_drawn (item_of row) ≡ true → kind < 5
  drawn_below e = by_test (ltb kind 5) (λ t. ltb-true kind 5 t) (λ t. differ (drawn_past (ltb-false kind 5 t) ∙ e))

  moves_is : is_drawn (item_of row) ≡ true → moves (item_of row) ≡ eqb kind 0
  unfolding item_of
  moves_is e = moves_kind (get_or row 1 0) (get_or row 2 0) kind (drawn_below e)

  -- at place i
  module _ (e : is_drawn (item_of row) ≡ true) {i : ℕ} where
    pub next_first : i ≡ 0 → eqb kind 0 ≡ is_next (eqb i 0) (item_of row)
    next_first z = sym (ap₂ (λ d b. d && cond b (moves (item_of row)) (not (moves (item_of row)))) e (eq-eqb i 0 z) ∙ moves_is e)

    pub next_behind : (i ≡ 0 → ⊥) → not (eqb kind 0) ≡ is_next (eqb i 0) (item_of row)
    next_behind z = sym (ap₂ (λ d b. d && cond b (moves (item_of row)) (not (moves (item_of row)))) e (ne_eqb i 0 z) ∙ ap not (moves_is e))

  closes_is : closes (item_of row) ≡ eqb kind 5
  unfolding item_of
  closes_is = by_test (ltb kind 5)
      (λ t. closes_kind (number_at row 1) (number_at row 2) kind (ltb-true kind 5 t))
      (λ t. ap closes (choice_past (number_at row 1) (number_at row 2) (ltb-false kind 5 t)) ∙ past_closes (eqb kind 5))

  -- what is carried are numbers
  module _ (t : T (is_drawn (item_of row))) where
    pub drawn_under : kind < 5
    drawn_under = drawn_below (is_true (is_drawn (item_of row)) t)

    both : T (finite (of_bits binary64 xs) && finite (of_bits binary64 ys))
    both = subst T (sym (drawn_is drawn_under)) t

    pub x_number : T (not (nan_bits binary64 xs))
    x_number = no_nan xs (and_l (finite (of_bits binary64 xs)) (finite (of_bits binary64 ys)) both)

    pub y_number : T (not (nan_bits binary64 ys))
    y_number = no_nan ys (and_r (finite (of_bits binary64 xs)) (finite (of_bits binary64 ys)) both)

  -- the point reached, from what is carried
  module _ {x y : Float} (p : Point) (u : x ≡ of_bits binary64 xs) (v : y ≡ of_bits binary64 ys) where
    module _ {k : ℕ} (e : kind ≡ k) where
      x_of : x ≡ of_bits binary64 (given k 3 (get_or row 1 0))
      x_of = u ∙ ap (λ k. of_bits binary64 (given k 3 (get_or row 1 0))) e

      y_of : y ≡ of_bits binary64 (given k 2 (get_or row 2 0))
      y_of = v ∙ ap (λ k. of_bits binary64 (given k 2 (get_or row 2 0))) e

      reach_of : reach p (choice (number_at row 1) (number_at row 2) k) ≡ reach p (item_of row)
      unfolding item_of
      reach_of = sym (ap (λ k. reach p (choice (number_at row 1) (number_at row 2) k)) e)

    pub reach_relative : kind ≡ 4 → record { x = add binary64 p.x x; y = add binary64 p.y y } ≡ reach p (item_of row)
    reach_relative e = ap₂ (λ a b. record { x = add binary64 p.x a; y = add binary64 p.y b }) (x_of e) (y_of e) ∙ reach_of e

    pub reach_vertical : kind ≡ 3 → record { x = p.x; y = y } ≡ reach p (item_of row)
    reach_vertical e = ap (λ b. record { x = p.x; y = b }) (y_of e) ∙ reach_of e

    pub reach_horizontal : kind ≡ 2 → record { x = x; y = p.y } ≡ reach p (item_of row)
    reach_horizontal e = ap (λ a. record { x = a; y = p.y }) (x_of e) ∙ reach_of e

    -- a move and a line, by the test of 0
    pub reach_both : kind < 2 → record { x = x; y = y } ≡ reach p (item_of row)
    reach_both h = by_test (eqb kind 0) (λ t. at_zero (eqb-true kind 0 t)) (λ t. at_one (omega (arith, h, eqb-false kind 0 t)))
      where
        at_zero : kind ≡ 0 → record { x = x; y = y } ≡ reach p (item_of row)
        at_zero e = ap₂ (λ a b. record { x = a; y = b }) (x_of e) (y_of e) ∙ reach_of e

        at_one : kind ≡ 1 → record { x = x; y = y } ≡ reach p (item_of row)
        at_one e = ap₂ (λ a b. record { x = a; y = b }) (x_of e) (y_of e) ∙ reach_of e

-- ---- the items of rows

pub length_items : (rows : List (List ℕ)) → length (items_of rows) ≡ length rows
unfolding items_of
length_items rows = length-map rows item_of

-- item i, of those that there are
pub row_item : (rows : List (List ℕ)) (i : ℕ) (d : PathItem) → i < length rows → item_of (get_or rows i []) ≡ get_or (items_of rows) i d
unfolding items_of
row_item (row ∷ rows) zero d h = refl
row_item (row ∷ rows) (suc i) d h = row_item rows i d (omega (arith, h))
row_item [] i d h = absurd (omega (arith, h))

pub closes_at : (rows : List (List ℕ)) {i : ℕ} → i < length rows → closes (get_or (items_of rows) i Close) ≡ eqb (get_or (get_or rows i []) 0 0) 5
closes_at rows {i} h = ap closes (sym (row_item rows i Close h)) ∙ closes_is (get_or rows i [])

-- the same among the first n, which there are
module _ (rows : List (List ℕ)) {n : ℕ} (h : n ≤ length (items_of rows)) where
  pub first_length : length (take n (items_of rows)) ≡ n
  first_length = length-take-le n (items_of rows) h

  pub first_item : {i : ℕ} (d : PathItem) → i < n → item_of (get_or rows i []) ≡ get_or (take n (items_of rows)) i d
  first_item {i} d l = row_item rows i d (omega (arith, l, h, length_items rows)) ∙ sym (get_or-take n (items_of rows) i d l)
