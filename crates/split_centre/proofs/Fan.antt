-- The sums over a contour seen from its first corner: the edges at that corner add nothing, so the
-- wedges are enough (`sum_fan`); the sums so far (`Sofar`) at the start, after a turn, at the end;
-- that there is room for one wedge more (`sofar_room`). Assumes nothing.
use mathlib.Core.Path.{◌≡◌, refl, sym, ◌∙◌, ap, ap₂, subst}
use mathlib.Core.Bool.{true, false}
use mathlib.Core.List.{List, [], ◌∷◌, ◌++◌, map, map-append}
use Prim.Native.Nat.{ℕ, suc, ◌+◌, ◌-◌, ◌^◌, ◌≤◌, ◌<◌}
use native.Mathlib.Omega.{arith}
use lib.ListN.{length, get_or, take, drop, length-map, length-drop, take-append-drop, get_or-map}
use lib.Seq.{take-suc, take-length, drop-cons, get_or-drop}
use lib.IntN.{ℤ, pos, nat_abs, ◌+ℤ◌, ◌-ℤ◌, ◌*ℤ◌}
use lib.Signed.{◌≤ℤ◌}
use Rattle.integers.specs.Lists.{All, sumℤ, links, neighbours}
use Rattle.integers.proofs.Ring.{con, ◌:+◌, ◌:*◌, ◌:≡◌, int, ring}
use Rattle.integers.proofs.Order.{zarith, add_parts}
use Rattle.integers.proofs.Sizes.{abs_parts}
use Rattle.integers.proofs.Sums.{sum_cons, sum_append, sum_snoc}
use Rattle.integers.proofs.Elements.{all_append}
use Rattle.integers.proofs.Neighbours.{neighbours_cons, links_cons, get_or_links, length_links}
use Rattle.plane.specs.Plane.{Pt, O, ◌-ᵖ◌, on_grid, cross}
use Rattle.plane.specs.Contour.{last_of, contour_area}
use Rattle.plane.specs.Machine.{Coordinate}
use Rattle.plane.proofs.Sides.{sub_self, cross_zero_l, cross_zero_r}
use Rattle.plane.proofs.Edges.{links_last}
use Rattle.plane.proofs.Size.{on_grid_both}
use Rattle.wide.specs.declared.SignedProduct.{SignedProduct}
use Rattle.wide.specs.Words.{value}
use Rattle.wide.proofs.Signs.{high_below}
use Rattle.split.specs.Splitting.{moment_x, moment_y, seen_from}
use Rattle.split_centre.specs.declared.Sums.{Sums}
use Rattle.split_centre.specs.Centre.{Summable, Roomy, Added, Summed}
use Rattle.split_centre.proofs.Range.{area_of, moment_of, Wedges, area_least, moment_size, area_seen, edges_between}

-- the wedges at c, of the corners from the second on, seen from c
abbrev pub wedges : Pt → List Pt → List (Pt × Pt)
wedges c l = links (get_or l 1 O -ᵖ c) (seen_from c (drop 2 l))

-- ---- the edges at the first corner add nothing

neighbours_fan : (a b : Pt) (l : List Pt) → neighbours (a ∷ b ∷ l) ≡ (a, b) ∷ (links b l ++ ((last_of b l, a) ∷ []))
neighbours_fan a b l = neighbours_cons a (b ∷ l) ∙ links_cons a b (l ++ (a ∷ [])) ∙ ap (λ r. (a, b) ∷ r) (links_last b l a)

module _ (g : Pt × Pt → ℤ) (left : (v : Pt) → g (O, v) ≡ pos 0) (right : (v : Pt) → g (v, O) ≡ pos 0) where
  sum_fan : {a : Pt} (b : Pt) (l : List Pt) → a ≡ O → sumℤ (map g (neighbours (a ∷ b ∷ l))) ≡ sumℤ (map g (links b l))
  sum_fan {a} b l e =
      ap (λ r. sumℤ (map g r)) (neighbours_fan a b l) ∙ sum_cons (g (a, b)) (map g (links b l ++ ((last_of b l, a) ∷ [])))
      ∙ ap (λ s. g (a, b) +ℤ sumℤ s) (map-append g (links b l) ((last_of b l, a) ∷ [])) ∙ ap (λ s. g (a, b) +ℤ s) (sum_snoc (map g (links b l)) (g (last_of b l, a)))
      ∙ (λ i. g (e i, b) +ℤ (sumℤ (map g (links b l)) +ℤ g (last_of b l, e i)))
      ∙ (λ i. left b i +ℤ (sumℤ (map g (links b l)) +ℤ right (last_of b l) i)) ∙ none (sumℤ (map g (links b l)))
    where
      none : (k : ℤ) → pos 0 +ℤ (k +ℤ pos 0) ≡ k
      none = ring (int ∷ []) (λ k. con (pos 0) :+ (k :+ con (pos 0)) :≡ k) tt

all_fan : (P : Pt × Pt → Type 0) (a b : Pt) (l : List Pt) → All P (neighbours (a ∷ b ∷ l)) → All P (links b l)
all_fan P a b l h = ((all_append P (links b l) ((last_of b l, a) ∷ [])).0 (subst (All P) (neighbours_fan a b l) h).1).0

-- no wedge at the first corner
no_cross : (k : ℤ) {c : ℤ} → c ≡ pos 0 → k *ℤ c ≡ pos 0
no_cross k e = ap (λ z. k *ℤ z) e ∙ zero k
  where
    zero : (k : ℤ) → k *ℤ pos 0 ≡ pos 0
    zero = ring (int ∷ []) (λ k. k :* con (pos 0) :≡ con (pos 0)) tt

module _ (c b : Pt) (l : List Pt) where
  abbrev seen : List (Pt × Pt)
  seen = neighbours (seen_from c (c ∷ b ∷ l))

  pub area_fan : area_of seen ≡ area_of (wedges c (c ∷ b ∷ l))
  area_fan = sum_fan (λ e. cross e.0 e.1) cross_zero_l cross_zero_r (b -ᵖ c) (seen_from c l) (sub_self c)

  pub moment_fan : (f : Pt → ℤ) → moment_of f seen ≡ moment_of f (wedges c (c ∷ b ∷ l))
  moment_fan f =
      sum_fan (λ e. (f e.0 +ℤ f e.1) *ℤ cross e.0 e.1) (λ v. no_cross (f O +ℤ f v) (cross_zero_l v))
      (λ v. no_cross (f v +ℤ f O) (cross_zero_r v)) (b -ᵖ c) (seen_from c l) (sub_self c)

-- ---- the wedges, by index

length_wedges : (c : Pt) (l : List Pt) → length (wedges c l) ≡ length l - 2
length_wedges c l = length_links (get_or l 1 O -ᵖ c) (seen_from c (drop 2 l)) ∙ length-map (drop 2 l) (λ p. p -ᵖ c) ∙ length-drop 2 l

wedge_at : (c : Pt) (l : List Pt) {i : ℕ} → 2 ≤ i → i < length l → get_or (wedges c l) (i - 2) (O, O) ≡ (get_or l (i - 1) O -ᵖ c, get_or l i O -ᵖ c)
wedge_at c l {i} h k =
    get_or_links (get_or l 1 O -ᵖ c) (seen_from c (drop 2 l)) (i - 2) (O -ᵖ c) (O, O) (omega (arith, length-map (drop 2 l) (λ p. p -ᵖ c), length-drop 2 l))
    ∙ ap₂ {C = Pt × Pt} (λ a b. (a, b)) (behind ∙ ap (λ n. get_or l n O -ᵖ c) (omega arith)) (here ∙ ap (λ n. get_or l n O -ᵖ c) (omega arith))
  where
    behind : get_or (seen_from c (get_or l 1 O ∷ drop 2 l)) (i - 2) (O -ᵖ c) ≡ get_or l (1 + (i - 2)) O -ᵖ c
    behind =
        get_or-map (λ p. p -ᵖ c) (get_or l 1 O ∷ drop 2 l) (i - 2) O
        ∙ ap (λ p. p -ᵖ c) (ap (λ r. get_or r (i - 2) O) (sym (drop-cons l 1 O (omega arith))) ∙ get_or-drop 1 l (i - 2) O)

    here : get_or (seen_from c (drop 2 l)) (i - 2) (O -ᵖ c) ≡ get_or l (2 + (i - 2)) O -ᵖ c
    here = get_or-map (λ p. p -ᵖ c) (drop 2 l) (i - 2) O ∙ ap (λ p. p -ᵖ c) (get_or-drop 2 l (i - 2) O)

-- ---- the sums so far, of the first k wedges

pub record Sofar (c : Pt) (l : List Pt) (k : ℕ) (s : Sums) : Type 0 where
  pub area : s.area ≡ area_of (take k (wedges c l))
  pub x : value s.x ≡ moment_of (λ p. p.x) (take k (wedges c l))
  pub y : value s.y ≡ moment_of (λ p. p.y) (take k (wedges c l))

abbrev pub no_sums : Sums
no_sums = record {
  area = pos 0;
  x = record { negative = false; words = record { high = 0; low = 0 } };
  y = record { negative = false; words = record { high = 0; low = 0 } };
}

pub sofar_start : (c : Pt) (l : List Pt) → Sofar c l 0 no_sums
unfolding sumℤ
sofar_start c l = record { area = refl; x = refl; y = refl }

sum_take : {A : Type 0} (g : A → ℤ) (l : List A) {k : ℕ} (d : A) {e : A} → k < length l → get_or l k d ≡ e → sumℤ (map g (take (suc k) l)) ≡ sumℤ (map g (take k l)) +ℤ g e
sum_take g l {k} d {e} h p =
    ap (λ r. sumℤ (map g r)) (take-suc l k d h ∙ ap (λ z. take k l ++ (z ∷ [])) p) ∙ ap sumℤ (map-append g (take k l) (e ∷ [])) ∙ sum_snoc (map g (take k l)) (g e)

module _ (c : Pt) (l : List Pt) {i : ℕ} (h : 2 ≤ i) (k : i < length l) where
  -- one wedge more
  more : (g : Pt × Pt → ℤ) → sumℤ (map g (take (suc (i - 2)) (wedges c l))) ≡ sumℤ (map g (take (i - 2) (wedges c l))) +ℤ g (get_or l (i - 1) O -ᵖ c, get_or l i O -ᵖ c)
  more g = sum_take g (wedges c l) (O, O) (omega (arith, length_wedges c l)) (wedge_at c l h k)

  pub sofar_turn : {s r : Sums} → Sofar c l (i - 2) s → Added s (get_or l (i - 1) O -ᵖ c) (get_or l i O -ᵖ c) r → Sofar c l (i + 1 - 2) r
  sofar_turn {s} {r} p q =
      subst (λ m. Sofar c l m r) (next h) (record {
        area = q.area ∙ ap (λ z. z +ℤ cross (get_or l (i - 1) O -ᵖ c) (get_or l i O -ᵖ c)) p.area ∙ sym (more (λ e. cross e.0 e.1));
        x = q.x ∙ ap (λ z. z +ℤ term (λ p. p.x)) p.x ∙ sym (more (λ e. (e.0.x +ℤ e.1.x) *ℤ cross e.0 e.1));
        y = q.y ∙ ap (λ z. z +ℤ term (λ p. p.y)) p.y ∙ sym (more (λ e. (e.0.y +ℤ e.1.y) *ℤ cross e.0 e.1));
      })
    where
      term : (Pt → ℤ) → ℤ
      term f = (f (get_or l (i - 1) O -ᵖ c) +ℤ f (get_or l i O -ᵖ c)) *ℤ cross (get_or l (i - 1) O -ᵖ c) (get_or l i O -ᵖ c)

      next : {i : ℕ} → 2 ≤ i → suc (i - 2) ≡ i + 1 - 2
      next h = omega arith

-- ---- what comes of a contour whose sums fit

all_take : {A : Type 0} (P : A → Type 0) (k : ℕ) (l : List A) → All P l → All P (take k l)
all_take P k l h = ((all_append P (take k l) (drop k l)).0 (subst (All P) (sym (take-append-drop k l)) h)).0

-- A of the first k is at most A of all
area_take : (k : ℕ) (m : List (Pt × Pt)) → Wedges m → area_of (take k m) ≤ℤ area_of m
area_take k m w =
    of (area_of (take k m)) (sym whole) (area_least (drop k m) ((all_append _ (take k m) (drop k m)).0 (subst Wedges (sym (take-append-drop k m)) w)).1)
  where
    whole : area_of m ≡ area_of (take k m) +ℤ area_of (drop k m)
    whole = ap area_of (sym (take-append-drop k m)) ∙ ap sumℤ (map-append (λ e. cross e.0 e.1) (take k m) (drop k m)) ∙ sum_append (map (λ e. cross e.0 e.1) (take k m)) (map (λ e. cross e.0 e.1) (drop k m))

    of : (a : ℤ) {b n : ℤ} → a +ℤ b ≡ n → pos 0 ≤ℤ b → a ≤ℤ n
    of a {b} e h = omega (zarith, e, add_parts a b)

module _ {c b : Pt} {l : List Pt} (h : Summable (c ∷ b ∷ l)) where
  wedges_left : Wedges (wedges c (c ∷ b ∷ l))
  wedges_left = all_fan _ (c -ᵖ c) (b -ᵖ c) (seen_from c l) h.wedges

  area_is : area_of (wedges c (c ∷ b ∷ l)) ≡ contour_area (c ∷ b ∷ l)
  unfolding contour_area
  area_is = sym (area_fan c b l) ∙ area_seen c (c ∷ b ∷ l)

  area_below : (k : ℕ) → nat_abs (area_of (take k (wedges c (c ∷ b ∷ l)))) < 2 ^ 63
  area_below k =
      of (area_least (take k (wedges c (c ∷ b ∷ l))) (all_take _ k (wedges c (c ∷ b ∷ l)) wedges_left))
      (subst (λ z. area_of (take k (wedges c (c ∷ b ∷ l))) ≤ℤ z) area_is (area_take k (wedges c (c ∷ b ∷ l)) wedges_left)) h.below
    where
      of : {a n : ℤ} → pos 0 ≤ℤ a → a ≤ℤ n → nat_abs n < 2 ^ 63 → nat_abs a < 2 ^ 63
      of {a} {n} g k m = omega (zarith, abs_parts a, abs_parts n)

  module _ {f : Pt → ℤ} (minus : (a b : Pt) → f (a -ᵖ b) ≡ f a -ℤ f b) (small : (p : Pt) → on_grid p ≡ true → Coordinate (f p)) where
    moment_below : (k : ℕ) → nat_abs (moment_of f (take k (wedges c (c ∷ b ∷ l)))) < 2 ^ 96
    moment_below k =
        omega (
          arith,
          area_below k,
          moment_size f (small c h.grid.0) (take k (wedges c (c ∷ b ∷ l))) (all_take _ k (wedges c (c ∷ b ∷ l)) wedges_left)
              (all_take _ k (wedges c (c ∷ b ∷ l)) (all_fan _ (c -ᵖ c) (b -ᵖ c) (seen_from c l) (edges_between minus small h))),
        )

-- there is room for one wedge more
pub sofar_room : {l : List Pt} → Summable l → {i : ℕ} → 2 ≤ i → i < length l → {s : Sums} → Sofar (get_or l 0 O) l (i - 2) s → Roomy s (cross (get_or l (i - 1) O -ᵖ get_or l 0 O) (get_or l i O -ᵖ get_or l 0 O))
sofar_room {l = []} h g k p = absurd (omega arith)
sofar_room {l = c ∷ []} h g k p = absurd (omega arith)
sofar_room {l = c ∷ b ∷ l} h {i} g k {s} p = record {
  area =
      subst (λ z. nat_abs z < 2 ^ 63) (more c (c ∷ b ∷ l) g k (λ e. cross e.0 e.1) ∙ ap (λ z. z +ℤ cross (get_or (c ∷ b ∷ l) (i - 1) O -ᵖ c) (get_or (c ∷ b ∷ l) i O -ᵖ c)) (sym p.area)) (area_below h (suc (i - 2)));
  x = high s.x p.x (moment_below h (λ a b. refl) (λ p g. (on_grid_both p g).0) (i - 2));
  y = high s.y p.y (moment_below h (λ a b. refl) (λ p g. (on_grid_both p g).1) (i - 2));
}
  where
    high : (v : SignedProduct) {m : ℤ} → value v ≡ m → nat_abs m < 2 ^ 96 → v.words.high < 2 ^ 62
    high v e g = omega (arith, high_below v (subst (λ z. nat_abs z < 2 ^ 96) (sym e) g))

-- all wedges
pub sofar_end : {l : List Pt} → 2 ≤ length l → {s : Sums} → Sofar (get_or l 0 O) l (length l - 2) s → Summed l s
unfolding contour_area moment_x moment_y
sofar_end {l = []} h p = absurd (omega arith)
sofar_end {l = c ∷ []} h p = absurd (omega arith)
sofar_end {l = c ∷ b ∷ l} h p = record {
  area = p.area ∙ ap area_of all ∙ sym (area_fan c b l);
  x = p.x ∙ ap (moment_of (λ p. p.x)) all ∙ sym (moment_fan c b l (λ p. p.x));
  y = p.y ∙ ap (moment_of (λ p. p.y)) all ∙ sym (moment_fan c b l (λ p. p.y));
}
  where
    all : take (length (c ∷ b ∷ l) - 2) (wedges c (c ∷ b ∷ l)) ≡ wedges c (c ∷ b ∷ l)
    all = ap (λ n. take n (wedges c (c ∷ b ∷ l))) (sym (length_wedges c (c ∷ b ∷ l))) ∙ take-length (wedges c (c ∷ b ∷ l))
