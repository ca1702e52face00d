-- The fields, by the tests that the code makes. In order: words; a number or none; splits; the
-- comma of a point; points. Assumes nothing.
use mathlib.Core.Path.{◌≡◌, refl, sym, ◌∙◌, ap, subst}
use mathlib.Core.Bool.{Bool, true, false, cond}
use mathlib.Core.List.{List, [], ◌∷◌}
use Prim.Native.Nat.{ℕ, ◌+◌, ◌-◌, ◌≤◌, ◌<◌}
use native.Mathlib.Omega.{arith}
use borrow.Author.Tests.{eq-eqb, ne_eqb, lt-ltb, le-ltb, eqb-true}
use lib.Dec.{eqb}
use lib.Pointwise.{pointwise}
use lib.ListN.{length, get_or, take, drop}
use Rattle.integers.specs.Word.{unsigned}
use Rattle.integers.proofs.Order.{by_test}
use Rattle.std.specs.Prelude.{Option, Some, None, is_some, option_to_list, unwrap_or, IfSome}
use Rattle.field_numbers.specs.Numbers.{told, number_read, is_coordinate, coordinate_of, coordinate_read}
use Rattle.mesh_fields.specs.Put.{Put}
use Rattle.mesh_fields.specs.Entries.{same_bytes, is_none, is_ear, is_fan, is_centroid, is_number_or_none, number_or_none, is_split, split_of, comma_from, comma_of, x_text, y_text, is_point, point_read, point_words}
use Rattle.mesh_fields.proofs.Puts.{put_told, put_then, put_stops}

true_false : true ≡ false → ⊥
true_false q = let z : ◌≡◌ {A = ℕ} 0 1 = ap (λ t. cond t 0 1) q in omega arith

-- ---- words

-- std's equality of texts is `same_bytes`
pub pointwise_same : (l m : List ℕ) → pointwise eqb l m ≡ same_bytes l m
unfolding same_bytes
pointwise_same [] [] = refl
pointwise_same [] (b ∷ m) = refl
pointwise_same (a ∷ l) [] = refl
pointwise_same (a ∷ l) (b ∷ m) =
    by_test (eqb a b)
    (λ q. rw (q, pointwise_same l m))
    (λ q. rw q)

-- ---- a number or none

module _ (l : List ℕ) {r : Bool} (e : r ≡ is_none l) where
  pub no_number : r ≡ true → Some 4294967295 ≡ told (is_number_or_none l) (number_or_none l)
  unfolding is_number_or_none number_or_none
  no_number h = rw (sym e ∙ h)

  pub numbered : r ≡ false → number_read 4294967295 l ≡ told (is_number_or_none l) (number_or_none l)
  unfolding is_number_or_none number_or_none
  numbered h = rw (sym e ∙ h)

-- ---- splits

module _ (l : List ℕ) {a : Bool} (e : a ≡ is_ear l) where
  pub ear : a ≡ true → Some 0 ≡ told (is_split l) (split_of l)
  unfolding is_split split_of
  ear h = rw (sym e ∙ h)

  module _ (f : a ≡ false) {b : Bool} (g : b ≡ is_fan l) where
    pub fan : b ≡ true → Some 1 ≡ told (is_split l) (split_of l)
    unfolding is_split split_of
    fan h = rw (sym e ∙ f, sym g ∙ h)

    module _ (h : b ≡ false) {c : Bool} (i : c ≡ is_centroid l) where
      pub centroid : c ≡ true → Some 2 ≡ told (is_split l) (split_of l)
      unfolding is_split split_of
      centroid j = rw (sym e ∙ f, sym g ∙ h, sym i ∙ j)

      pub no_split : c ≡ false → None ≡ told (is_split l) (split_of l)
      unfolding is_split split_of
      no_split j = rw (sym e ∙ f, sym g ∙ h, sym i ∙ j)

-- ---- the comma

-- what the code tells of it
abbrev pub Comma : List ℕ → Option ℕ → Type 0
Comma l r = (unwrap_or r 0 ≡ comma_of l) × IfSome r (λ c. (1 ≤ c) × (c + 1 < length l))

pub too_short : (l : List ℕ) → length l < 2 → Comma l None
unfolding comma_of
too_short [] h = (refl, tt)
too_short (a ∷ []) h =
    by_test (eqb a 40)
    (λ t. (rw (t, ne_eqb a 41 (λ q. let n = eqb-true a 40 t in omega arith)), tt))
    (λ t. (rw t, tt))
too_short (a ∷ b ∷ l) h = absurd (omega arith)

module _ (l : List ℕ) where
  pub not_opened : (get_or l 0 0 ≡ 40 → ⊥) → Comma l None
  unfolding comma_of
  not_opened h = (rw (ne_eqb (get_or l 0 0) 40 h), tt)

  pub not_closed : (get_or l (length l - 1) 0 ≡ 41 → ⊥) → Comma l None
  unfolding comma_of
  not_closed h =
      by_test (eqb (get_or l 0 0) 40)
      (λ t. (rw (t, ne_eqb (get_or l (length l - 1) 0) 41 h), tt))
      (λ t. (rw t, tt))

  module _ (o : get_or l 0 0 ≡ 40) (d : get_or l (length l - 1) 0 ≡ 41) {c : ℕ} (e : c ≡ comma_from l) where
    pub no_comma : length l ≤ c + 1 → Comma l None
    unfolding comma_of
    no_comma h = (rw (eq-eqb (get_or l 0 0) 40 o, eq-eqb (get_or l (length l - 1) 0) 41 d, le-ltb (comma_from l) (length l - 1) (omega arith)), tt)

    pub comma_at : c + 1 < length l → Comma l (Some c)
    unfolding comma_of
    comma_at h =
        let n : comma_from l < length l - 1 = omega arith in
        (e ∙ rw (eq-eqb (get_or l 0 0) 40 o, eq-eqb (get_or l (length l - 1) 0) 41 d, lt-ltb (comma_from l) (length l - 1) n), (omega arith, omega arith))

-- where there is one it stands between the first byte and the last
pub between : (l : List ℕ) {r : Option ℕ} {c : ℕ} → Comma l r → r ≡ Some c → (c ≡ comma_of l) × (1 ≤ c) × (c + 1 < length l)
between l {r} {c} k e = let n : Comma l (Some c) = subst (Comma l) e k in (n.0, n.1.0, n.1.1)

pub no_comma_of : (l : List ℕ) {r : Option ℕ} → Comma l r → r ≡ None → 0 ≡ comma_of l
no_comma_of l k e = let n : Comma l None = subst (Comma l) e k in n.0

-- ---- points

pub no_point : (l : List ℕ) → 0 ≡ comma_of l → is_point l ≡ false
unfolding is_point
no_point l h = rw (eq-eqb (comma_of l) 0 (sym h))

module _ (l : List ℕ) {c : ℕ} (e : (c ≡ comma_of l) × (1 ≤ c) × (c + 1 < length l)) where
  point_test : is_point l ≡ cond (is_coordinate (x_text l)) (is_coordinate (y_text l)) false
  unfolding is_point
  point_test = rw (ne_eqb (comma_of l) 0 (λ z. omega (arith, e.0, e.1)))

  pub x_read : coordinate_read (take (c - 1) (drop 1 l)) ≡ told (is_coordinate (x_text l)) (unsigned (coordinate_of (x_text l)))
  x_read = ap (λ k. coordinate_read (take (k - 1) (drop 1 l))) e.0

  pub y_read : coordinate_read (take (length l - 1 - (c + 1)) (drop (c + 1) l)) ≡ told (is_coordinate (y_text l)) (unsigned (coordinate_of (y_text l)))
  y_read = ap (λ k. coordinate_read (take (length l - 1 - (k + 1)) (drop (k + 1) l))) e.0

  module _ {n : Option ℕ} {at : ℕ} {a b : List ℕ} {r : Bool} (x : n ≡ coordinate_read (take (c - 1) (drop 1 l))) (p : Put (is_some n) (option_to_list n) at a b r) where
    pub put_no_x : r ≡ false → Put (is_point l) (point_words (point_read l)) at a b r
    put_no_x f = rw point_test (put_stops (put_told (is_coordinate (x_text l)) (unsigned (coordinate_of (x_text l))) (x ∙ x_read) p) (is_coordinate (y_text l)) (unsigned (coordinate_of (y_text l)) ∷ []) f)

    pub put_both : {m : Option ℕ} {b' : List ℕ} {s : Bool} → r ≡ true → m ≡ coordinate_read (take (length l - 1 - (c + 1)) (drop (c + 1) l))
        → Put (is_some m) (option_to_list m) (at + 1) b b' s → Put (is_point l) (point_words (point_read l)) at a b' s
    put_both f y q = rw point_test (put_then (put_told (is_coordinate (x_text l)) (unsigned (coordinate_of (x_text l))) (x ∙ x_read) p) f refl (put_told (is_coordinate (y_text l)) (unsigned (coordinate_of (y_text l))) (y ∙ y_read) q))
