-- What the loops over a path keep, and one turn of each. In order: items judged (`Judging`),
-- corners written (`Writing`). Assumes nothing.
use mathlib.Core.Path.{◌≡◌, refl, sym, ◌∙◌, ap, subst}
use mathlib.Core.List.{List, ◌∷◌}
use Prim.Native.Nat.{ℕ, ◌+◌, ◌≤◌, ◌<◌}
use native.Mathlib.Numerals.{add-one}
use native.Mathlib.Omega.{arith}
use lib.Dec.{T}
use lib.ListN.{length, drop, get_or, drop_of_length-le}
use lib.Seq.{drop-cons}
use lib.IntN.{ℤ}
use lib.Ieee.Fits.{and_l, and_r}
use Rattle.corners.specs.Corners.{with_corner}
use Rattle.corners.proofs.Corners.{length_put}
use Rattle.path.specs.declared.PathItem.{PathItem}
use Rattle.path.specs.declared.Point.{Point}
use Rattle.path.specs.declared.Frame.{Frame}
use Rattle.path.specs.declared.Judged.{Judged}
use Rattle.path.specs.Path.{every, reach, is_on_grid, corner_of}
use Rattle.path.specs.Judging.{judge_item, judge_from}
use Rattle.path.specs.Writing.{reached_from, write_from}

pub drop_turn : (xs : List PathItem) {i : ℕ} (d : PathItem) → i < length xs → drop i xs ≡ get_or xs i d ∷ drop (i + 1) xs
drop_turn xs {i} d h = drop-cons xs i d h ∙ ap (λ k. get_or xs i d ∷ drop k xs) (sym (add-one i))

-- ---- items judged: i of xs, which lead from `start` to s

pub record Judging (f : Frame) (xs : List PathItem) (start : Judged) (s : Judged) (i : ℕ) : Type 0 where
  pub within : i ≤ length xs
  pub so : judge_from f s (drop i xs) ≡ judge_from f start xs

pub judging_begun : (f : Frame) (xs : List PathItem) (start : Judged) {s : Judged} → s ≡ start → Judging f xs start s 0
judging_begun f xs start e = record { within = omega arith; so = ap (λ s. judge_from f s xs) e }

module _ {f : Frame} {xs : List PathItem} {start : Judged} {s : Judged} {i : ℕ} (J : Judging f xs start s i) where
  pub judging_next : (d : PathItem) {x : PathItem} {t : Judged} → i < length xs → x ≡ get_or xs i d → t ≡ judge_item f s x → Judging f xs start t (i + 1)
  unfolding judge_from
  judging_next d h e q = record { within = omega (arith, h); so = ap (λ t. judge_from f t (drop (i + 1) xs)) (q ∙ ap (judge_item f s) e) ∙ sym (ap (judge_from f s) (drop_turn xs d h)) ∙ J.so }

  pub judging_done : length xs ≤ i → s ≡ judge_from f start xs
  unfolding judge_from
  judging_done h = sym (ap (judge_from f s) (drop_of_length-le xs h)) ∙ J.so

-- ---- corners written: i of xs, which lead from `start` to p and leave `out` of `old`

pub record Writing (f : Frame) (xs : List PathItem) (start : Point) (old : List ℤ) (p : Point) (i : ℕ) (out : List ℤ) : Type 0 where
  pub within : i ≤ length xs
  pub long : length out ≡ length old
  pub placeable : T (every (is_on_grid f) (reached_from p (drop i xs)))
  pub so : write_from f (drop i xs) p i out ≡ write_from f xs start 0 old

pub writing_begun : (f : Frame) (xs : List PathItem) (start : Point) (old : List ℤ) → T (every (is_on_grid f) (reached_from start xs)) → Writing f xs start old start 0 old
writing_begun f xs start old t = record { within = omega arith; long = refl; placeable = t; so = refl }

module _ {f : Frame} {xs : List PathItem} {start : Point} {old : List ℤ} {p : Point} {i : ℕ} {out : List ℤ} (J : Writing f xs start old p i out) where
  module _ (d : PathItem) {x : PathItem} (h : i < length xs) (e : x ≡ get_or xs i d) where
    now : drop i xs ≡ x ∷ drop (i + 1) xs
    now = drop_turn xs d h ∙ ap (λ y. y ∷ drop (i + 1) xs) (sym e)

    both : T (every (is_on_grid f) (reached_from p (x ∷ drop (i + 1) xs)))
    both = subst (λ l. T (every (is_on_grid f) (reached_from p l))) now J.placeable

    pub writing_now : T (is_on_grid f (reach p x))
    unfolding every reached_from
    writing_now = and_l (is_on_grid f (reach p x)) (every (is_on_grid f) (reached_from (reach p x) (drop (i + 1) xs))) both

    pub writing_next : {q : Point} {left : List ℤ} → q ≡ reach p x → left ≡ with_corner out i (corner_of f (reach p x)) → Writing f xs start old q (i + 1) left
    unfolding every reached_from write_from
    writing_next {q} {left} u v = record {
      within = omega (arith, h);
      long = ap length v ∙ length_put out i (corner_of f (reach p x)) ∙ J.long;
      placeable = subst (λ q. T (every (is_on_grid f) (reached_from q (drop (i + 1) xs)))) (sym u) (and_r (is_on_grid f (reach p x)) (every (is_on_grid f) (reached_from (reach p x) (drop (i + 1) xs))) both);
      so = ap (λ y. write_from f (drop (i + 1) xs) y (i + 1) left) u ∙ ap (write_from f (drop (i + 1) xs) (reach p x) (i + 1)) v ∙ sym (ap (λ l. write_from f l p i out) now) ∙ J.so;
    }

  pub writing_done : length xs ≤ i → out ≡ write_from f xs start 0 old
  unfolding write_from
  writing_done h = sym (ap (λ l. write_from f l p i out) (drop_of_length-le xs h)) ∙ J.so
