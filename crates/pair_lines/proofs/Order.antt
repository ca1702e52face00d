-- The lines of all pairs are the lines of left part 0 with each right part, then those of left part
-- 1, and so on (`lines_in_order`). Assumes nothing.
use mathlib.Core.Path.{◌≡◌, refl, sym, ◌∙◌, ap, ap₂}
use mathlib.Core.Bool.{Bool}
use mathlib.Core.List.{List, [], ◌∷◌, ◌++◌, map, flatten, append_assoc, append-nil, map-append}
use Prim.Native.Nat.{ℕ, zero, suc, ◌+◌, ◌≤◌, ◌<◌}
use native.Mathlib.Omega.{arith}
use lib.ListN.{length, get_or, take, length-map, get_or-map}
use lib.Seq.{take-suc, take_all, length-take-le}
use Rattle.integers.specs.Lists.{up_to}
use Rattle.integers.proofs.Sums.{flatten_append}
use Rattle.plane.specs.Plane.{Pt}
use Rattle.pair.specs.Pair.{pair_contour}
use Rattle.pair_lines.specs.Lines.{pair_line, row_lines, pair_lines_from, pair_lines, LinesInOrder}

-- texts of a list's elements, numbered
module _ {A : Type 0} (text : ℕ → A → List ℕ) where
  abbrev numbered : ℕ → List A → List ℕ
  numbered i [] = []
  numbered i (x ∷ l) = text i x ++ numbered (suc i) l

  -- one more at the end
  numbered_snoc : (i : ℕ) (l : List A) (x : A) → numbered i (l ++ (x ∷ [])) ≡ numbered i l ++ text (i + length l) x
  numbered_snoc i [] x = append-nil (text i x) ∙ ap (λ n. text n x) (omega arith)
  numbered_snoc i (y ∷ l) x =
      ap (λ t. text i y ++ t) (numbered_snoc (suc i) l x ∙ ap (λ n. numbered (suc i) l ++ text n x) (omega arith)) ∙ sym (append_assoc (text i y) (numbered (suc i) l) (text (i + length (y ∷ l)) x))

  -- the first n, by their numbers
  numbered_take : (l : List A) (d : A) (n : ℕ) → n ≤ length l → numbered 0 (take n l) ≡ flatten (map (λ k. text k (get_or l k d)) (up_to n))
  unfolding up_to flatten
  numbered_take l d zero h = refl
  numbered_take l d (suc n) h =
      let f : ℕ → List ℕ = λ k. text k (get_or l k d) in
      ap (numbered 0) (take-suc l n d (omega arith)) ∙ numbered_snoc 0 (take n l) (get_or l n d)
      ∙ ap₂ (λ t k. t ++ text k (get_or l n d)) (numbered_take l d n (omega arith)) (omega (arith, length-take-le n l (omega arith)))
      ∙ sym (ap flatten (map-append f (up_to n) (n ∷ [])) ∙ flatten_append (map f (up_to n)) (f n ∷ []) ∙ ap (λ t. flatten (map f (up_to n)) ++ t) (append-nil (f n)))

  numbered_all : (l : List A) (d : A) → numbered 0 l ≡ flatten (map (λ k. text k (get_or l k d)) (up_to (length l)))
  numbered_all l d = ap (numbered 0) (sym (take_all (length l) l (omega arith))) ∙ numbered_take l d (length l) (omega arith)

row_numbered : (i j : ℕ) (ps : List (List Pt)) → row_lines i j ps ≡ numbered (pair_line i) j ps
unfolding row_lines
row_numbered i j [] = refl
row_numbered i j (p ∷ ps) = ap (λ t. pair_line i j p ++ t) (row_numbered i (suc j) ps)

module _ (reflected : Bool) (rs : List (List Pt)) where
  -- left part i, which is a, with each right part
  abbrev row : ℕ → List Pt → List ℕ
  row i a = flatten (map (λ j. pair_line i j (pair_contour reflected a (get_or rs j []))) (up_to (length rs)))

  row_in_order : (i : ℕ) (a : List Pt) → row_lines i 0 (map (pair_contour reflected a) rs) ≡ row i a
  row_in_order i a =
      row_numbered i 0 (map (pair_contour reflected a) rs) ∙ numbered_all (pair_line i) (map (pair_contour reflected a) rs) (pair_contour reflected a [])
      ∙ (λ t. flatten (map (λ j. pair_line i j (get_or-map (pair_contour reflected a) rs j [] t)) (up_to (length-map rs (pair_contour reflected a) t))))

  all_numbered : (i : ℕ) (ls : List (List Pt)) → pair_lines_from reflected i ls rs ≡ numbered row i ls
  unfolding pair_lines_from
  all_numbered i [] = refl
  all_numbered i (a ∷ ls) = ap₂ ◌++◌ (row_in_order i a) (all_numbered (suc i) ls)

pub lines_in_order : LinesInOrder
unfolding pair_lines
lines_in_order reflected ls rs = all_numbered reflected rs 0 ls ∙ numbered_all (row reflected rs) ls []
