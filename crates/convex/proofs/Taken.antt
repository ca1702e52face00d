-- Triangles taken and not yet taken: membership (`is_in`), as a count (`is_in_false`,
-- `is_in_true`), and how many numbers below n a list lacks (`untaken`). Assumes nothing.
use mathlib.Core.Path.{◌≡◌, refl, sym, ◌∙◌, ap}
use mathlib.Core.Bool.{Bool, true, false, cond}
use mathlib.Core.List.{List, [], ◌∷◌, ◌++◌, append_assoc}
use Prim.Native.Nat.{ℕ, zero, suc, ◌+◌, ◌≤◌, ◌<◌}
use native.Mathlib.Omega.{arith}
use borrow.Author.Tests.{eqb-true, eqb-false, eq-eqb, ne_eqb}
use lib.Dec.{eqb}
use Rattle.integers.specs.Lists.{count}
use Rattle.integers.proofs.Order.{by_test}
use Rattle.integers.proofs.Tests.{differ}
use Rattle.convex.specs.Joining.{is_in}

-- ---- membership

pub is_in_append : (n : ℕ) (l m : List ℕ) → is_in n (l ++ m) ≡ cond (is_in n l) true (is_in n m)
unfolding is_in
is_in_append n [] m = refl
is_in_append n (k ∷ l) m = either (eqb k n) (is_in n l) (is_in n m) (is_in_append n l m)
  where
    either : (t a b : Bool) {c : Bool} → c ≡ cond a true b → cond t true c ≡ cond (cond t true a) true b
    either true a b e = refl
    either false a b e = e

pub is_in_one : (n k : ℕ) → is_in n (k ∷ []) ≡ eqb k n
unfolding is_in
is_in_one n k = by_test (eqb k n) (λ e. rw e) (λ e. rw e)

pub is_in_false : (n : ℕ) (l : List ℕ) → is_in n l ≡ false → count n l ≡ 0
unfolding is_in count
is_in_false n [] h = refl
is_in_false n (k ∷ l) h = by_test (eqb k n) (λ t. differ (sym h ∙ rw t)) (λ t. rw t (omega (arith, is_in_false n l (rw t at h))))

pub is_in_true : (n : ℕ) (l : List ℕ) → is_in n l ≡ true → 0 < count n l
unfolding is_in count
is_in_true n [] h = differ h
is_in_true n (k ∷ l) h = by_test (eqb k n) (λ t. rw t (omega arith)) (λ t. rw t (omega (arith, is_in_true n l (rw t at h))))

-- ---- the numbers below n that a list lacks

unfoldable pub untaken : ℕ → List ℕ → ℕ
untaken zero l = 0
untaken (suc n) l = cond (is_in n l) 0 1 + untaken n l

pub untaken_le : (n : ℕ) (l : List ℕ) → untaken n l ≤ n
unfolding untaken
untaken_le zero l = omega arith
untaken_le (suc n) l = by_test (is_in n l) (λ e. rw e (omega (arith, untaken_le n l))) (λ e. rw e (omega (arith, untaken_le n l)))

abbrev one : Bool → ℕ
one t = cond t 0 1

-- taking k, of those not taken, takes one of them where it is below n, and none where it is not
module _ (k : ℕ) (l : List ℕ) (h : is_in k l ≡ false) where
  other : {i : ℕ} → (k ≡ i → ⊥) → is_in i (l ++ (k ∷ [])) ≡ is_in i l
  other {i} d = is_in_append i l (k ∷ []) ∙ ap (λ t. cond (is_in i l) true t) (is_in_one i k ∙ ne_eqb k i d) ∙ same (is_in i l)
    where
      same : (t : Bool) → cond t true false ≡ t
      same true = refl
      same false = refl

  self : is_in k (l ++ (k ∷ [])) ≡ true
  self = is_in_append k l (k ∷ []) ∙ ap (λ t. cond t true (is_in k (k ∷ []))) h ∙ is_in_one k k ∙ eq-eqb k k refl

  untaken_past : (n : ℕ) → n ≤ k → untaken n (l ++ (k ∷ [])) ≡ untaken n l
  unfolding untaken
  untaken_past zero g = refl
  untaken_past (suc n) g = λ i. one (other {i = n} (λ e. omega (arith, e)) i) + untaken_past n (omega arith) i

  pub untaken_take : (n : ℕ) → k < n → untaken n (l ++ (k ∷ [])) + 1 ≡ untaken n l
  unfolding untaken
  untaken_take zero g = absurd (omega arith)
  untaken_take (suc n) g =
      by_test (eqb k n)
      (λ e. at (eqb-true k n e))
      (λ e. let d : k ≡ n → ⊥ = eqb-false k n e in below d (untaken_take n (omega (arith, d))))
    where
      at : k ≡ n → one (is_in n (l ++ (k ∷ []))) + untaken n (l ++ (k ∷ [])) + 1 ≡ one (is_in n l) + untaken n l
      at e =
          let p : is_in n (l ++ (k ∷ [])) ≡ true = ap (λ i. is_in i (l ++ (k ∷ []))) (sym e) ∙ self in
          let q : is_in n l ≡ false = ap (λ i. is_in i l) (sym e) ∙ h in
          rw (p, q) (omega (arith, untaken_past n (omega (arith, e))))

      below : (k ≡ n → ⊥) → untaken n (l ++ (k ∷ [])) + 1 ≡ untaken n l → one (is_in n (l ++ (k ∷ []))) + untaken n (l ++ (k ∷ [])) + 1 ≡ one (is_in n l) + untaken n l
      below d u = rw (other d) (omega (arith, u))

  pub untaken_out : {n : ℕ} → n ≤ k → untaken n (l ++ (k ∷ [])) ≡ untaken n l
  untaken_out {n} g = untaken_past n g
