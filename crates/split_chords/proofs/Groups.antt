-- The sizes of n things in k groups, one group a turn (`shares_next`, `sum_next`, `shares_none`,
-- `shares_all`), their size (`share_small`), and how many there are (`groups_some`). Assumes
-- nothing.
use mathlib.Core.Path.{◌≡◌, sym, ◌∙◌, ap}
use mathlib.Core.Bool.{cond}
use mathlib.Core.List.{[], ◌∷◌}
use Prim.Native.Nat.{ℕ, suc, ◌+◌, ◌-◌, ◌/◌, ◌%◌, ◌≤◌, ◌<◌}
use native.Mathlib.Numerals.{add-one}
use native.Mathlib.Omega.{arith}
use native.Mathlib.Nat.{le-div_iff_mul-le, div-le_self}
use lib.Dec.{ltb}
use Rattle.integers.specs.Lists.{sumℕ}
use Rattle.integers.proofs.Sums.{sumℕ_cons}
use Rattle.split.specs.Splitting.{shares_from, shares, ceil_div}

pub shares_next : (n : ℕ) {k i : ℕ} → i < k → shares_from n k i (k - i) ≡ (n / k + cond (ltb i (n % k)) 1 0) ∷ shares_from n k (i + 1) (k - (i + 1))
unfolding shares_from
shares_next n {k} {i} h =
    ap (shares_from n k i) (left h) ∙ ap (λ j. (n / k + cond (ltb i (n % k)) 1 0) ∷ shares_from n k j (k - (i + 1))) (sym (add-one i))
  where
    left : {k i : ℕ} → i < k → k - i ≡ suc (k - (i + 1))
    left h = omega arith

pub shares_none : (n : ℕ) {k i : ℕ} → k ≤ i → shares_from n k i (k - i) ≡ []
unfolding shares_from
shares_none n {k} {i} h = ap (shares_from n k i) (none h)
  where
    none : {k i : ℕ} → k ≤ i → k - i ≡ 0
    none h = omega arith

-- group i and those after it are group i and those after group i + 1
pub sum_next : (n : ℕ) {k i : ℕ} → i < k → sumℕ (shares_from n k i (k - i)) ≡ n / k + cond (ltb i (n % k)) 1 0 + sumℕ (shares_from n k (i + 1) (k - (i + 1)))
sum_next n {k} {i} h = ap sumℕ (shares_next n h) ∙ sumℕ_cons (n / k + cond (ltb i (n % k)) 1 0) (shares_from n k (i + 1) (k - (i + 1)))

-- all of them
pub shares_all : (n k : ℕ) → shares_from n k 0 (k - 0) ≡ shares n k
shares_all n k = ap (shares_from n k 0) (omega arith)

pub share_small : (n k : ℕ) → n / k ≤ n
share_small n k = div-le_self n k

pub groups_some : {a b : ℕ} → 0 < a → 0 < b → 0 < ceil_div a b
groups_some {a} {b} h k = (le-div_iff_mul-le {k = b} {x = 1} {y = a + (b - 1)} k).1 (omega arith)
