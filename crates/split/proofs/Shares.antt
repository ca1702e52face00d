-- n things in k groups: k groups (`length_shares`), n in all (`sum_shares`), and the number of
-- parts that the shares give (`length_clipped`, `length_fanned`). Assumes nothing.
use mathlib.Core.Path.{◌≡◌, refl, sym, ◌∙◌, ap}
use mathlib.Core.Bool.{Bool, true, false, cond}
use mathlib.Core.List.{List, [], ◌∷◌, ◌++◌}
use Prim.Native.Nat.{ℕ, zero, suc, ◌+◌, ◌*◌, ◌-◌, ◌/◌, ◌%◌, ◌≤◌, ◌<◌, min}
use native.Mathlib.Omega.{arith}
use native.Mathlib.Nat.{div-add-mod', mod-lt}
use borrow.Author.Tests.{ltb-true, ltb-false}
use lib.Dec.{ltb}
use lib.ListN.{length, take, drop}
use Rattle.integers.specs.Lists.{sumℕ}
use Rattle.integers.proofs.Order.{by_test}
use Rattle.integers.proofs.Sums.{sumℕ_cons}
use Rattle.plane.specs.Plane.{Pt}
use Rattle.split.specs.Splitting.{shares_from, shares, clipped, fanned}

length_from : (n k i j : ℕ) → length (shares_from n k i j) ≡ j
unfolding shares_from
length_from n k i zero = refl
length_from n k i (suc j) = ap suc (length_from n k (suc i) j)

pub length_shares : (n k : ℕ) → length (shares n k) ≡ k
length_shares n k = length_from n k 0 k

-- j groups from group i on: j times the quotient, and one for each of them before group n % k
sum_from : (n k i j : ℕ) → sumℕ (shares_from n k i j) ≡ j * (n / k) + min j (n % k - i)
unfolding shares_from sumℕ
sum_from n k i zero = omega arith
sum_from n k i (suc j) =
    by_test (ltb i (n % k))
    (λ e. let h : i < n % k = ltb-true i (n % k) e in rw e (omega (arith, sum_from n k (suc i) j)))
    (λ e. let h : n % k ≤ i = ltb-false i (n % k) e in rw e (omega (arith, sum_from n k (suc i) j)))

pub sum_shares : (n : ℕ) {k : ℕ} → 0 < k → sumℕ (shares n k) ≡ n
sum_shares n {k} h = sum_from n k 0 k ∙ all
  where
    all : k * (n / k) + min k (n % k - 0) ≡ n
    all = omega (arith, div-add-mod' n k, mod-lt n h, swap (n / k) k)
      where
        swap : (a b : ℕ) → b * a ≡ a * b
        swap a b = omega arith

pub length_clipped : (ss : List ℕ) (l : List Pt) → length (clipped ss l) ≡ length ss
unfolding clipped
length_clipped [] l = refl
length_clipped (s ∷ ss) l = ap suc (length_clipped ss _)

pub length_fanned : (ss : List ℕ) (c : Pt) (l : List Pt) → length (fanned ss c l) ≡ length ss
unfolding fanned
length_fanned [] c l = refl
length_fanned (s ∷ ss) c l = ap suc (length_fanned ss c _)
