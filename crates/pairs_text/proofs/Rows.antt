-- Rows of n one after another are numbered from 0 on: number k stands in row k / n at place k % n
-- (`rows_numbered`). Assumes nothing.
use mathlib.Core.Path.{◌≡◌, sym, ◌∙◌, ap, ap₂}
use mathlib.Core.List.{List, [], ◌∷◌, ◌++◌, map, flatten, append_assoc, append-nil, map-append}
use Prim.Native.Nat.{ℕ, zero, suc, ◌+◌, ◌*◌, ◌/◌, ◌%◌, ◌<◌, ◌≤◌}
use native.Mathlib.Nat.{mul-add-div_right, mul-add-mod_self_right, div-eq_of_lt, mod-eq_of_lt}
use native.Mathlib.Omega.{arith}
use Rattle.integers.specs.Lists.{up_to}
use Rattle.integers.proofs.Counting.{up_to-suc}
use Rattle.integers.proofs.Sums.{flatten_append}

module _ {A : Type 0} (f : ℕ → ℕ → A) (n : ℕ) where
  abbrev numbered : ℕ → A
  numbered k = f (k / n) (k % n)

  -- (m * n + j) / n = m and (m * n + j) % n = j
  in_row : (m : ℕ) {j : ℕ} → j < n → numbered (m * n + j) ≡ f m j
  in_row m {j} h =
      let p : 0 < n = omega arith in
      ap₂ f (mul-add-div_right p m j ∙ ap (λ q. m + q) (div-eq_of_lt h) ∙ omega arith) (mul-add-mod_self_right m n j ∙ mod-eq_of_lt h)

  -- the first j of row m
  row_numbered : (m j : ℕ) → j ≤ n → map numbered (up_to (m * n + j)) ≡ map numbered (up_to (m * n)) ++ map (f m) (up_to j)
  unfolding up_to
  row_numbered m zero h =
      let z : m * n + 0 ≡ m * n = omega arith in
      ap (λ k. map numbered (up_to k)) z ∙ sym (append-nil (map numbered (up_to (m * n))))
  row_numbered m (suc j) h =
      let z : m * n + suc j ≡ suc (m * n + j) = omega arith in
      ap (λ k. map numbered (up_to k)) z ∙ ap (map numbered) (up_to-suc (m * n + j)) ∙ map-append numbered (up_to (m * n + j)) ((m * n + j) ∷ [])
      ∙ ap₂ (λ l x. l ++ (x ∷ [])) (row_numbered m j (omega arith)) (in_row m (omega arith))
      ∙ append_assoc (map numbered (up_to (m * n))) (map (f m) (up_to j)) (f m j ∷ [])
      ∙ ap (λ l. map numbered (up_to (m * n)) ++ l) (sym (ap (map (f m)) (up_to-suc j) ∙ map-append (f m) (up_to j) (j ∷ [])))

  abbrev row : ℕ → List A
  row i = map (f i) (up_to n)

  pub rows_numbered : (m : ℕ) → flatten (map row (up_to m)) ≡ map numbered (up_to (m * n))
  unfolding up_to flatten
  rows_numbered zero = let z : 0 ≡ 0 * n = omega arith in ap (λ k. map numbered (up_to k)) z
  rows_numbered (suc m) =
      let z : suc m * n ≡ m * n + n = omega arith in
      ap flatten (map-append row (up_to m) (m ∷ [])) ∙ flatten_append (map row (up_to m)) (row m ∷ []) ∙ ap₂ ◌++◌ (rows_numbered m) (append-nil (row m))
      ∙ sym (ap (λ k. map numbered (up_to k)) z ∙ row_numbered m n (omega arith))
