-- The chain of two walks that lie in the buffers with their numbers (`Lies`): its corners are the
-- walks merged, and its places are theirs (`chain_merged`). Assumes nothing.
use mathlib.Core.Path.{◌≡◌, sym, ◌∙◌, ap, ap₂, subst}
use mathlib.Core.List.{List, ◌∷◌}
use Prim.Native.Nat.{ℕ, zero, suc, ◌+◌, ◌≤◌, ◌<◌}
use native.Mathlib.Omega.{arith}
use borrow.Author.Tests.{ltb-true, ltb-false}
use lib.Dec.{ltb}
use lib.ListN.{length, get_or, drop}
use lib.IntN.{ℤ}
use Rattle.integers.specs.Lists.{All}
use Rattle.integers.proofs.Order.{by_test}
use Rattle.plane.specs.Plane.{Pt, ◌+ᵖ◌}
use Rattle.points.specs.Points.{corner_in}
use Rattle.pair_points.specs.Points.{merged_of, Turning, nth_point}
use Rattle.direction_keys.specs.Marks.{left_number, right_number, step_over, Close}
use Rattle.direction_keys.proofs.Steps.{keyed_step, keyed_end}
use Rattle.pair_chains.specs.Chains.{chain, along, contour_from}
use Rattle.pair_chains.proofs.Chains.{chain_next, chain_end}

-- the walk a lies from place f on, each point with its number
pub record Lies (number_of : List Pt → ℕ → ℕ) (points : List (List ℤ)) (numbers : List ℕ) (f : ℕ) (a : List Pt) : Type 0 where
  pub inside : f + length a ≤ length points
  pub corner : (i : ℕ) → i < length a → corner_in points (f + i) ≡ nth_point a i
  pub number : (i : ℕ) → i < length a → get_or numbers (f + i) 0 ≡ number_of a i

-- from places i and j of the walks on: the corners are the rest merged, and the places are among
-- those of the buffer
pub record MergedFrom (points : List (List ℤ)) (numbers : List ℕ) (end f g : ℕ) (a b : List Pt) (i j : ℕ) : Type 0 where
  pub corners : contour_from points numbers end (f + i) (g + j) ≡ merged_of (drop i a) (drop j b)
  pub inside : All (λ p. (p.0 < length points) × (p.1 < length points)) (chain numbers end (f + i) (g + j))

module _ (points : List (List ℤ)) (numbers : List ℕ) (f g end : ℕ) (a b : List Pt) (la : Lies left_number points numbers f a) (lb : Lies right_number points numbers g b)
    (t : Turning a) (u : Turning b) (z : Close a b) (e : end + 2 ≡ f + g + (length a + length b)) where
  abbrev Rest : ℕ → ℕ → Type 0
  Rest i j = MergedFrom points numbers end f g a b i j

  module _ (i j : ℕ) (hi : i < length a) (hj : j < length b) where
    -- the last two points
    at_end : length a + length b ≤ i + j + 2 → Rest i j
    at_end h =
        let c = chain_end numbers end (f + i) (g + j) (omega (arith, e)) in
        record {
          corners = ap (along points) c ∙ sym (keyed_end a b t u z i j (omega arith) (omega arith));
          inside = subst (All (λ p. (p.0 < length points) × (p.1 < length points))) (sym c) tt;
        }

    left_on : (f + i) + step_over (get_or numbers (f + i) 0) (get_or numbers (g + j) 0) ≡ f + (i + step_over (left_number a i) (right_number b j))
    left_on = ap₂ (λ x y. (f + i) + step_over x y) (la.number i hi) (lb.number j hj) ∙ omega arith

    right_on : (g + j) + step_over (get_or numbers (g + j) 0) (get_or numbers (f + i) 0) ≡ g + (j + step_over (right_number b j) (left_number a i))
    right_on = ap₂ (λ y x. (g + j) + step_over y x) (lb.number j hj) (la.number i hi) ∙ omega arith

    -- a corner, and the rest
    at_turn : (h : i + j + 2 < length a + length b) → Rest (i + step_over (left_number a i) (right_number b j)) (j + step_over (right_number b j) (left_number a i)) → Rest i j
    at_turn h r =
        let s = keyed_step a b t u z i j hi hj h in
        let next : chain numbers end (f + i) (g + j) ≡ (f + i, g + j) ∷ chain numbers end (f + (i + step_over (left_number a i) (right_number b j))) (g + (j + step_over (right_number b j) (left_number a i)))
        = chain_next numbers end (f + i) (g + j) (omega (arith, e)) ∙ (λ n. (f + i, g + j) ∷ chain numbers end (left_on n) (right_on n)) in
        record {
          corners = ap (along points) next ∙ ap₂ (λ x l. x ∷ l) (ap₂ ◌+ᵖ◌ (la.corner i hi) (lb.corner j hj)) r.corners ∙ sym s.goes;
          inside = subst (All (λ p. (p.0 < length points) × (p.1 < length points))) (sym next) ((omega (arith, la.inside), omega (arith, lb.inside)), r.inside);
        }

  rest : (n : ℕ) {i j : ℕ} → i < length a → j < length b → length a + length b ≤ i + j + n → Rest i j
  rest zero hi hj h = absurd (omega arith)
  rest (suc n) {i} {j} hi hj h =
      by_test (ltb (i + j + 2) (length a + length b))
      (λ c.
      let k = ltb-true (i + j + 2) (length a + length b) c in
      let s = keyed_step a b t u z i j hi hj k in
      at_turn i j hi hj k (rest n s.left_in s.right_in (omega (arith, s.onward))))
      (λ c. at_end i j hi hj (ltb-false (i + j + 2) (length a + length b) c))

  pub chain_merged : 0 < length a → 0 < length b → MergedFrom points numbers end f g a b 0 0
  chain_merged ha hb = rest (length a + length b) ha hb (omega arith)
