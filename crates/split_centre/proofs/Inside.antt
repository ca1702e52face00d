-- To the left of each edge, edge by edge: at the start all are to be tested (`inside_start`), one
-- in turn (`inside_turn`), the closing one last (`inside_end`). Assumes nothing.
use mathlib.Core.Path.{◌≡◌, refl, sym, ◌∙◌, ap}
use mathlib.Core.Bool.{Bool, true, false, cond}
use mathlib.Core.List.{List, [], ◌∷◌, ◌++◌}
use Prim.Native.Nat.{ℕ, ◌+◌, ◌≤◌, ◌<◌}
use native.Mathlib.Omega.{arith}
use native.Mathlib.Numerals.{add-one}
use lib.ListN.{length, get_or, drop, drop_of_length-le}
use lib.Seq.{drop-cons}
use lib.IntN.{ℤ, pos}
use lib.Signed.{le_z, lt_z}
use Rattle.integers.specs.Lists.{links, neighbours}
use Rattle.integers.proofs.Tests.{le_z-≤, le_z-<, <-lt_z, ≤-lt_z}
use Rattle.integers.proofs.Neighbours.{neighbours_cons}
use Rattle.plane.specs.Plane.{Pt, O, area_two}
use Rattle.split.specs.Splitting.{left_of_all}

module _ (g : Pt) (l : List Pt) where
  -- g is to the left of the edges from a through the corners from i on to the first
  abbrev pub ahead : Pt → ℕ → Bool
  ahead a i = left_of_all g (links a (drop i l ++ (get_or l 0 O ∷ [])))

  pub inside_turn : (a : Pt) {b : Pt} {i : ℕ} → i < length l → b ≡ get_or l i O → ahead a i ≡ cond (lt_z (pos 0) (area_two a b g)) (ahead b (i + 1)) false
  unfolding left_of_all links
  inside_turn a {b} {i} h e = rw (drop-cons l i O h, ← e, add-one)

  pub inside_end : (a : Pt) {b : Pt} (i : ℕ) → length l ≤ i → b ≡ get_or l 0 O → ahead a i ≡ lt_z (pos 0) (area_two a b g)
  unfolding left_of_all links
  inside_end a {b} i h e = rw (drop_of_length-le l h, ← e) (of (lt_z (pos 0) (area_two a b g)))
    where
      of : (t : Bool) → cond t true false ≡ t
      of true = refl
      of false = refl

pub inside_start : (g : Pt) (l : List Pt) {a : Pt} → 0 < length l → a ≡ get_or l 0 O → left_of_all g (neighbours l) ≡ ahead g l a 1
inside_start g [] h e = absurd (omega arith)
inside_start g (c ∷ l) h e = rw e (ap (left_of_all g) (neighbours_cons c l))

-- what the code's test tells: u is k read back
module _ {u k : ℤ} (e : u ≡ k) where
  pub test_right : le_z u (pos 0) ≡ true → lt_z (pos 0) k ≡ false
  test_right h = ≤-lt_z (le_z-≤ k (pos 0) (ap (λ z. le_z z (pos 0)) (sym e) ∙ h))

  pub test_left : le_z u (pos 0) ≡ false → lt_z (pos 0) k ≡ true
  test_left h = <-lt_z (le_z-< k (pos 0) (ap (λ z. le_z z (pos 0)) (sym e) ∙ h))
