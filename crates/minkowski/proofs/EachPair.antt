-- Contour i · R + j of the result is that of left part i and right part j (`each_pair`), and how
-- many there are (`length_pairs`). Assumes nothing.
use mathlib.Core.Path.{◌≡◌, refl, sym, ◌∙◌, ap}
use mathlib.Core.Bool.{Bool}
use mathlib.Core.List.{List, [], ◌∷◌, ◌++◌, map, flatten}
use Prim.Native.Nat.{ℕ, zero, suc, ◌+◌, ◌*◌, ◌<◌}
use native.Mathlib.Omega.{arith}
use native.Mathlib.Nat.{suc-mul}
use lib.ListN.{length, get_or, length-append, length-map, get_or-append, get_or-map, get_or-eq_default}
use lib.Seq.{get_or-append-add}
use Rattle.plane.specs.Plane.{Pt}
use Rattle.pair.specs.Pair.{pair_contour}
use Rattle.minkowski.specs.Pairs.{pairs_of, EachPair}

abbrev row : Bool → List Pt → List (List Pt) → List (List Pt)
row reflected a rs = map (pair_contour reflected a) rs

pairs_cons : (reflected : Bool) (a : List Pt) (ls rs : List (List Pt)) → pairs_of reflected (a ∷ ls) rs ≡ row reflected a rs ++ pairs_of reflected ls rs
unfolding pairs_of flatten
pairs_cons reflected a ls rs = refl

-- R pairs for each left part
pub length_pairs : (reflected : Bool) (ls rs : List (List Pt)) → length (pairs_of reflected ls rs) ≡ length ls * length rs
length_pairs reflected [] rs = unfold pairs_of flatten in omega arith
length_pairs reflected (a ∷ ls) rs =
    ap length (pairs_cons reflected a ls rs) ∙ length-append (row reflected a rs) (pairs_of reflected ls rs)
    ∙ (λ k. length-map rs (pair_contour reflected a) k + length_pairs reflected ls rs k) ∙ sym (suc_mul_left (length ls) (length rs))
  where
    suc_mul_left : (m n : ℕ) → suc m * n ≡ n + m * n
    suc_mul_left m n = suc-mul m n ∙ omega arith

-- an element of a map, inside the list
at_map : (reflected : Bool) (a : List Pt) (rs : List (List Pt)) (j : ℕ) → j < length rs → get_or (row reflected a rs) j [] ≡ pair_contour reflected a (get_or rs j [])
at_map reflected a [] j h = absurd (omega arith)
at_map reflected a (b ∷ rs) zero h = refl
at_map reflected a (b ∷ rs) (suc j) h = at_map reflected a rs j (omega arith)

pub each_pair : EachPair
each_pair reflected [] rs i j h k = absurd (omega arith)
each_pair reflected (a ∷ ls) rs zero j h k =
    ap (λ n. get_or (pairs_of reflected (a ∷ ls) rs) n []) (omega arith) ∙ ap (λ l. get_or l j []) (pairs_cons reflected a ls rs)
    ∙ get_or-append (row reflected a rs) (pairs_of reflected ls rs) [] j (omega (arith, length-map rs (pair_contour reflected a))) ∙ at_map reflected a rs j k
each_pair reflected (a ∷ ls) rs (suc i) j h k =
    ap (λ n. get_or (pairs_of reflected (a ∷ ls) rs) n []) (past i j) ∙ ap (λ l. get_or l (length (row reflected a rs) + (i * length rs + j)) []) (pairs_cons reflected a ls rs)
    ∙ get_or-append-add (row reflected a rs) (pairs_of reflected ls rs) (i * length rs + j) [] ∙ each_pair reflected ls rs i j (omega arith) k
  where
    past : (i j : ℕ) → suc i * length rs + j ≡ length (row reflected a rs) + (i * length rs + j)
    past i j = omega (arith, suc-mul i (length rs), length-map rs (pair_contour reflected a))
