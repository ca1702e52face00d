-- The buffers that an accepted call leaves hold the pairs' contours (`result_is_pairs`), so demand
-- 3 and de Berg et al. hold of what stands there (`table_reach`, `table_de_berg`); pairs in pieces
-- (`pairs_shard`). Assumes nothing.
use mathlib.Core.Path.{◌≡◌, refl, sym, ◌∙◌, ap, subst}
use mathlib.Core.Bool.{Bool, true}
use mathlib.Core.List.{List, [], map, map-append, flatten}
use Prim.Native.Nat.{ℕ, ◌+◌, ◌*◌, ◌<◌}
use lib.ListN.{length, get_or}
use lib.IntN.{ℤ}
use Rattle.integers.proofs.Sums.{flatten_append}
use Rattle.plane.specs.Plane.{Pt}
use Rattle.table.proofs.Answers.{contours_left}
use Rattle.pair.specs.Pair.{pair_contour}
use Rattle.pair.specs.Premise.{once_round}
use Rattle.pair.proofs.Theorem.{demand3, sum_is_de_berg}
use Rattle.minkowski.specs.Pairs.{Operand, operand_parts, pairs_of, pair_contours, pairs_fault}
use Rattle.minkowski.proofs.EachPair.{length_pairs, each_pair}
use Rattle.minkowski_pairs.specs.Results.{result_contours, ResultIsPairs, EmittedWhole, TableReach, TableDeBerg, PairsShard}

pub result_is_pairs : ResultIsPairs
result_is_pairs reflected l r s c h = contours_left (pair_contours reflected l r) s c (sym (length_pairs reflected (operand_parts l) (operand_parts r))) h

-- what stands for pair i, j is the pair's contour
pair_stands :
    (reflected : Bool) (l r : Operand) (s : List ℕ) (c : List ℤ) → pairs_fault reflected l r (length s) (length c) ≡ 0 → {i j : ℕ} → i < length (operand_parts l) → j < length (operand_parts r) →
    get_or (result_contours reflected l r s c) (i * length (operand_parts r) + j) [] ≡ pair_contour reflected (get_or (operand_parts l) i []) (get_or (operand_parts r) j [])
pair_stands reflected l r s c h {i} {j} hi hj = ap (λ ps. get_or ps (i * length (operand_parts r) + j) []) (result_is_pairs reflected l r s c h) ∙ each_pair reflected (operand_parts l) (operand_parts r) i j hi hj

-- demand 3 of the contour that the two walks give
pub emitted : (reflected : Bool) (A B : List Pt) → once_round A ≡ true → once_round B ≡ true → EmittedWhole reflected A B (pair_contour reflected A B)
emitted reflected A B a b = record { walked = refl; reach = demand3 reflected A B a b }

pub table_reach : TableReach
table_reach reflected l r s c h i j hi hj a b =
    subst (EmittedWhole reflected _ _) (sym (pair_stands reflected l r s c h hi hj)) (emitted reflected (get_or (operand_parts l) i []) (get_or (operand_parts r) j []) a b)

pub table_de_berg : TableDeBerg
table_de_berg l r s c h i j hi hj a b =
    pair_stands _ l r s c h hi hj ∙ sum_is_de_berg (get_or (operand_parts l) i []) (get_or (operand_parts r) j []) a b

pub pairs_shard : PairsShard
unfolding pairs_of
pairs_shard reflected ls ms rs = ap flatten (map-append (λ a. map (pair_contour reflected a) rs) ls ms) ∙ flatten_append (map (λ a. map (pair_contour reflected a) rs) ls) (map (λ a. map (pair_contour reflected a) rs) ms)
