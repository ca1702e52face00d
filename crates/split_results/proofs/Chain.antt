-- Every contour of the pairs of split parts is exact (`every_contour_exact`): the parts meet demand
-- 3's premise, and the buffers hold their pairs. Assumes nothing.
use mathlib.Core.Path.{sym, ◌∙◌, ap, ap₂, subst}
use mathlib.Core.Bool.{Bool}
use mathlib.Core.List.{List, []}
use mathlib.Core.Logic.{inl}
use Prim.Native.Nat.{◌+◌, ◌*◌}
use lib.ListN.{length, get_or}
use Rattle.integers.proofs.Elements.{all_get_d}
use Rattle.plane.specs.Plane.{Pt}
use Rattle.table.proofs.Rules.{parts_table}
use Rattle.pair.specs.Pair.{pair_contour}
use Rattle.pair.proofs.Theorem.{sum_is_de_berg}
use Rattle.split.specs.Splitting.{split_parts}
use Rattle.split_pairs.specs.Premise.{PartMeets}
use Rattle.split_pairs.proofs.Theorem.{split_meets_premise}
use Rattle.minkowski.specs.Pairs.{pairs_of}
use Rattle.minkowski.proofs.EachPair.{each_pair}
use Rattle.minkowski_pairs.proofs.Buffers.{result_is_pairs, emitted}
use Rattle.split_operand.specs.Operand.{split_operand}
use Rattle.split_results.specs.Chain.{Exact, EveryContourExact}

-- of two parts that meet the premise
pub exact_pair : (reflected : Bool) {A B : List Pt} → PartMeets A → PartMeets B → Exact reflected A B (pair_contour reflected A B)
exact_pair reflected {A} {B} a b = record {
  whole = emitted reflected A B a.premise.1 b.premise.1;
  berg = λ e. ap (λ t. pair_contour t A B) e ∙ sum_is_de_berg A B (inl a.premise.0) (inl b.premise.0);
}

pub every_contour_exact : EveryContourExact
every_contour_exact reflected how m mesh b how' m' mesh' b' s c h k f i j hi hj =
    let A = get_or (split_parts how m mesh) i [] in
    let B = get_or (split_parts how' m' mesh') j [] in
    subst (Exact reflected A B)
    (sym (ap (λ ps. get_or ps (i * length (split_parts how' m' mesh') + j) [])
    (result_is_pairs reflected (split_operand how m mesh b) (split_operand how' m' mesh' b') s c f ∙ ap₂ (pairs_of reflected) (parts_table (split_parts how m mesh)) (parts_table (split_parts how' m' mesh')))
    ∙ each_pair reflected (split_parts how m mesh) (split_parts how' m' mesh') i j hi hj))
    (exact_pair reflected (all_get_d PartMeets (split_parts how m mesh) [] (split_meets_premise how m mesh h) i hi) (all_get_d PartMeets (split_parts how' m' mesh') [] (split_meets_premise how' m' mesh' k) j hj))
