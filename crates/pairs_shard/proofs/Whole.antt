-- The shards put together: their left parts, their contours, their lines (specs/Whole.antt).
-- Assumes nothing.
use mathlib.Core.Path.{◌≡◌, sym, ◌∙◌, ap}
use mathlib.Core.Bool.{Bool}
use mathlib.Core.List.{List, [], ◌∷◌, ◌++◌, map, append_assoc}
use Prim.Native.Nat.{ℕ, suc, ◌+◌, ◌-◌, ◌≤◌}
use native.Mathlib.Omega.{arith}
use borrow.Author.Tests.{leb-true, leb-false}
use lib.Dec.{leb}
use lib.ListN.{length, take, drop, length-drop, drop_of_length-le}
use lib.Seq.{take-nil, take_all, take-add, drop-drop, length-take-le}
use Rattle.integers.proofs.Order.{by_test}
use Rattle.plane.specs.Plane.{Pt}
use Rattle.table.specs.Stored.{word_at}
use Rattle.minkowski.specs.Pairs.{operand_parts, pairs_of}
use Rattle.pair.specs.Pair.{pair_contour}
use Rattle.pair_lines.specs.Lines.{row_lines, pair_lines_from}
use Rattle.minkowski_pairs.proofs.Buffers.{pairs_shard}
use Rattle.pairs_job.specs.Job.{reflected_of, left_of, right_of, contours_of}
use Rattle.pairs_shard.specs.Shard.{shard_of, shard_fault}
use Rattle.pairs_shard.specs.Whole.{lines_from, WholeContours, JoinedContours, WholeLines, JoinedLines}
use Rattle.pairs_shard.proofs.Read.{left_count, shard_operands}

-- ---- some left parts, and those behind them

-- up to k, and from k up to j
pub two_parts : {A : Type 0} {i k j : ℕ} (l : List A) → i ≤ k → k ≤ j → take (k - i) (drop i l) ++ take (j - k) (drop k l) ≡ take (j - i) (drop i l)
two_parts {i} {k} {j} l h m =
    let z : i + (k - i) ≡ k = omega arith in
    let w : j - i ≡ k - i + (j - k) = omega arith in
    ap (λ d. take (k - i) (drop i l) ++ take (j - k) d) (ap (λ n. drop n l) (sym z) ∙ sym (drop-drop (k - i) i l))
    ∙ sym (ap (λ n. take n (drop i l)) w ∙ take-add (k - i) (j - k) (drop i l))

-- ---- contours

module _ (i j : ℕ) (bytes : List ℕ) (z : shard_fault bytes ≡ 0) where
  abbrev some : List (List Pt)
  some = take (j - i) (drop i (operand_parts (left_of bytes)))

  contours_some : contours_of (shard_of i j bytes) ≡ pairs_of (reflected_of bytes) some (operand_parts (right_of bytes))
  contours_some = let s = shard_operands i j bytes z in λ n. pairs_of (s.operation n) (s.parts n) (operand_parts (s.right n))

  lines_some : (m : ℕ) → lines_from m (shard_of i j bytes) ≡ pair_lines_from (reflected_of bytes) m some (operand_parts (right_of bytes))
  lines_some m = let s = shard_operands i j bytes z in λ n. pair_lines_from (s.operation n) m (s.parts n) (operand_parts (s.right n))

all_parts : {j : ℕ} (bytes : List ℕ) → shard_fault bytes ≡ 0 → word_at bytes 5 ≤ j → take (j - 0) (drop 0 (operand_parts (left_of bytes))) ≡ operand_parts (left_of bytes)
unfolding left_of
all_parts {j} bytes z h = take_all (j - 0) (operand_parts (left_of bytes)) (omega (arith, left_count bytes z))

pub whole_contours : WholeContours
whole_contours j bytes z h = contours_some 0 j bytes z ∙ ap (λ ls. pairs_of (reflected_of bytes) ls (operand_parts (right_of bytes))) (all_parts bytes z h)

pub joined_contours : JoinedContours
joined_contours i k j bytes z h m =
    (λ n. contours_some i k bytes z n ++ contours_some k j bytes z n)
    ∙ sym (pairs_shard (reflected_of bytes) (some i k bytes z) (some k j bytes z) (operand_parts (right_of bytes)))
    ∙ ap (λ ls. pairs_of (reflected_of bytes) ls (operand_parts (right_of bytes))) (two_parts (operand_parts (left_of bytes)) h m)
    ∙ sym (contours_some i j bytes z)

-- ---- lines

-- the second left parts are numbered on from the first
lines_append : (reflected : Bool) (i : ℕ) (ls ms rs : List (List Pt)) → pair_lines_from reflected i (ls ++ ms) rs ≡ pair_lines_from reflected i ls rs ++ pair_lines_from reflected (i + length ls) ms rs
unfolding pair_lines_from
lines_append reflected i [] ms rs = let z : i ≡ i + 0 = omega arith in ap (λ n. pair_lines_from reflected n ms rs) z
lines_append reflected i (a ∷ ls) ms rs =
    let z : suc i + length ls ≡ i + suc (length ls) = omega arith in
    let row = row_lines i 0 (map (pair_contour reflected a) rs) in
    let rows = pair_lines_from reflected (suc i) ls rs in
    ap (λ t. row ++ t) (lines_append reflected (suc i) ls ms rs ∙ ap (λ n. rows ++ pair_lines_from reflected n ms rs) z)
    ∙ sym (append_assoc row rows (pair_lines_from reflected (i + suc (length ls)) ms rs))

no_lines : (reflected : Bool) (i : ℕ) {ls : List (List Pt)} (rs : List (List Pt)) → ls ≡ [] → pair_lines_from reflected i ls rs ≡ []
unfolding pair_lines_from
no_lines reflected i rs e = ap (λ ls. pair_lines_from reflected i ls rs) e

pub whole_lines : WholeLines
whole_lines j bytes z h = lines_some 0 j bytes z 0 ∙ ap (λ ls. pair_lines_from (reflected_of bytes) 0 ls (operand_parts (right_of bytes))) (all_parts bytes z h)

pub joined_lines : JoinedLines
joined_lines i k j bytes z h m =
    let ls = some i k bytes z in
    let ms = some k j bytes z in
    let rs = operand_parts (right_of bytes) in
    let t = reflected_of bytes in
    (λ n. lines_some i k bytes z i n ++ lines_some k j bytes z k n)
    ∙ ap (λ q. pair_lines_from t i ls rs ++ q) numbered
    ∙ sym (lines_append t i ls ms rs)
    ∙ ap (λ ps. pair_lines_from t i ps rs) (two_parts (operand_parts (left_of bytes)) h m)
    ∙ sym (lines_some i j bytes z i)
  where
    numbered : pair_lines_from (reflected_of bytes) k (some k j bytes z) (operand_parts (right_of bytes))
        ≡ pair_lines_from (reflected_of bytes) (i + length (some i k bytes z)) (some k j bytes z) (operand_parts (right_of bytes))
    numbered =
        by_test (leb k (length (operand_parts (left_of bytes))))
        (λ b. let w : k ≡ i + length (some i k bytes z) = omega (arith, h, leb-true k _ b, length-take-le (k - i) (drop i (operand_parts (left_of bytes))) (omega (arith, h, leb-true k _ b, length-drop i (operand_parts (left_of bytes))))) in
        ap (λ n. pair_lines_from (reflected_of bytes) n (some k j bytes z) (operand_parts (right_of bytes))) w)
        (λ b. let e : some k j bytes z ≡ [] = ap (take (j - k)) (drop_of_length-le (operand_parts (left_of bytes)) {i = k} (omega (arith, leb-false k _ b))) ∙ take-nil (j - k) in
        no_lines (reflected_of bytes) k (operand_parts (right_of bytes)) e ∙ sym (no_lines (reflected_of bytes) (i + length (some i k bytes z)) (operand_parts (right_of bytes)) e))
