-- Counting corners a pair and a row at a time: a merge fits the work buffer (`fits_work`); one more
-- pair of a row, one more row (`row_turn`, `row_fits`, `all_turn`, `all_fits`), and their ends
-- (`row_end`, `all_end`). Assumes nothing.
use mathlib.Core.Path.{◌≡◌, ◌∙◌, ap}
use mathlib.Core.List.{List, [], ◌∷◌, ◌++◌, flatten, append-nil}
use Prim.Native.Nat.{ℕ, suc, ◌+◌, ◌≤◌, ◌<◌}
use native.Mathlib.Omega.{arith}
use lib.ListN.{length, get_or, take, drop}
use lib.Seq.{take_all}
use lib.IntN.{ℤ}
use Rattle.integers.proofs.Sums.{length_flatten_append}
use Rattle.plane.specs.Plane.{Pt}
use Rattle.table.specs.Table.{max_contour}
use Rattle.pair_points.specs.Points.{merged_of}
use Rattle.pair_points.proofs.Merged.{length_merged}
use Rattle.pair_merge.specs.Putting.{RoomAfter}
use Rattle.pair_walks.specs.Walks.{merged_row, merged_all}
use Rattle.pair_walks.proofs.Operands.{row_suc, row_whole, all_suc, all_whole}

-- how many corners the merges of one walk with each of some have, and those of each of some with
-- each of others
abbrev pub row_count : List Pt → List (List Pt) → ℕ
row_count a rs = length (flatten (merged_row a rs))

abbrev pub all_count : List (List Pt) → List (List Pt) → ℕ
all_count ls rs = length (flatten (merged_all ls rs))

-- a merge of two walks of at most 1,026 edges has at most 2,052 corners
pub fits_work : (a b : List Pt) (work : List ℤ) → length a ≤ (max_contour + 1) → length b ≤ (max_contour + 1) → 4104 ≤ length work → RoomAfter (merged_of a b) work 0
fits_work a b work h k w = omega (arith, length_merged a b)

-- ---- a turn of a row, b being right walk q

module _ (a : List Pt) (rs : List (List Pt)) {q : ℕ} {b : List Pt} (h : q < length rs) (e : get_or rs q [] ≡ b) where
  pub row_turn : row_count a (take (q + 1) rs) ≡ row_count a (take q rs) + length (merged_of a b)
  unfolding flatten
  row_turn =
      ap (λ l. length (flatten l)) (row_suc a rs h) ∙ length_flatten_append (merged_row a (take q rs)) (merged_of a (get_or rs q []) ∷ [])
      ∙ ap (λ l. row_count a (take q rs) + length l) (append-nil (merged_of a (get_or rs q [])) ∙ ap (merged_of a) e)

  pub row_fits : row_count a (take q rs) + length (merged_of a b) ≤ row_count a rs
  unfolding flatten
  row_fits =
      let rest = merged_row a (drop (suc q) rs) in
      let one = merged_of a (get_or rs q []) ∷ [] in
      omega (
        arith,
        ap (λ l. length (flatten l)) (row_whole a rs h),
        length_flatten_append (merged_row a (take q rs)) (one ++ rest),
        length_flatten_append one rest,
        ap length (append-nil (merged_of a (get_or rs q [])) ∙ ap (merged_of a) e),
      )

-- ---- a turn of all rows, a being left walk p

module _ (ls rs : List (List Pt)) {p : ℕ} {a : List Pt} (h : p < length ls) (e : get_or ls p [] ≡ a) where
  pub all_turn : all_count (take (p + 1) ls) rs ≡ all_count (take p ls) rs + row_count a rs
  all_turn =
      ap (λ l. length (flatten l)) (all_suc ls rs h) ∙ length_flatten_append (merged_all (take p ls) rs) (merged_row (get_or ls p []) rs)
      ∙ ap (λ l. all_count (take p ls) rs + row_count l rs) e

  pub all_fits : all_count (take p ls) rs + row_count a rs ≤ all_count ls rs
  all_fits =
      let rest = merged_all (drop (suc p) ls) rs in
      let row = merged_row (get_or ls p []) rs in
      omega (
        arith,
        ap (λ l. length (flatten l)) (all_whole ls rs h),
        length_flatten_append (merged_all (take p ls) rs) (row ++ rest),
        length_flatten_append row rest,
        ap (λ l. row_count l rs) e,
      )

-- all of a list
pub row_end : (a : List Pt) (rs : List (List Pt)) (q : ℕ) → length rs ≤ q → row_count a (take q rs) ≡ row_count a rs
row_end a rs q h = ap (row_count a) (take_all q rs h)

pub all_end : (ls rs : List (List Pt)) (p : ℕ) → length ls ≤ p → all_count (take p ls) rs ≡ all_count ls rs
all_end ls rs p h = ap (λ l. all_count l rs) (take_all p ls h)
