-- The text of a job is its pieces, one after another (`in_pieces`). Assumes nothing.
use mathlib.Core.Path.{◌≡◌, refl, sym, ◌∙◌, ap}
use mathlib.Core.Bool.{Bool, true, false, cond}
use mathlib.Core.List.{List, [], ◌∷◌, ◌++◌, map, flatten, append-nil}
use Prim.Native.Nat.{ℕ}
use lib.Dec.{eqb}
use lib.ListN.{length, get_or}
use Rattle.integers.specs.Lists.{up_to}
use Rattle.integers.proofs.Sums.{flatten_append}
use Rattle.plane.specs.Plane.{Pt}
use Rattle.pair.specs.Pair.{pair_contour}
use Rattle.pair_lines.specs.Lines.{pair_line, pair_lines}
use Rattle.pair_lines.proofs.Order.{lines_in_order}
use Rattle.pairs_job.specs.Job.{job_fault, pairs_text}
use Rattle.pairs_text.specs.Pieces.{head_piece, lines_of_pairs, pieces_of, InPieces}

-- lists joined row by row, or all at once
flatten_rows : {A : Type 0} (g : ℕ → List (List A)) (l : List ℕ) → flatten (map (λ i. flatten (g i)) l) ≡ flatten (flatten (map g l))
unfolding flatten
flatten_rows g [] = refl
flatten_rows g (i ∷ l) = ap (λ t. flatten (g i) ++ t) (flatten_rows g l) ∙ sym (flatten_append (g i) (flatten (map g l)))

lines_joined : (reflected : Bool) (ls rs : List (List Pt)) → pair_lines reflected ls rs ≡ flatten (lines_of_pairs reflected ls rs)
unfolding lines_of_pairs
lines_joined reflected ls rs =
    lines_in_order reflected ls rs ∙ flatten_rows (λ i. map (λ j. pair_line i j (pair_contour reflected (get_or ls i []) (get_or rs j []))) (up_to (length rs))) (up_to (length ls))

apart : (t : Bool) (h : List ℕ) {l : List ℕ} (r : List ℕ) (ps : List (List ℕ)) → l ≡ flatten ps → cond t (h ++ l) r ≡ flatten (cond t h r ∷ cond t ps [])
unfolding flatten
apart true h r ps e = ap (λ x. h ++ x) e
apart false h r ps e = sym (append-nil r)

pub in_pieces : InPieces
unfolding pairs_text head_piece pieces_of
in_pieces bytes = apart (eqb (job_fault bytes) 0) _ _ _ (lines_joined _ _ _)
