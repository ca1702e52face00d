-- The text of a pair job in pieces, the head line or the refusal and then one line a pair
-- (`pieces_of`), and which of them one call hands over (`chunk_of`). Assumes nothing.
use Rattle.std.specs.Prelude.{◌≡◌, Bool, cond, ℕ, ◌+◌, ◌-◌, eqb, ltb, length, get_or, drop}
use mathlib.Core.List.{List, [], ◌∷◌, map, flatten}
use Rattle.integers.specs.Lists.{up_to}
use Rattle.plane.specs.Plane.{Pt}
use Rattle.text.specs.Text.{refusal}
use Rattle.pair.specs.Pair.{pair_contour}
use Rattle.minkowski.specs.Pairs.{operand_parts, result_bounds}
use Rattle.pair_lines.specs.Lines.{pairs_head, pair_line}
use Rattle.pair_lines.specs.Putting.{line_room}
use Rattle.pairs_job.specs.Job.{reflected_of, left_of, right_of, job_fault, contours_of, pairs_text}

-- ---- the pieces

-- the head line, or the refusal
unfoldable pub head_piece : List ℕ → List ℕ
head_piece bytes =
    cond (eqb (job_fault bytes) 0)
    (pairs_head (length (contours_of bytes)) (length (flatten (contours_of bytes))) (result_bounds (reflected_of bytes) (left_of bytes).bounds (right_of bytes).bounds))
    (refusal (job_fault bytes))

-- "one line a pair": left part 0 with each right part, then left part 1 ..
unfoldable pub lines_of_pairs : Bool → List (List Pt) → List (List Pt) → List (List ℕ)
lines_of_pairs reflected ls rs = flatten (map (λ i. map (λ j. pair_line i j (pair_contour reflected (get_or ls i []) (get_or rs j []))) (up_to (length rs))) (up_to (length ls)))

-- a job that is refused has no lines
unfoldable pub pieces_of : List ℕ → List (List ℕ)
pieces_of bytes =
    head_piece bytes ∷ cond (eqb (job_fault bytes) 0) (lines_of_pairs (reflected_of bytes) (operand_parts (left_of bytes)) (operand_parts (right_of bytes))) []

-- they are the whole text (proofs/Pieces.antt)
abbrev pub InPieces : Type 0
InPieces = (bytes : List ℕ) → pairs_text bytes ≡ flatten (pieces_of bytes)

-- what is left of the text after its first k pieces
abbrev pub text_from : List ℕ → ℕ → List ℕ
text_from bytes k = flatten (drop k (pieces_of bytes))

-- ---- those that one call hands over

-- pieces are put as long as what is left of the room is at least the longest line's
unfoldable pub taking_pieces : ℕ → List (List ℕ) → List (List ℕ)
taking_pieces room [] = []
taking_pieces room (p ∷ ps) = cond (ltb room line_room) [] (p ∷ taking_pieces (room - length p) ps)

-- the bytes that are lent to a call
abbrev pub chunk_room : ℕ
chunk_room = 1048576

-- the pieces that the call at `from` hands over, how many have been handed over then, and whether
-- more are left
abbrev pub chunk_of : List ℕ → ℕ → List (List ℕ)
chunk_of bytes from = taking_pieces chunk_room (drop from (pieces_of bytes))

abbrev pub next_piece : List ℕ → ℕ → ℕ
next_piece bytes from = from + length (chunk_of bytes from)

abbrev pub more_of : List ℕ → ℕ → Bool
more_of bytes from = ltb (next_piece bytes from) (length (pieces_of bytes))
