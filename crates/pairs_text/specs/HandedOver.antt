-- What calls hand over, each from where the one before it ended: together the text of the job,
-- whole and in order. They are proved in proofs/Steps.antt. Assumes nothing.
use Rattle.std.specs.Prelude.{◌≡◌, true, false, ℕ, ◌<◌, ◌≤◌, length}
use mathlib.Core.List.{List, ◌++◌, flatten}
use Rattle.pairs_job.specs.Job.{pairs_text}
use Rattle.pairs_text.specs.Pieces.{pieces_of, text_from, chunk_of, next_piece, more_of}

-- a call hands over the front of what is left
abbrev pub FrontHandedOver : Type 0
FrontHandedOver = (bytes : List ℕ) (from : ℕ) → text_from bytes from ≡ flatten (chunk_of bytes from) ++ text_from bytes (next_piece bytes from)

-- where pieces are left, at least one of them, and never more than there are: so calls come to the
-- end
abbrev pub SomeHandedOver : Type 0
SomeHandedOver = (bytes : List ℕ) (from : ℕ) → from < length (pieces_of bytes) → (from < next_piece bytes from) × (next_piece bytes from ≤ length (pieces_of bytes))

-- the text that calls hand over from piece k on, until one tells that no more is left
pub data HandsOver (bytes : List ℕ) : ℕ → List ℕ → Type 0 where
  last : (k : ℕ) → more_of bytes k ≡ false → HandsOver bytes k (flatten (chunk_of bytes k))
  goes : (k : ℕ) (t : List ℕ) → more_of bytes k ≡ true → HandsOver bytes (next_piece bytes k) t → HandsOver bytes k (flatten (chunk_of bytes k) ++ t)

-- from 0 on it is the job's text, and nothing else
pub record TextHandedOver (bytes : List ℕ) : Type 0 where
  pub text : HandsOver bytes 0 (pairs_text bytes)
  pub only : (t : List ℕ) → HandsOver bytes 0 t → t ≡ pairs_text bytes

-- of any bytes
abbrev pub AllHandedOver : Type 0
AllHandedOver = (bytes : List ℕ) → TextHandedOver bytes
