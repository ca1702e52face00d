-- Words copied from bytes on the front of a lent buffer: where word i stands. A word or a number
-- more is `copy_turn`, `copy_map_turn` of integers/proofs/Overlay.antt. Assumes nothing.
use mathlib.Core.Path.{◌≡◌, sym, ◌∙◌, ap}
use mathlib.Core.List.{List}
use Prim.Native.Nat.{ℕ, ◌+◌}
use lib.ListN.{drop, get_or}
use lib.Seq.{get_or-drop}
use Rattle.table.specs.Stored.{words_of, word_at}

-- word i from word k on
pub word_from : (bytes : List ℕ) (k i : ℕ) {n : ℕ} → n ≡ k + i → word_at bytes n ≡ get_or (drop k (words_of bytes)) i 0
word_from bytes k i e = ap (λ j. get_or (words_of bytes) j 0) e ∙ sym (get_or-drop k (words_of bytes) i 0)
