-- A refusal, in three pieces: its length, and the pieces put one after another. Assumes nothing.
use mathlib.Core.Path.{◌≡◌}
use mathlib.Core.List.{List, ◌++◌}
use Prim.Native.Nat.{ℕ, ◌+◌, ◌≤◌}
use native.Mathlib.Omega.{arith}
use lib.ListN.{length, length-append}
use Rattle.text.specs.Text.{decimal, newline, refused_word, refusal}
use Rattle.text.specs.Put.{PutText}
use Rattle.text.proofs.Puts.{put_after_lem, put_length}

pub refusal_length : (f : ℕ) → length (refusal f) ≡ 9 + length (decimal f)
unfolding refusal
refusal_length f = omega (arith, length-append refused_word (decimal f ++ newline), length-append (decimal f) newline)

pub refusal_pieces :
    (f : ℕ) {at m n r : ℕ} {o o₁ o₂ o₃ : List ℕ} → at + length (refusal f) ≤ length o → PutText refused_word at o o₁ m → PutText (decimal f) m o₁ o₂ n
    → PutText newline n o₂ o₃ r → PutText (refusal f) at o o₃ r
unfolding refusal
refusal_pieces f h p q s = put_after_lem (omega arith) p (put_after_lem (omega (arith, refusal_length f, p.after, put_length p (omega (arith, refusal_length f)))) q s)
