-- A loop over steps ends: as long as more is told the pieces left fall (`left_falls`). Assumes
-- nothing.
use mathlib.Core.Path.{◌≡◌, sym, ◌∙◌}
use mathlib.Core.Bool.{Bool, true, cond}
use mathlib.Core.List.{List}
use Prim.Native.Nat.{ℕ, ◌+◌, ◌-◌, ◌<◌}
use native.Mathlib.Omega.{arith}
use borrow.Author.Tests.{ltb-true}
use lib.ListN.{length}
use Rattle.integers.proofs.Order.{by_test}
use Rattle.pairs_text.specs.Pieces.{pieces_of, next_piece, more_of}
use Rattle.pairs_text.proofs.Steps.{some_handed_over}

-- one more than the pieces after the first k; 0 where no more is told
abbrev pub left : List ℕ → ℕ → Bool → ℕ
left bytes k more = cond more (1 + (length (pieces_of bytes) - k)) 0

pub left_falls : (bytes : List ℕ) (k : ℕ) {n : ℕ} {t more : Bool} → t ≡ true → n ≡ next_piece bytes k → more ≡ more_of bytes k → left bytes n more < left bytes k t
left_falls bytes k {n} {t} {more} e f g =
    rw e
    (by_test more
    (λ h. let l = ltb-true (next_piece bytes k) (length (pieces_of bytes)) (sym g ∙ h) in
    let s = some_handed_over bytes k (omega (arith, l)) in
    rw h (omega (arith, l, s.0)))
    (λ h. rw h (omega arith)))
