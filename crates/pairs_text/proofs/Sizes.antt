-- A head line has at most 154 bytes, whatever its numbers (`head_any`), and a refusal at most 29
-- (`refusal_any`); what was put on the front of lent bytes lies within them (`put_inside`). Assumes
-- nothing.
use mathlib.Core.Path.{sym}
use mathlib.Core.List.{List}
use Prim.Native.Nat.{ℕ, suc, ◌≤◌}
use native.Mathlib.Omega.{arith}
use lib.ListN.{length}
use lib.IntN.{ℤ, pos, negsuc}
use Rattle.table.specs.declared.IntRect.{IntRect}
use Rattle.text.specs.Text.{signed_decimal, refusal}
use Rattle.text.proofs.Sizes.{decimal_size}
use Rattle.text.specs.Put.{PutText}
use Rattle.text.proofs.Puts.{put_whole}
use Rattle.text.proofs.Refusals.{refusal_length}
use Rattle.pair_lines.specs.Lines.{pairs_head}
use Rattle.pair_lines.proofs.Pieces.{head_length, bounds_length}
use Rattle.pairs_work.proofs.Reading.{front_fits}
use Rattle.pairs_text.specs.Walks.{first_room}

signed_any : (z : ℤ) → length (signed_decimal z) ≤ 21
unfolding signed_decimal
signed_any (pos n) = omega (arith, decimal_size n)
signed_any (negsuc n) = omega (arith, decimal_size (suc n))

pub head_any : (n k : ℕ) (b : IntRect) → length (pairs_head n k b) ≤ first_room
head_any n k b =
    omega (
      arith,
      head_length n k b,
      bounds_length b,
      decimal_size n,
      decimal_size k,
      signed_any b.min_x,
      signed_any b.max_x,
      signed_any b.min_y,
      signed_any b.max_y,
    )

pub refusal_any : (f : ℕ) → length (refusal f) ≤ 29
refusal_any f = omega (arith, refusal_length f, decimal_size f)

pub put_inside : {t out out' : List ℕ} {r : ℕ} → PutText t 0 out out' r → r ≤ length out'
put_inside {t} {out} {out'} {r} p = front_fits t out (put_whole p).1 (sym (put_whole p).0)
