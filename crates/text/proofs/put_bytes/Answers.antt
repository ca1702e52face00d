-- `text::put_bytes` meets its contract: the bytes are put in one piece. Assumes nothing.
use mathlib.Core.Path.{refl, sym, subst}
use Prim.Native.Nat.{◌+◌, ◌-◌}
use native.Mathlib.Omega.{arith}
use borrow.Rule.Slice.PartMut.{put_mid}
use lib.ListN.{length}
use Rattle.text.specs.Put.{PutText}
use Rattle.text.proofs.Puts.{put_piece}
use Rattle.text.proofs.put_bytes.Goals as goal

pub returns : goal.returns
returns c = let s = c.args in
    subst (λ l. PutText s.from.now s.at s.out.now (put_mid s.at (s.at + length s.from.now - s.at) s.out.now l) (s.at + length s.from.now)) (sym c.copy_from_slice.ensures.after)
    (put_piece s.from.now s.out.now s.at (omega arith) (omega arith) refl)
