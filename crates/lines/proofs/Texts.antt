-- What `put_text` answers of a number with k digits: nothing where there is no room (`refused`),
-- else the text (`answered`). Assumes nothing.
use mathlib.Core.Path.{◌≡◌, refl, sym, ◌∙◌, ap}
use mathlib.Core.List.{List, ◌++◌}
use Prim.Native.Nat.{ℕ, ◌+◌, ◌≤◌, ◌<◌}
use native.Mathlib.Omega.{arith}
use borrow.Author.Tests.{lt-ltb, le-ltb}
use lib.ListN.{length, length-append}
use Rattle.text.specs.Text.{decimal}
use Rattle.text.specs.Put.{PutText}
use Rattle.text.proofs.Puts.{put_after_lem, put_as, put_whole, put_within}
use Rattle.lines.specs.Text.{text_of, Text}

module _ (name end out : List ℕ) (n k : ℕ) (f : k ≡ length (decimal n)) where
  size : length (text_of name n end) ≡ length name + k + length end
  size = omega (arith, length-append (name ++ decimal n) end, length-append name (decimal n), f)

  pub refused : length out < length name + k + length end → Text name n end out 0 out
  refused h =
      let e = lt-ltb (length out) (length (text_of name n end)) (omega (arith, size)) in
      record { told = sym (rw e); text = sym (rw e); within = (omega arith, refl) }

  pub answered :
      {d x y z : List ℕ} {a b r : ℕ} → d ≡ decimal n → length name + k + length end ≤ length out → PutText name 0 out x a → PutText d a x y b → PutText end b y z r →
      Text name n end out r z
  answered {d} {x} {y} {z} {a} {b} {r} e h p q s =
      let t : PutText (text_of name n end) 0 out z r = put_as (ap (λ l. name ++ l ++ end) e) (put_after_lem (omega arith) (put_after_lem (omega arith) p q) s) in
      let room = le-ltb (length out) (length (text_of name n end)) (omega (arith, size)) in
      record { told = (put_whole t).0 ∙ sym (rw room); text = (put_whole t).1 ∙ sym (rw room); within = put_within t (omega (arith, size)) }
