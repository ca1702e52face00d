-- What calls hand over: the front of what is left (`front_handed_over`), at least a piece where
-- there is any (`some_handed_over`), and from 0 on to the end the whole text and nothing else
-- (`all_handed_over`). Assumes nothing.
use mathlib.Core.Path.{◌≡◌, sym, ◌∙◌, ap, subst}
use mathlib.Core.Bool.{true, false}
use mathlib.Core.List.{List, [], ◌++◌, flatten, append-nil}
use Prim.Native.Nat.{ℕ, zero, suc, ◌-◌, ◌≤◌}
use native.Mathlib.Omega.{arith}
use borrow.Author.Tests.{ltb-true, ltb-false}
use lib.ListN.{length, drop, length-drop, drop_of_length-le}
use lib.Seq.{drop-drop}
use Rattle.integers.proofs.Order.{by_test}
use Rattle.integers.proofs.Sums.{flatten_append}
use Rattle.pairs_text.specs.Pieces.{chunk_room, pieces_of, text_from, chunk_of, next_piece, more_of}
use Rattle.pairs_text.specs.HandedOver.{FrontHandedOver, SomeHandedOver, HandsOver, last, goes, AllHandedOver}
use Rattle.pairs_text.proofs.Pieces.{in_pieces}
use Rattle.pairs_text.proofs.Taking.{taking_front, taking_few, taking_some}

pub front_handed_over : FrontHandedOver
front_handed_over bytes from =
    ap flatten (taking_front chunk_room (drop from (pieces_of bytes))) ∙ flatten_append (chunk_of bytes from) (drop (length (chunk_of bytes from)) (drop from (pieces_of bytes)))
    ∙ ap (λ l. flatten (chunk_of bytes from) ++ flatten l) (drop-drop (length (chunk_of bytes from)) from (pieces_of bytes))

pub some_handed_over : SomeHandedOver
some_handed_over bytes from h =
    let n = length-drop from (pieces_of bytes) in (
      omega (arith, taking_some chunk_room (drop from (pieces_of bytes)) (omega arith) (omega (arith, n))),
      omega (arith, taking_few chunk_room (drop from (pieces_of bytes)), n),
    )

-- ---- to the end

module _ (bytes : List ℕ) where
  -- past the last piece no text is left
  none_left : {k : ℕ} → length (pieces_of bytes) ≤ k → text_from bytes k ≡ []
  unfolding flatten
  none_left h = ap flatten (drop_of_length-le (pieces_of bytes) h)

  last_text : (k : ℕ) → more_of bytes k ≡ false → text_from bytes k ≡ flatten (chunk_of bytes k)
  last_text k e =
      front_handed_over bytes k ∙ ap (λ t. flatten (chunk_of bytes k) ++ t) (none_left (ltb-false (next_piece bytes k) (length (pieces_of bytes)) e))
      ∙ append-nil (flatten (chunk_of bytes k))

  only_text : {k : ℕ} {t : List ℕ} → HandsOver bytes k t → t ≡ text_from bytes k
  only_text {k} (last _ e) = sym (last_text k e)
  only_text {k} (goes _ u e h) = ap (λ v. flatten (chunk_of bytes k) ++ v) (only_text h) ∙ sym (front_handed_over bytes k)

  ends_here : {k : ℕ} → more_of bytes k ≡ false → HandsOver bytes k (text_from bytes k)
  ends_here {k} e = subst (HandsOver bytes k) (sym (last_text k e)) (last k e)

  goes_on : {k : ℕ} → more_of bytes k ≡ true → HandsOver bytes (next_piece bytes k) (text_from bytes (next_piece bytes k)) → HandsOver bytes k (text_from bytes k)
  goes_on {k} e h = subst (HandsOver bytes k) (sym (front_handed_over bytes k)) (goes k (text_from bytes (next_piece bytes k)) e h)

  -- n is at least how many pieces are left
  text_handed_over : (n : ℕ) {k : ℕ} → length (pieces_of bytes) - k ≤ n → HandsOver bytes k (text_from bytes k)
  text_handed_over zero {k} h = by_test (more_of bytes k) (λ e. absurd (omega (arith, ltb-true (next_piece bytes k) (length (pieces_of bytes)) e))) ends_here
  text_handed_over (suc n) {k} h =
      by_test (more_of bytes k)
      (λ e. let l = ltb-true (next_piece bytes k) (length (pieces_of bytes)) e in
      let s = some_handed_over bytes k (omega (arith, l)) in
      goes_on e (text_handed_over n (omega (arith, s.0))))
      ends_here

pub all_handed_over : AllHandedOver
all_handed_over bytes = record {
  text = subst (HandsOver bytes 0) (sym (in_pieces bytes)) (text_handed_over bytes (length (pieces_of bytes)) (omega arith));
  only = λ t h. only_text bytes h ∙ sym (in_pieces bytes);
}
