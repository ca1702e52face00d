-- Pieces put one after another into lent bytes (`Putting`), each into what is left of them
-- (`rest`): none yet (`putting_none`), one more (`putting_turn`), no room for another
-- (`handed_full`), none left (`handed_all`); what a call answers of a job (`handed_chunk`). Assumes
-- nothing.
use mathlib.Core.Path.{◌≡◌, refl, sym, ◌∙◌, ap, ap₂}
use mathlib.Core.Bool.{Bool, true, false}
use mathlib.Core.List.{List, [], ◌∷◌, ◌++◌, flatten, append_assoc, append-nil}
use Prim.Native.Nat.{ℕ, suc, ◌+◌, ◌-◌, ◌<◌, ◌≤◌}
use native.Mathlib.Numerals.{add-one}
use native.Mathlib.Omega.{arith}
use borrow.Author.Tests.{lt-ltb, le-ltb}
use lib.Dec.{ltb}
use lib.ListN.{length, get_or, take, drop, length-append, length-drop, drop_of_length-le}
use lib.Seq.{drop-cons, take_all, length-take-le}
use Rattle.io.specs.Counts.{IsPrefixLen}
use Rattle.integers.specs.Lists.{overlay}
use Rattle.integers.proofs.Overlay.{overlay_nil, overlay_grow, length_overlay}
use Rattle.integers.proofs.Sums.{flatten_append}
use Rattle.text.specs.Put.{PutText}
use Rattle.text.proofs.Puts.{put_whole}
use Rattle.pair_lines.specs.Putting.{line_room}
use Rattle.pairs_text.specs.declared.Chunk.{Chunk}
use Rattle.pairs_text.specs.Pieces.{pieces_of, taking_pieces, chunk_room, chunk_of, next_piece, more_of}
use Rattle.pairs_text.specs.Walks.{Handed}
use Rattle.pairs_text.proofs.Sizes.{put_inside}
use Rattle.pairs_text.proofs.Taking.{taking_turn, taking_full}

-- from piece `from` up to piece k the pieces `done` are put, of `size` bytes, into lent bytes that
-- held `old`; those that a call puts are these, and then what it still takes
pub record Putting (pieces : List (List ℕ)) (from k size : ℕ) (old buf : List ℕ) : Type 0 where
  pub done : List (List ℕ)
  pub whole : taking_pieces (length old) (drop from pieces) ≡ done ++ taking_pieces (length old - size) (drop k pieces)
  pub next : k ≡ from + length done
  pub count : size ≡ length (flatten done)
  pub inside : size ≤ length old
  pub bytes : buf ≡ overlay (flatten done) old

-- what is left of bytes from place n on, as a slice of them has it
module _ (b : List ℕ) (n : ℕ) where
  abbrev pub rest : List ℕ
  rest = take (length b - n) (drop n b)

  rest_whole : rest ≡ drop n b
  rest_whole = take_all (length b - n) (drop n b) (omega (arith, length-drop n b))

  pub rest_length : length rest ≡ length b - n
  rest_length = ap length rest_whole ∙ length-drop n b

  -- nothing lies past it
  past_rest : (l : List ℕ) → l ++ drop (length b - n) (drop n b) ≡ l
  past_rest l = ap (λ r. l ++ r) (drop_of_length-le (drop n b) {i = length b - n} (omega (arith, length-drop n b))) ∙ append-nil l

pub putting_none : (pieces : List (List ℕ)) (from : ℕ) (old : List ℕ) → Putting pieces from from 0 old old
unfolding flatten
putting_none pieces from old =
    let z : length old ≡ length old - 0 = omega arith in
    record { done = []; whole = ap (λ room. taking_pieces room (drop from pieces)) z; next = omega arith; count = refl; inside = omega arith; bytes = sym (overlay_nil old) }

module _ {pieces : List (List ℕ)} {from k size : ℕ} {old buf : List ℕ} (p : Putting pieces from k size old buf) where
  pub putting_length : length buf ≡ length old
  putting_length = ap length p.bytes ∙ length_overlay (flatten p.done) old (omega (arith, p.count, p.inside))

  -- as many bytes as were put stand in what was left, which keeps its length
  pub putting_inside : {x part : List ℕ} {n : ℕ} → PutText x 0 (rest buf size) part n → length part ≡ length (rest buf size) → size + n ≤ length old
  putting_inside q e = omega (arith, put_inside q, e, rest_length buf size, putting_length, p.inside)

  -- piece k is put into what is left
  pub putting_turn : {part : List ℕ} {n : ℕ} → k < length pieces → line_room ≤ length buf - size → PutText (get_or pieces k []) 0 (rest buf size) part n → length part ≡ length (rest buf size) → Putting pieces from (k + 1) (size + n) old (take size buf ++ (part ++ drop (length buf - size) (drop size buf)))
  unfolding flatten
  putting_turn {part} {n} h room q e =
      let x = get_or pieces k [] in
      let w = put_whole q in
      let joined : flatten (p.done ++ (x ∷ [])) ≡ flatten p.done ++ x = flatten_append p.done (x ∷ []) ∙ ap (λ l. flatten p.done ++ l) (append-nil x) in
      let left : length old - size - length x ≡ length old - (size + n) = omega (arith, w.0) in
      record {
        done = p.done ++ (x ∷ []);
        whole =
            p.whole
            ∙ ap (λ l. p.done ++ l)
            (ap (taking_pieces (length old - size)) (drop-cons pieces k [] h) ∙ taking_turn {room = length old - size} x (drop (suc k) pieces) (omega (arith, putting_length))
            ∙ ap₂ (λ m j. x ∷ taking_pieces m (drop j pieces)) left (sym (add-one k)))
            ∙ sym (append_assoc p.done (x ∷ []) (taking_pieces (length old - (size + n)) (drop (k + 1) pieces)));
        next = omega (arith, p.next, length-append p.done (x ∷ []));
        count = omega (arith, p.count, w.0, ap length joined, length-append (flatten p.done) x);
        inside = putting_inside q e;
        bytes =
            ap (λ l. take size buf ++ l) (past_rest buf size part ∙ w.1 ∙ ap (overlay x) (rest_whole buf size)) ∙ ap₂ (λ m b. take m b ++ overlay x (drop m b)) p.count p.bytes
            ∙ overlay_grow (flatten p.done) x old ∙ ap (λ t. overlay t old) (sym joined);
      }

  -- what is put is what a call puts
  module _ (e : taking_pieces (length old - size) (drop k pieces) ≡ []) where
    handed_is : taking_pieces (length old) (drop from pieces) ≡ p.done
    handed_is = p.whole ∙ ap (λ l. p.done ++ l) e ∙ append-nil p.done

    handed : {m : Bool} → m ≡ ltb k (length pieces) → Handed pieces from old buf (record { size = size; next = k; more = m })
    handed m = record {
      size = p.count ∙ ap (λ l. length (flatten l)) (sym handed_is);
      next = p.next ∙ ap (λ l. from + length l) (sym handed_is);
      more = m;
      bytes = p.bytes ∙ ap (λ l. overlay (flatten l) old) (sym handed_is);
      fits = omega (arith, p.inside, putting_length);
    }

  pub handed_full : k < length pieces → length old - size < line_room → Handed pieces from old buf (record { size = size; next = k; more = true })
  handed_full h room = handed (taking_full (drop k pieces) room) (sym (lt-ltb k (length pieces) h))

  pub handed_all : length pieces ≤ k → Handed pieces from old buf (record { size = size; next = k; more = false })
  unfolding taking_pieces
  handed_all h = handed (ap (taking_pieces (length old - size)) (drop_of_length-le pieces h)) (sym (le-ltb k (length pieces) h))

-- of a job's pieces, and as many bytes as are lent to a call
pub handed_chunk :
    (bytes : List ℕ) {pieces : List (List ℕ)} {from : ℕ} {old new : List ℕ} {r : Chunk} → pieces ≡ pieces_of bytes → length old ≡ chunk_room → Handed pieces from old new r →
    (r.size ≡ length (flatten (chunk_of bytes from))) × ((r.next ≡ next_piece bytes from) × ((r.more ≡ more_of bytes from) × ((new ≡ overlay (flatten (chunk_of bytes from)) old) × IsPrefixLen r.size new)))
handed_chunk bytes {pieces} {from} {old} {new} {r} e n h =
    let put : taking_pieces (length old) (drop from pieces) ≡ chunk_of bytes from = ap₂ (λ room ps. taking_pieces room (drop from ps)) n e in
    let next : r.next ≡ next_piece bytes from = h.next ∙ ap (λ l. from + length l) put in
    let more : r.more ≡ more_of bytes from = h.more ∙ ap₂ (λ k ps. ltb k (length ps)) next e in
    let within : IsPrefixLen r.size new = (h.fits, sym (length-take-le r.size new h.fits)) in
    (h.size ∙ ap (λ l. length (flatten l)) put, (next, (more, (h.bytes ∙ ap (λ l. overlay (flatten l) old) put, within))))
