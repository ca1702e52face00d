-- Words written into lent bytes: laws of `put_words` of `specs/Place.antt`. In order: a word is put
-- in one piece; length; one word more; words after words; from the front on. Assumes nothing.
use mathlib.Core.Path.{◌≡◌, refl, sym, ◌∙◌, ap}
use mathlib.Core.List.{List, [], ◌∷◌, ◌++◌, flatten, append_assoc, append-nil}
use Prim.Native.Nat.{ℕ, ◌+◌, ◌*◌, ◌≤◌}
use native.Mathlib.Omega.{arith}
use borrow.Rule.Slice.PartMut.{put_mid}
use lib.ListN.{length, take, drop, length-append, length-drop, take-append-drop}
use lib.Seq.{length-take-le, take_at, drop-drop, drop-append-add}
use Rattle.integers.specs.Lists.{overlay}
use Rattle.table.specs.Stored.{bytes_of, word_bytes}
use Rattle.table.proofs.Words.{length-word_bytes, word_bytes_cons, word_bytes_append}
use Rattle.table_words.specs.Place.{put_words}

one_word : (w : ℕ) → word_bytes (w ∷ []) ≡ bytes_of w
unfolding word_bytes bytes_of flatten
one_word w = word_bytes_cons w [] ∙ append-nil (bytes_of w)

-- a word's bytes, put in one piece
pub put_one : (k w : ℕ) (old : List ℕ) {n : ℕ} → n ≡ 4 → put_mid (4 * k) n old (bytes_of w) ≡ put_words k (w ∷ []) old
unfolding put_words
put_one k w old {n} e =
    let rest : drop n (drop (4 * k) old) ≡ drop (4 * k + 4 * 1) old = drop-drop n (4 * k) old ∙ ap (λ j. drop j old) (omega (arith, e)) in
    (λ i. take (4 * k) old ++ (sym (one_word w) i ++ rest i)) ∙ sym (append_assoc (take (4 * k) old) (word_bytes (w ∷ [])) (drop (4 * k + 4 * 1) old))

put_eq : (k : ℕ) (ws old : List ℕ) → put_words k ws old ≡ take (4 * k) old ++ word_bytes ws ++ drop (4 * k + 4 * length ws) old
unfolding put_words
put_eq k ws old = refl

-- behind n words
put_behind : (n : ℕ) (vs P C : List ℕ) → length P ≡ 4 * n → put_words n vs (P ++ C) ≡ P ++ word_bytes vs ++ drop (4 * length vs) C
unfolding put_words
put_behind n vs P C e = (λ i. take_at P C (4 * n) e i ++ word_bytes vs ++ past i)
  where
    past : drop (4 * n + 4 * length vs) (P ++ C) ≡ drop (4 * length vs) C
    past = ap (λ j. drop (j + 4 * length vs) (P ++ C)) (sym e) ∙ drop-append-add P C (4 * length vs)

module _ (k : ℕ) (ws old : List ℕ) (h : 4 * k + 4 * length ws ≤ length old) where
  front : length (take (4 * k) old) ≡ 4 * k
  front = length-take-le (4 * k) old (omega arith)

  pub length_put : length (put_words k ws old) ≡ length old
  unfolding put_words
  length_put = simp (length-append, length-drop, length-word_bytes) (omega (arith, front))

  -- words after words
  pub put_put : (vs : List ℕ) → put_words (k + length ws) vs (put_words k ws old) ≡ put_words k (ws ++ vs) old
  put_put vs =
      let a = take (4 * k) old in
      let b = word_bytes ws in
      let v = word_bytes vs in
      let n : length (take (4 * k) old ++ word_bytes ws) ≡ 4 * (k + length ws) = omega (arith, length-append (take (4 * k) old) (word_bytes ws), front, length-word_bytes ws) in
      let m : 4 * k + 4 * length ws + 4 * length vs ≡ 4 * k + 4 * length (ws ++ vs) = omega (arith, length-append ws vs) in
      let q : drop (4 * length vs) (drop (4 * k + 4 * length ws) old) ≡ drop (4 * k + 4 * length (ws ++ vs)) old = drop-drop (4 * length vs) (4 * k + 4 * length ws) old ∙ ap (λ j. drop j old) m in
      let p = append_assoc a b v ∙ ap (λ r. a ++ r) (sym (word_bytes_append ws vs)) in
      ap (put_words (k + length ws) vs) (put_eq k ws old) ∙ put_behind (k + length ws) vs (a ++ b) (drop (4 * k + 4 * length ws) old) n
      ∙ (λ i. p i ++ q i) ∙ sym (put_eq k (ws ++ vs) old)

pub put_none : (k : ℕ) {old : List ℕ} → put_words k [] old ≡ old
unfolding put_words word_bytes flatten
put_none k {old} = let n : 4 * k + 0 ≡ 4 * k = omega arith in
    (λ i. append-nil (take (4 * k) old) i ++ drop (n i) old) ∙ take-append-drop (4 * k) old

-- from the front on
pub put_front : (ws old : List ℕ) → put_words 0 ws old ≡ overlay (word_bytes ws) old
unfolding put_words overlay
put_front ws old =
    let n : 4 * 0 + 4 * length ws ≡ length (word_bytes ws) = omega (arith, length-word_bytes ws) in
    ap (λ j. word_bytes ws ++ drop j old) n
