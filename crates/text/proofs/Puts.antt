-- Text put at a place of lent bytes. In order: nothing (`put_start`), and a whole text
-- (`put_piece`); the length is kept (`put_length`), so the bytes up to the place told are there
-- (`put_within`), another writing of the same text (`put_as`), the room left for what comes after
-- (`put_room`); nothing put (`put_none`), text on the front (`put_whole`), one text after another
-- (`put_after_lem`). Assumes nothing.
use mathlib.Core.Path.{◌≡◌, sym, ◌∙◌, ap}
use mathlib.Core.List.{List, [], ◌++◌, append_assoc, append-nil}
use Prim.Native.Nat.{ℕ, ◌+◌, ◌≤◌}
use native.Mathlib.Omega.{arith}
use lib.ListN.{length, take, drop, length-append, take-append-drop}
use borrow.Rule.Slice.PartMut.{put_mid}
use lib.Seq.{drop-drop, length-take-le}
use Rattle.io.specs.Counts.{IsPrefixLen}
use Rattle.integers.specs.Lists.{overlay}
use Rattle.integers.proofs.Overlay.{overlay_overlay, take_overlay, length_overlay}
use Rattle.text.specs.Put.{put_at, PutText}

-- ---- one text

module _ (from old : List ℕ) (at : ℕ) where
  -- nothing is put yet
  pub put_start : at ≤ length old → old ≡ put_at at (take 0 from) old
  unfolding put_at overlay
  put_start h =
      let e : length (take at old) ≡ at = length-take-le at old h in
      sym (ap (λ l. l ++ drop (length l) old) (append-nil (take at old)) ∙ ap (λ n. take at old ++ drop n old) e ∙ take-append-drop at old)

  -- all at once
  pub put_piece : {k r : ℕ} → at + length from ≤ length old → k ≡ length from → r ≡ at + length from → PutText from at old (put_mid at k old from) r
  unfolding put_at overlay
  put_piece {k} h e f =
      let size : at + k ≡ length (take at old ++ from) = omega (arith, length-append (take at old) from, length-take-le at old (omega arith)) in
      record {
        after = f;
        bytes = ap (λ d. take at old ++ (from ++ d)) (drop-drop k at old ∙ ap (λ j. drop j old) size) ∙ sym (append_assoc (take at old) from (drop (length (take at old ++ from)) old));
      }

-- ---- laws

module _ {t : List ℕ} {at : ℕ} {out out' : List ℕ} {r : ℕ} where
  pub put_length : PutText t at out out' r → at + length t ≤ length out → length out' ≡ length out
  unfolding put_at
  put_length p h =
      ap length p.bytes ∙ length_overlay (take at out ++ t) out (omega (arith, length-append (take at out) t, length-take-le at out (omega arith)))

  -- as many bytes as were told can be lent on
  pub put_within : PutText t at out out' r → at + length t ≤ length out → IsPrefixLen r out'
  put_within p h =
      let w : r ≤ length out' = omega (arith, p.after, put_length p h) in
      (w, sym (length-take-le r out' w))

  pub put_as : {u : List ℕ} → t ≡ u → PutText t at out out' r → PutText u at out out' r
  put_as e p = rw e at p

  -- the length that a text after this one finds, and where it goes
  pub put_room : (k : ℕ) → PutText t at out out' r → at + (length t + k) ≤ length out → r + k ≤ length out'
  put_room k p h = omega (arith, p.after, put_length p (omega arith))

pub put_none : {at : ℕ} (out : List ℕ) → at ≤ length out → PutText [] at out out at
put_none {at} out h = record { after = omega arith; bytes = put_start [] out at h }

pub put_whole : {t out out' : List ℕ} {r : ℕ} → PutText t 0 out out' r → (r ≡ length t) × (out' ≡ overlay t out)
unfolding put_at
put_whole p = (omega (arith, p.after), p.bytes)

-- b is put where a ends
pub put_after_lem : {a b : List ℕ} {at m n : ℕ} {o o' o'' : List ℕ} → at ≤ length o → PutText a at o o' m → PutText b m o' o'' n → PutText (a ++ b) at o o'' n
unfolding put_at
put_after_lem {a} {b} {at} {m} {n} {o} {o'} {o''} h p q =
    let f : List ℕ = take at o ++ a in
    let size : length f ≡ m = omega (arith, length-append (take at o) a, length-take-le at o h, p.after) in
    let front : take m o' ≡ f = ap (λ w. take m w) p.bytes ∙ ap (λ k. take k (overlay f o)) (sym size) ∙ take_overlay f o in
    let done : o'' ≡ overlay (f ++ b) o =
    q.bytes ∙ ap (λ w. overlay (w ++ b) o') front ∙ ap (overlay (f ++ b)) p.bytes ∙ overlay_overlay f (f ++ b) o (omega (arith, length-append f b)) in
    record {
      after = omega (arith, q.after, p.after, length-append a b);
      bytes = done ∙ ap (λ w. overlay w o) (append_assoc (take at o) a b);
    }
