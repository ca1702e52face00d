-- Numbers copied after the first corners of a list (`copied`). Assumes nothing.
use Rattle.std.proofs.Common.{◌≡◌, ℕ, ◌+◌, ◌*◌, ◌≤◌, List, ◌++◌, length, take, drop, sym, ap, ◌∙◌, append_assoc, arith, length-append, length-drop, length-take-le, drop-drop}
use borrow.Rule.Slice.PartMut.{put_mid}
use lib.IntN.{ℤ}
use Rattle.integers.specs.Lists.{overlay}
use Rattle.integers.proofs.Overlay.{overlay_eq, take_overlay, drop_overlay}
use Rattle.corners.specs.Copying.{Copied}

module _ (from out : List ℤ) (a n k : ℕ) (h : n ≤ length from) (l : a + n ≤ length out) (e : k ≡ n) where
  put_length : length (put_mid a k out (take n from)) ≡ length out
  put_length = simp (length-append, length-drop) (omega (arith, length-take-le n from h, length-take-le a out (omega arith), e, l))

  put_onto : (front old : List ℤ) → length front ≡ a → out ≡ overlay front old → put_mid a k out (take n from) ≡ overlay (front ++ take n from) old
  put_onto front old f o =
      let front_is : take a out ≡ front = ap (take a) o ∙ ap (λ m. take m (overlay front old)) (sym f) ∙ take_overlay front old in
      let rest_is : drop a out ≡ drop a old = ap (drop a) o ∙ ap (λ m. drop m (overlay front old)) (sym f) ∙ drop_overlay front old ∙ ap (λ m. drop m old) f in
      let size : a + k ≡ length (front ++ take n from) = omega (arith, f, e, length-append front (take n from), length-take-le n from h) in
      (λ i. front_is i ++ (take n from ++ drop k (rest_is i)))
      ∙ ap (λ d. front ++ (take n from ++ d)) (drop-drop k a old ∙ ap (λ m. drop m old) size)
      ∙ sym (append_assoc front (take n from) (drop (length (front ++ take n from)) old))
      ∙ sym (overlay_eq (front ++ take n from) old)

pub copied : (from out : List ℤ) (at : ℕ) {n k : ℕ} → n ≤ length from → 2 * at + n ≤ length out → k ≡ n → Copied from at n out (put_mid (2 * at) k out (take n from))
copied from out at {n} {k} h l e = record { size = put_length from out (2 * at) n k h l e; written = put_onto from out (2 * at) n k h l e }
