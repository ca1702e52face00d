-- The text of corners. In order: none, one more before the others, two lists; corner k, which code
-- reads as p: there is room for it (`corner_room`), and it is put after those before it
-- (`corner_put`). Assumes nothing.
use mathlib.Core.Path.{◌≡◌, refl, sym, ◌∙◌, ap}
use mathlib.Core.List.{List, [], ◌∷◌, ◌++◌, flatten, append_assoc, append-nil}
use Prim.Native.Nat.{ℕ, ◌+◌, ◌≤◌, ◌<◌}
use native.Mathlib.Numerals.{add-one}
use native.Mathlib.Omega.{arith}
use lib.ListN.{length, take, drop, get_or, length-append, take-append-drop}
use lib.Seq.{take-suc, take_all}
use Rattle.plane.specs.declared.IntPoint.{IntPoint}
use Rattle.plane.specs.Plane.{Pt, O}
use Rattle.plane.specs.Machine.{point}
use Rattle.text.specs.Text.{corner_text, corners_text}
use Rattle.text.specs.Put.{PutText}
use Rattle.text.proofs.Puts.{put_after_lem, put_as, put_none}

pub corners_none : corners_text [] ≡ []
unfolding corners_text flatten
corners_none = refl

pub corners_more : (p : Pt) (ps : List Pt) → corners_text (p ∷ ps) ≡ corner_text p ++ corners_text ps
unfolding corners_text flatten
corners_more p ps = refl

corners_one : (p : Pt) → corners_text (p ∷ []) ≡ corner_text p
corners_one p = corners_more p [] ∙ ap (λ t. corner_text p ++ t) corners_none ∙ append-nil (corner_text p)

pub corners_append : (a b : List Pt) → corners_text (a ++ b) ≡ corners_text a ++ corners_text b
corners_append [] b = sym (ap (λ t. t ++ corners_text b) corners_none)
corners_append (p ∷ a) b =
    corners_more p (a ++ b) ∙ ap (λ t. corner_text p ++ t) (corners_append a b) ∙ sym (append_assoc (corner_text p) (corners_text a) (corners_text b))
    ∙ sym (ap (λ t. t ++ corners_text b) (corners_more p a))

module _ (l : List Pt) {k : ℕ} (h : k < length l) {p : IntPoint} (q : point p ≡ get_or l k O) where
  -- the first k + 1
  corner_next : corners_text (take (k + 1) l) ≡ corners_text (take k l) ++ corner_text (point p)
  corner_next =
      ap (λ m. corners_text (take m l)) (add-one k) ∙ ap corners_text (take-suc l k O h) ∙ corners_append (take k l) (get_or l k O ∷ [])
      ∙ ap (λ t. corners_text (take k l) ++ t) (corners_one (get_or l k O) ∙ ap corner_text (sym q))

  pub corner_room : length (corners_text (take k l)) + length (corner_text (point p)) ≤ length (corners_text l)
  corner_room =
      omega (
        arith,
        ap length (ap corners_text (sym (take-append-drop (k + 1) l)) ∙ corners_append (take (k + 1) l) (drop (k + 1) l)),
        length-append (corners_text (take (k + 1) l)) (corners_text (drop (k + 1) l)),
        ap length corner_next,
        length-append (corners_text (take k l)) (corner_text (point p)),
      )

  pub corner_put :
      {at m n : ℕ} {o o' o'' : List ℕ} → at ≤ length o → PutText (corners_text (take k l)) at o o' m → PutText (corner_text (point p)) m o' o'' n →
      PutText (corners_text (take (k + 1) l)) at o o'' n
  corner_put h s t = put_as (sym corner_next) (put_after_lem h s t)

-- none is put yet, and all are
pub corners_start : (l : List Pt) {at : ℕ} (o : List ℕ) → at ≤ length o → PutText (corners_text (take 0 l)) at o o at
corners_start l {at} o h = put_as (sym corners_none) (put_none o h)

pub corners_all : (l : List Pt) {k : ℕ} {at r : ℕ} {o o' : List ℕ} → length l ≤ k → PutText (corners_text (take k l)) at o o' r → PutText (corners_text l) at o o' r
corners_all l {k} h s = put_as (ap corners_text (take_all k l h)) s
