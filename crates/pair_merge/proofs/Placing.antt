-- Corners put into lent numbers: one (`put_one`), none, some and then more (`reached_start`,
-- `reached_more`, `reached_end`), and the room that is left (`reached_room`). Assumes nothing.
use mathlib.Core.Path.{◌≡◌, refl, sym, ◌∙◌, ap}
use mathlib.Core.List.{List, [], ◌∷◌, ◌++◌, append_assoc, append-nil}
use Prim.Native.Nat.{ℕ, ◌+◌, ◌*◌, ◌<◌}
use native.Mathlib.Omega.{arith}
use lib.ListN.{length, set, drop, length-append, length-drop, length-set}
use lib.IntN.{ℤ}
use Rattle.integers.specs.Lists.{overlay}
use Rattle.integers.proofs.Overlay.{overlay_eq, overlay_two}
use Rattle.plane.specs.Plane.{Pt}
use Rattle.corners.specs.Corners.{numbers_of}
use Rattle.corners.proofs.Corners.{length_numbers, numbers_append}
use Rattle.pair_merge.specs.Putting.{RoomAfter, CornersPut, Reached}

-- two numbers stored are a corner put
pub put_one : (p : Pt) {out : List ℤ} {k : ℕ} {out' : List ℤ} → RoomAfter (p ∷ []) out k → out' ≡ set (set out (2 * k) p.x) (2 * k + 1) p.y → CornersPut (p ∷ []) out k out' (k + 1)
unfolding numbers_of
put_one p {out} {k} {out'} h e = record {
  size = ap length e ∙ length-set (set out (2 * k) p.x) (2 * k + 1) p.y ∙ length-set out (2 * k) p.x;
  count = refl;
  written = written;
}
  where
    written : (done : List Pt) (old : List ℤ) → length done ≡ k → out ≡ overlay (numbers_of done) old → out' ≡ overlay (numbers_of (done ++ (p ∷ []))) old
    written done old d o =
        let n = numbers_of done in
        let size : length n ≡ 2 * k = omega (arith, length_numbers done) in
        let room : 2 * k + 1 < length old = omega (arith, ap length (o ∙ overlay_eq n old), length-append n (drop (length n) old), length-drop (length n) old) in
        e ∙ overlay_two n old p.x p.y o size room ∙ ap (λ l. overlay l old) (sym (numbers_append done (p ∷ [])))

-- nothing put yet
pub reached_start : (whole : List Pt) (out : List ℤ) (n : ℕ) → Reached whole whole out n out n
reached_start whole out n = record {
  done = [];
  split = refl;
  put = record { size = refl; count = omega arith; written = λ done old e o. o ∙ ap (λ l. overlay (numbers_of l) old) (sym (append-nil done)) };
}

-- the next ones put
pub reached_more : {whole : List Pt} {x : List Pt} (left : List Pt) {out out' out'' : List ℤ} {n k m : ℕ} → Reached whole (x ++ left) out n out' k → CornersPut x out' k out'' m → Reached whole left out n out'' m
reached_more {x} left {n = n} {k = k} r p = record {
  done = r.done ++ x;
  split = r.split ∙ sym (append_assoc r.done x left);
  put = record {
    size = p.size ∙ r.put.size;
    count = omega (arith, p.count, r.put.count, length-append r.done x);
    written = λ done old e o.
        p.written (done ++ r.done) old (omega (arith, e, length-append done r.done, r.put.count)) (r.put.written done old e o)
        ∙ ap (λ l. overlay (numbers_of l) old) (append_assoc done r.done x);
  };
}

-- all put
pub reached_end : {whole : List Pt} {out out' : List ℤ} {n k : ℕ} → Reached whole [] out n out' k → CornersPut whole out n out' k
reached_end {whole} r =
    let e : r.done ≡ whole = sym (r.split ∙ append-nil r.done) in
    record {
      size = r.put.size;
      count = r.put.count ∙ ap (λ l. _ + length l) e;
      written = λ done old d o. r.put.written done old d o ∙ ap (λ l. overlay (numbers_of (done ++ l)) old) e;
    }

-- what is left has room
pub reached_room : {whole : List Pt} {left : List Pt} {out out' : List ℤ} {n k : ℕ} → Reached whole left out n out' k → RoomAfter whole out n → RoomAfter left out' k
reached_room {left} r h = omega (arith, r.put.size, r.put.count, ap length r.split, length-append r.done left)
