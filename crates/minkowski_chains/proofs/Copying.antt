-- Corners of a work buffer put one after another: none yet (`copied_start`), one more
-- (`copied_next`). Assumes nothing.
use mathlib.Core.Path.{◌≡◌, refl, sym, ◌∙◌, ap, subst}
use mathlib.Core.List.{List, [], ◌∷◌, ◌++◌, append-nil}
use Prim.Native.Nat.{ℕ, ◌+◌, ◌*◌, ◌≤◌}
use native.Mathlib.Omega.{arith}
use native.Mathlib.Numerals.{add-one}
use lib.IntN.{ℤ}
use lib.ListN.{length, take, get_or}
use lib.Seq.{take-suc}
use Rattle.integers.specs.Lists.{overlay}
use Rattle.plane.specs.Plane.{Pt, O}
use Rattle.corners.specs.Corners.{points_of, numbers_of, with_corner}
use Rattle.corners.proofs.Corners.{length_points, points_take}
use Rattle.pair_merge.specs.Putting.{RoomAfter, CornersPut, Reached}
use Rattle.pair_merge.proofs.Placing.{put_one, reached_more, reached_end}
use Rattle.minkowski_chains.specs.Contours.{work_corners}

pub copied_start : (work out : List ℤ) (at : ℕ) → CornersPut (work_corners 0 work) out at out (at + 0)
copied_start work out at = record {
  size = refl;
  count = omega (arith, ap length (points_take 0 work));
  written = λ done old e o. o ∙ ap (λ l. overlay (numbers_of l) old) (sym (append-nil done) ∙ ap (λ l. done ++ l) (sym (points_take 0 work)));
}

-- the corners up to the next one
one_more : (work : List ℤ) (k : ℕ) → 2 * (k + 1) ≤ length work → work_corners (k + 1) work ≡ work_corners k work ++ (get_or (points_of work) k O ∷ [])
one_more work k h = points_take (k + 1) work ∙ ap (λ n. take n (points_of work)) (add-one k) ∙ take-suc (points_of work) k O (omega (arith, h, length_points work)) ∙ ap (λ l. l ++ (get_or (points_of work) k O ∷ [])) (sym (points_take k work))

pub copied_next : (work : List ℤ) {out out' out'' : List ℤ} {at : ℕ} (k : ℕ) → 2 * (k + 1) ≤ length work
    → CornersPut (work_corners k work) out at out' (at + k) → RoomAfter (get_or (points_of work) k O ∷ []) out' (at + k) → out'' ≡ with_corner out' (at + k) (get_or (points_of work) k O)
    → CornersPut (work_corners (k + 1) work) out at out'' (at + (k + 1))
copied_next work {out} {out'} {out''} {at} k h c room e =
    let p = get_or (points_of work) k O in
    let r : Reached (work_corners k work ++ (p ∷ [])) (p ∷ []) out at out' (at + k) = record { done = work_corners k work; split = refl; put = c } in
    let q = reached_end (reached_more [] r (put_one p room e)) in
    subst (λ l. CornersPut l out at out'' (at + (k + 1))) (sym (one_more work k h)) (subst (λ n. CornersPut (work_corners k work ++ (p ∷ [])) out at out'' n) (omega arith) q)
