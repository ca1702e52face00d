-- A contour with its first corner once more at the end: its corners (`closed_near`, `closed_last`),
-- and arcs of it (`length_arc`) appended (`near_appended`, `far_appended`). Assumes nothing.
use mathlib.Core.Path.{◌≡◌, sym, ◌∙◌, ap, subst}
use mathlib.Core.List.{List, [], ◌∷◌, ◌++◌}
use Prim.Native.Nat.{ℕ, ◌+◌, ◌-◌, ◌≤◌, ◌<◌}
use native.Mathlib.Omega.{arith}
use lib.ListN.{length, get_or, take, drop, length-append, length-drop, length-map, get_or-append}
use lib.Seq.{take_all, take-append-le, drop-append-le, get_or_at, length-take-le}
use lib.IntN.{ℤ}
use Rattle.plane.specs.Plane.{O}
use Rattle.points.specs.Points.{corner_of, corner_in, Appended, corners_in}
use Rattle.points.proofs.Points.{appended_more}
use Rattle.split_chords.specs.Runs.{run_of}
use Rattle.split_chords.proofs.Appending.{corner_in_lem}
use Rattle.split_sectors.specs.Arcs.{closed_of, arc_of}

module _ (contour : List (List ℤ)) where
  length_in : length (corners_in contour) ≡ length contour
  length_in = length-map contour corner_of

  pub length_closed : length (closed_of contour) ≡ length contour + 1
  length_closed = omega (arith, length-append (corners_in contour) (corner_in contour 0 ∷ []), length_in)

  pub closed_near : {i : ℕ} → i < length contour → get_or (closed_of contour) i O ≡ corner_in contour i
  closed_near {i} h = get_or-append (corners_in contour) (corner_in contour 0 ∷ []) O i (omega (arith, length_in)) ∙ corner_in_lem contour i

  pub closed_last : {i : ℕ} → i ≡ length contour → get_or (closed_of contour) i O ≡ corner_in contour 0
  closed_last {i} e = get_or_at (corners_in contour) (corner_in contour 0) [] O i (length_in ∙ sym e)

  pub length_arc : (i n : ℕ) → i + n ≤ length contour + 1 → length (arc_of contour i n) ≡ n
  length_arc i n h = length-take-le n (drop i (closed_of contour)) (omega (arith, length-drop i (closed_of contour), length_closed))

  module _ {i : ℕ} (n : ℕ) (h : i < length contour) where
    past : drop i (closed_of contour) ≡ drop i (corners_in contour) ++ (corner_in contour 0 ∷ [])
    past = drop-append-le i (corners_in contour) (corner_in contour 0 ∷ []) (omega (arith, length_in))

    arc_near : n ≤ length contour - i → run_of contour i n ≡ arc_of contour i n
    arc_near k = sym (ap (take n) past ∙ take-append-le n (drop i (corners_in contour)) (corner_in contour 0 ∷ []) (omega (arith, length-drop i (corners_in contour), length_in)))

    -- with the first corner once more
    arc_far : length contour - i < n → run_of contour i (length contour - i) ++ (corner_in contour 0 ∷ []) ≡ arc_of contour i n
    arc_far k =
        ap (λ l. l ++ (corner_in contour 0 ∷ [])) (take_all (length contour - i) (drop i (corners_in contour)) (omega (arith, length-drop i (corners_in contour), length_in)))
        ∙ sym (ap (take n) past ∙ take_all n (drop i (corners_in contour) ++ (corner_in contour 0 ∷ [])) (omega (arith, length-append (drop i (corners_in contour)) (corner_in contour 0 ∷ []), length-drop i (corners_in contour), length_in)))

    module _ {points : List (List ℤ)} {count : ℕ} {points'' : List (List ℤ)} {total : ℕ} where
      pub near_appended : n ≤ length contour - i → Appended (run_of contour i n) points count points'' total → Appended (arc_of contour i n) points count points'' total
      near_appended k = subst (λ l. Appended l points count points'' total) (arc_near k)

      pub far_appended : {points' : List (List ℤ)} {most : ℕ} → length contour - i < n → Appended (run_of contour i (length contour - i)) points count points' most → Appended (corner_in contour 0 ∷ []) points' most points'' total → Appended (arc_of contour i n) points count points'' total
      far_appended k a b = subst (λ l. Appended l points count points'' total) (arc_far k) (appended_more a b)
