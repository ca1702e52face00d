-- Parts gathered, read again: where part k begins and ends in the starts, and that its points are
-- the part (`part_placed`). Assumes nothing.
use mathlib.Core.Path.{◌≡◌, refl, sym, ◌∙◌, ap}
use mathlib.Core.List.{List, [], ◌∷◌, ◌++◌, map, flatten, append-nil}
use Prim.Native.Nat.{ℕ, zero, suc, ◌+◌, ◌-◌, ◌≤◌, ◌<◌}
use native.Mathlib.Nat.{zero-add}
use native.Mathlib.Numerals.{add-one}
use native.Mathlib.Omega.{arith}
use lib.ListN.{length, get_or, take, drop, length-append, length-take, length-map, take-append-drop}
use lib.Seq.{slice, take-suc, drop-cons, get_or-take, take-take, take-append-add, take-append_seam, drop-append_seam}
use lib.IntN.{ℤ}
use Rattle.integers.proofs.Elements.{map-drop, map-take}
use Rattle.integers.proofs.Sums.{flatten_append, length_flatten_append}
use Rattle.plane.specs.Plane.{Pt}
use Rattle.table.specs.Table.{starts_from, starts_of}
use Rattle.table.proofs.Parts.{length_starts}
use Rattle.corners.proofs.Corners.{take-drop}
use Rattle.points.specs.Points.{corner_of, first_points, corners_in}
use Rattle.points.specs.declared.Tally.{Tally}
use Rattle.points.specs.Gathered.{Gathered}

-- start j is the number of corners before part j
starts_at_lem : (k j : ℕ) (ps : List (List Pt)) → j ≤ length ps → get_or (starts_from k ps) j 0 ≡ k + length (flatten (take j ps))
unfolding starts_from flatten
starts_at_lem k zero [] h = omega arith
starts_at_lem k zero (p ∷ ps) h = omega arith
starts_at_lem k (suc j) [] h = absurd (omega arith)
starts_at_lem k (suc j) (p ∷ ps) h = omega (arith, starts_at_lem (k + length p) j ps (omega arith), length-append p (flatten (take j ps)))

-- the parts before part k, part k, and those after it
flatten_at : (ps : List (List Pt)) {k : ℕ} → k < length ps → flatten ps ≡ flatten (take k ps) ++ (get_or ps k [] ++ flatten (drop (suc k) ps))
unfolding flatten
flatten_at ps {k} h =
    ap flatten (sym (take-append-drop k ps)) ∙ flatten_append (take k ps) (drop k ps)
    ∙ ap (λ l. flatten (take k ps) ++ flatten l) (drop-cons ps k [] h)

-- where part k lies among the points: from a up to e
pub record PartPlaced (starts : List ℕ) (points : List (List ℤ)) (k : ℕ) (p : List Pt) : Type 0 where
  pub rises : get_or starts k 0 ≤ get_or starts (k + 1) 0
  pub within : get_or starts (k + 1) 0 ≤ length points
  pub corners : corners_in (take (get_or starts (k + 1) 0 - get_or starts k 0) (drop (get_or starts k 0) points)) ≡ p

module _ (starts : List ℕ) (points : List (List ℤ)) (t : Tally) (ps : List (List Pt)) (g : Gathered starts points t ps) where
  enough_points : t.corners ≤ length points
  enough_points = omega (arith, g.corners, ap length g.gathered, length-map (take t.corners points) corner_of, length-take t.corners points)

  -- one more start than parts
  pub enough_starts : t.parts < length starts
  enough_starts = omega (arith, ap length g.begins, length-take (t.parts + 1) starts, length_starts ps, g.parts)

  pub start_at : {j : ℕ} → j ≤ length ps → get_or starts j 0 ≡ length (flatten (take j ps))
  unfolding starts_of
  start_at {j} h = sym (get_or-take (t.parts + 1) starts j 0 (omega (arith, g.parts))) ∙ ap (λ s. get_or s j 0) g.begins ∙ starts_at_lem 0 j ps h ∙ zero-add (length (flatten (take j ps)))

  pub part_placed : {k : ℕ} → k < length ps → PartPlaced starts points k (get_or ps k [])
  unfolding flatten
  part_placed {k} h =
      let p = get_or ps k [] in
      let a : get_or starts k 0 ≡ length (flatten (take k ps)) = start_at (omega arith) in
      let more : flatten (take (suc k) ps) ≡ flatten (take k ps) ++ p = ap flatten (take-suc ps k [] h) ∙ flatten_append (take k ps) (p ∷ []) ∙ ap (λ l. flatten (take k ps) ++ l) (append-nil p) in
      let e : get_or starts (k + 1) 0 ≡ length (flatten (take k ps)) + length p = ap (λ n. get_or starts n 0) (add-one k) ∙ start_at (omega arith) ∙ ap length more ∙ length-append (flatten (take k ps)) p in
      let whole : length (flatten ps) ≡ length (flatten (take k ps)) + length (p ++ flatten (drop (suc k) ps)) = ap length (flatten_at ps h) ∙ length-append (flatten (take k ps)) (p ++ flatten (drop (suc k) ps)) in
      let few : get_or starts (k + 1) 0 ≤ t.corners = omega (arith, e, whole, length-append p (flatten (drop (suc k) ps)), g.corners) in
      record {
        rises = omega (arith, a, e);
        within = omega (arith, few, enough_points);
        corners =
            ap corners_in (take-drop (get_or starts k 0) (get_or starts (k + 1) 0) points (omega (arith, a, e)) ∙ ap (drop (get_or starts k 0)) (sym (take-take (get_or starts (k + 1) 0) t.corners points few)))
            ∙ map-drop corner_of (get_or starts k 0) (take (get_or starts (k + 1) 0) (take t.corners points))
            ∙ ap (drop (get_or starts k 0)) (map-take corner_of (get_or starts (k + 1) 0) (take t.corners points))
            ∙ ap (λ l. slice (get_or starts k 0) (get_or starts (k + 1) 0) l) (g.gathered ∙ flatten_at ps h)
            ∙ (λ i. slice (a i) (e i) (flatten (take k ps) ++ (p ++ flatten (drop (suc k) ps))))
            ∙ middle (flatten (take k ps)) p (flatten (drop (suc k) ps));
      }
    where
      middle : {A : Type 0} (front p rest : List A) → slice (length front) (length front + length p) (front ++ (p ++ rest)) ≡ p
      middle front p rest = rw (take-append-add, take-append_seam, drop-append_seam)
