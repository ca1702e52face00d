-- The ears in turn (`Clipping`: `clipping_start`, `clipping_room`, `clipping_turn`,
-- `clipping_end`). Assumes nothing.
use mathlib.Core.Path.{◌≡◌, sym, ◌∙◌, ap, ap₂}
use mathlib.Core.Bool.{cond}
use mathlib.Core.List.{List, [], ◌∷◌, ◌++◌, map, map-append}
use Prim.Native.Nat.{ℕ, suc, ◌+◌, ◌-◌, ◌/◌, ◌%◌, ◌≤◌, ◌<◌}
use native.Mathlib.Omega.{arith}
use lib.Dec.{ltb}
use lib.ListN.{length, get_or, set, take, drop, length-append, length-drop, length-map}
use lib.Seq.{take_all, length-take-le}
use lib.IntN.{ℤ}
use Rattle.integers.specs.Lists.{sumℕ, up_to}
use Rattle.integers.proofs.Counting.{length-up_to, get_or-up_to, map-get_or-up_to}
use Rattle.integers.proofs.Elements.{map-drop, map-take}
use Rattle.plane.specs.Plane.{Pt, O}
use Rattle.points.specs.Points.{corner_of, corner_in, corners_in}
use Rattle.points.specs.declared.Tally.{Tally}
use Rattle.points.specs.Gathered.{RoomFor, PartsAppended}
use Rattle.split.specs.Splitting.{shares_from, shares, ceil_div, triangle_shares, clipped, ear_parts}
use Rattle.split.proofs.Shares.{sum_shares}
use Rattle.split_chords.proofs.Appending.{corner_in_lem, Partway, partway_start, partway_room, partway_turn, partway_end}
use Rattle.split_chords.proofs.Groups.{shares_next, sum_next, shares_none, shares_all}
use Rattle.split_ears.specs.Rings.{stepped, corners_after, Fresh}
use Rattle.split_ears.proofs.Ringing.{Ringed, ringed_start, ringed_ear, ringed_turn, ringed_next}

-- the ears from group i on, of n triangles in k groups, of the corners ks
abbrev ears_from : List (List ℤ) → ℕ → ℕ → ℕ → List ℕ → List (List Pt)
ears_from contour n k i ks = clipped (shares_from n k i (k - i)) (map (corner_in contour) ks)

-- the ears before group i are appended, and the ring holds what they leave, from corner start on
pub record Clipping (contour : List (List ℤ)) (qs : List (List Pt)) (n k i start : ℕ) (ring s₀ : List ℕ) (p₀ : List (List ℤ)) (t₀ : Tally) (s : List ℕ) (p : List (List ℤ)) (t : Tally) : Type 0 where
  pub left : List ℕ
  pub ringed : Ringed ring (length contour) left
  pub here : start ≡ get_or left 0 0
  pub size : length left ≡ sumℕ (shares_from n k i (k - i)) + 2
  pub partway : Partway qs (ears_from contour n k i left) s₀ p₀ t₀ s p t

-- all corners, by their numbers
corners_all : (contour : List (List ℤ)) → map (corner_in contour) (up_to (length contour)) ≡ corners_in contour
corners_all contour =
    ap (λ f. map f (up_to (length contour))) (λ j i. sym (corner_in_lem contour i) j) ∙ map-get_or-up_to (corners_in contour) O (length contour) (omega (arith, length-map contour corner_of))
    ∙ take_all (length contour) (corners_in contour) (omega (arith, length-map contour corner_of))

module _ (contour : List (List ℤ)) (s₀ : List ℕ) (p₀ : List (List ℤ)) (t₀ : Tally) where
  pub clipping_start : (limit : ℕ) {ring : List ℕ} {k : ℕ} → 3 ≤ length contour → 0 < k → k ≡ ceil_div (length contour - 2) (limit - 2) → Fresh ring (length contour) → Clipping contour (ear_parts limit (corners_in contour)) (length contour - 2) k 0 0 ring s₀ p₀ t₀ s₀ p₀ t₀
  clipping_start limit {k} h some e f = record {
    left = up_to (length contour);
    ringed = ringed_start (omega arith) f;
    here = sym (get_or-up_to (length contour) 0 (omega arith));
    size = omega (arith, h, length-up_to (length contour), ap sumℕ (shares_all (length contour - 2) k), sum_shares (length contour - 2) some);
    partway = partway_start s₀ p₀ t₀
        (ap₂ clipped (shares_all (length contour - 2) k ∙ ap (shares (length contour - 2)) e ∙ ap (λ n. triangle_shares n limit) (sym (length-map contour corner_of))) (corners_all contour));
  }

  module _ (qs : List (List Pt)) (n k i start : ℕ) (ring : List ℕ) {s : List ℕ} {p : List (List ℤ)} {t : Tally} (f : Clipping contour qs n k i start ring s₀ p₀ t₀ s p t) where
    pub clipping_within : start < length contour
    clipping_within = omega (arith, f.here, f.ringed.within 0 (omega (arith, f.size)))

    module _ (h : i < k) {m : ℕ} (e : m ≡ n / k + cond (ltb i (n % k)) 1 0) where
      -- what the next ear leaves
      abbrev rest : List ℕ
      rest = drop (m + 1) f.left ++ take 1 f.left

      enough : m + 1 < length f.left
      enough = omega (arith, f.size, sum_next n h, e)

      ear : take (m + 2) (map (corner_in contour) f.left) ≡ corner_in contour start ∷ corners_after contour ring start (m + 1)
      ear =
          let q : m + 2 ≡ suc (m + 1) = omega arith in
          ap (λ j. take j (map (corner_in contour) f.left)) q ∙ sym (ringed_ear f.ringed contour (m + 1) enough)
          ∙ ap (λ j. corner_in contour j ∷ corners_after contour ring j (m + 1)) (sym f.here)

      left_corners : drop (m + 1) (map (corner_in contour) f.left) ++ take 1 (map (corner_in contour) f.left) ≡ map (corner_in contour) rest
      left_corners = ap₂ ◌++◌ (sym (map-drop (corner_in contour) (m + 1) f.left)) (sym (map-take (corner_in contour) 1 f.left)) ∙ sym (map-append (corner_in contour) (drop (m + 1) f.left) (take 1 f.left))

      next : ears_from contour n k i f.left ≡ ((corner_in contour start ∷ corners_after contour ring start (m + 1)) ∷ []) ++ ears_from contour n k (i + 1) rest
      unfolding clipped
      next =
          ap (λ ss. clipped ss (map (corner_in contour) f.left)) (shares_next n h ∙ ap (λ q. q ∷ shares_from n k (i + 1) (k - (i + 1))) (sym e))
          ∙ ap₂ (λ q l. q ∷ clipped (shares_from n k (i + 1) (k - (i + 1))) l) ear left_corners

      pub clipping_room : RoomFor s₀ p₀ t₀ qs → RoomFor s p t ((corner_in contour start ∷ corners_after contour ring start (m + 1)) ∷ [])
      clipping_room r = partway_room s₀ p₀ t₀ ((corner_in contour start ∷ corners_after contour ring start (m + 1)) ∷ []) (ears_from contour n k (i + 1) rest) r f.partway next

      module _ {ring' : List ℕ} {start' : ℕ} {s' : List ℕ} {p' : List (List ℤ)} {t' : Tally} where
        pub clipping_turn : (ring' ≡ set ring start (stepped ring start (m + 1))) × PartsAppended ((corner_in contour start ∷ corners_after contour ring start (m + 1)) ∷ []) s p t s' p' t' → start' ≡ get_or ring' start 0 → Clipping contour qs n k (i + 1) start' ring' s₀ p₀ t₀ s' p' t'
        clipping_turn a b =
            let c : ring' ≡ set ring (get_or f.left 0 0) (stepped ring (get_or f.left 0 0) (m + 1)) = a.0 ∙ ap (λ j. set ring j (stepped ring j (m + 1))) f.here in
            record {
              left = rest;
              ringed = ringed_turn f.ringed (omega arith) enough c;
              here = b ∙ ap (λ j. get_or ring' j 0) f.here ∙ ringed_next f.ringed (omega arith) enough c;
              size = omega (arith, f.size, sum_next n h, e, length-append (drop (m + 1) f.left) (take 1 f.left), length-drop (m + 1) f.left, length-take-le 1 f.left (omega (arith, enough)));
              partway = partway_turn s₀ p₀ t₀ f.partway next a.1;
            }

    pub clipping_end : k ≤ i → PartsAppended qs s₀ p₀ t₀ s p t
    unfolding clipped
    clipping_end h = partway_end s₀ p₀ t₀ f.partway (ap (λ ss. clipped ss (map (corner_in contour) f.left)) (shares_none n h))
