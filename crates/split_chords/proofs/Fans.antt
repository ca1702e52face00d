-- The parts of a fan in turn (`Fanning`: `fanning_start`, `fanning_room`, `fanning_turn`,
-- `fanning_end`). Assumes nothing.
use mathlib.Core.Path.{◌≡◌, sym, ◌∙◌, ap}
use mathlib.Core.Bool.{cond}
use mathlib.Core.List.{List, [], ◌∷◌, ◌++◌}
use Prim.Native.Nat.{ℕ, suc, ◌+◌, ◌-◌, ◌/◌, ◌%◌, ◌≤◌, ◌<◌}
use native.Mathlib.Omega.{arith}
use lib.Dec.{ltb}
use lib.ListN.{length, drop, length-map}
use lib.Seq.{drop-drop}
use lib.IntN.{ℤ}
use Rattle.integers.specs.Lists.{sumℕ}
use Rattle.plane.specs.Plane.{Pt}
use Rattle.points.specs.Points.{corner_of, corner_in, corners_in}
use Rattle.points.specs.declared.Tally.{Tally}
use Rattle.points.specs.Gathered.{RoomFor, PartsAppended}
use Rattle.split.specs.Splitting.{shares_from, shares, ceil_div, triangle_shares, fanned, fan_parts}
use Rattle.split.proofs.Shares.{sum_shares}
use Rattle.split_chords.specs.Runs.{run_of}
use Rattle.split_chords.proofs.Appending.{Partway, partway_start, partway_room, partway_turn, partway_end}
use Rattle.split_chords.proofs.Groups.{shares_next, sum_next, shares_none, shares_all}

-- the parts from group i on, of n triangles in k groups, that go on at corner start
abbrev fan_from : List (List ℤ) → ℕ → ℕ → ℕ → ℕ → List (List Pt)
fan_from contour n k i start = fanned (shares_from n k i (k - i)) (corner_in contour 0) (drop start (corners_in contour))

-- the parts before group i are appended
pub record Fanning (contour : List (List ℤ)) (qs : List (List Pt)) (n k i start : ℕ) (s₀ : List ℕ) (p₀ : List (List ℤ)) (t₀ : Tally) (s : List ℕ) (p : List (List ℤ)) (t : Tally) : Type 0 where
  pub size : start + sumℕ (shares_from n k i (k - i)) + 1 ≡ length contour
  pub partway : Partway qs (fan_from contour n k i start) s₀ p₀ t₀ s p t

-- from corner 1 on they are all the parts
fan_whole : (contour : List (List ℤ)) (limit : ℕ) → 3 ≤ length contour → fanned (triangle_shares (length contour) limit) (corner_in contour 0) (drop 1 (corners_in contour)) ≡ fan_parts limit (corners_in contour)
unfolding fan_parts
fan_whole [] limit h = absurd (omega arith)
fan_whole (c ∷ l) limit h = ap (λ n. fanned (triangle_shares (suc n) limit) (corner_of c) (corners_in l)) (sym (length-map l corner_of))

module _ (contour : List (List ℤ)) (s₀ : List ℕ) (p₀ : List (List ℤ)) (t₀ : Tally) where
  pub fanning_start : (limit : ℕ) {k : ℕ} → 3 ≤ length contour → 0 < k → k ≡ ceil_div (length contour - 2) (limit - 2) → Fanning contour (fan_parts limit (corners_in contour)) (length contour - 2) k 0 1 s₀ p₀ t₀ s₀ p₀ t₀
  fanning_start limit {k} h some e = record {
    size = omega (arith, h, ap sumℕ (shares_all (length contour - 2) k), sum_shares (length contour - 2) some);
    partway = partway_start s₀ p₀ t₀ (ap (λ ss. fanned ss (corner_in contour 0) (drop 1 (corners_in contour))) (shares_all (length contour - 2) k ∙ ap (shares (length contour - 2)) e) ∙ fan_whole contour limit h);
  }

  module _ {qs : List (List Pt)} {n k i start : ℕ} {s : List ℕ} {p : List (List ℤ)} {t : Tally} (f : Fanning contour qs n k i start s₀ p₀ t₀ s p t) where
    module _ (h : i < k) {m : ℕ} (e : m ≡ n / k + cond (ltb i (n % k)) 1 0) where
      next : fan_from contour n k i start ≡ ((corner_in contour 0 ∷ run_of contour start (m + 1)) ∷ []) ++ fan_from contour n k (i + 1) (start + m)
      unfolding fanned
      next =
          ap (λ ss. fanned ss (corner_in contour 0) (drop start (corners_in contour))) (shares_next n h ∙ ap (λ q. q ∷ shares_from n k (i + 1) (k - (i + 1))) (sym e))
          ∙ ap (λ l. (corner_in contour 0 ∷ run_of contour start (m + 1)) ∷ fanned (shares_from n k (i + 1) (k - (i + 1))) (corner_in contour 0) l) (drop-drop m start (corners_in contour))

      pub fanning_within : start + m < length contour
      fanning_within = omega (arith, f.size, sum_next n h, e)

      pub fanning_room : RoomFor s₀ p₀ t₀ qs → RoomFor s p t ((corner_in contour 0 ∷ run_of contour start (m + 1)) ∷ [])
      fanning_room r = partway_room s₀ p₀ t₀ ((corner_in contour 0 ∷ run_of contour start (m + 1)) ∷ []) (fan_from contour n k (i + 1) (start + m)) r f.partway next

      pub fanning_turn : {s' : List ℕ} {p' : List (List ℤ)} {t' : Tally} → PartsAppended ((corner_in contour 0 ∷ run_of contour start (m + 1)) ∷ []) s p t s' p' t' → Fanning contour qs n k (i + 1) (start + m) s₀ p₀ t₀ s' p' t'
      fanning_turn a = record {
        size = omega (arith, f.size, sum_next n h, e);
        partway = partway_turn s₀ p₀ t₀ f.partway next a;
      }

    pub fanning_end : k ≤ i → PartsAppended qs s₀ p₀ t₀ s p t
    unfolding fanned
    fanning_end h = partway_end s₀ p₀ t₀ f.partway (ap (λ ss. fanned ss (corner_in contour 0) (drop start (corners_in contour))) (shares_none n h))
