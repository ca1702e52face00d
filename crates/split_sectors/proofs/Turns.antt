-- The parts about a centre in turn: a part's edges one by one (`taking_start`, `taking_more`,
-- `taking_stop`, `taking_none`), the parts of a group (`group_turn`, `group_none`), the groups
-- (`Sectoring`: `sectoring_start`, `sectoring_room`, `sectoring_turn`, `sectoring_end`). Assumes
-- nothing.
use mathlib.Core.Path.{◌≡◌, sym, ◌∙◌, ap, ap₂}
use mathlib.Core.Bool.{true, false, cond}
use mathlib.Core.List.{List, [], ◌∷◌, ◌++◌}
use Prim.Native.Nat.{ℕ, suc, ◌+◌, ◌-◌, ◌/◌, ◌%◌, ◌≤◌, ◌<◌}
use native.Mathlib.Numerals.{add-one}
use native.Mathlib.Omega.{arith}
use borrow.Author.Tests.{ne_eqb}
use lib.Dec.{ltb}
use lib.ListN.{length, get_or, take, drop, length-map}
use lib.Seq.{drop-cons, drop-drop, get_or-drop}
use lib.IntN.{ℤ, pos}
use lib.Signed.{lt_z}
use Rattle.integers.specs.Lists.{sumℕ}
use Rattle.plane.specs.Plane.{Pt, O, area_two}
use Rattle.points.specs.Points.{corner_of, corner_in, corners_in}
use Rattle.points.specs.declared.Tally.{Tally}
use Rattle.points.specs.Gathered.{RoomFor, PartsAppended}
use Rattle.split.specs.Splitting.{shares_from, shares, ceil_div, taking, edges_taken, group_parts, sectors, centroid_parts}
use Rattle.split.proofs.Shares.{sum_shares}
use Rattle.split.proofs.Sectors.{edges_taken_le, group_parts_enough}
use Rattle.split_chords.proofs.Appending.{Partway, partway_start, partway_room, partway_turn, partway_end}
use Rattle.split_chords.proofs.Groups.{shares_next, sum_next, shares_none, shares_all}
use Rattle.split_sectors.specs.Arcs.{closed_of, arc_of}

-- ---- a part's edges

module _ (g : Pt) (l : List Pt) (target : ℕ) where
  -- of a part that starts at corner start and reaches corner end
  abbrev pub end_from : Pt → ℕ → ℕ
  end_from a end = end + taking g a (target - end) (drop (end + 1) l)

  pub taking_start : (start : ℕ) {a : Pt} → a ≡ get_or l start O → end_from a (start + 1) ≡ start + edges_taken g (target - start) (drop start l)
  taking_start start {a} e =
      let n : target - (start + 1) ≡ target - start - 1 = omega arith in
      let m : start + 1 + 1 ≡ start + 2 = omega arith in
      ap (λ t. start + 1 + t)
      (ap₂ (λ b k. taking g b k (drop (start + 1 + 1) l)) (e ∙ ap (λ k. get_or l k O) (omega arith) ∙ sym (get_or-drop start l 0 O)) n
      ∙ ap (taking g (get_or (drop start l) 0 O) (target - start - 1)) (ap (λ k. drop k l) m ∙ sym (drop-drop 2 start l)))
      ∙ omega arith

  module _ (a : Pt) (end : ℕ) where
    module _ (h : end < target) (k : end + 1 < length l) {b : Pt} (e : b ≡ get_or l (end + 1) O) where
      step : taking g a (target - end) (drop (end + 1) l) ≡ cond (lt_z (pos 0) (area_two g a b)) (suc (taking g a (target - (end + 1)) (drop (end + 1 + 1) l))) 0
      unfolding taking
      step =
          let n : target - end ≡ suc (target - (end + 1)) = omega arith in
          ap₂ (taking g a) n (drop-cons l (end + 1) O k)
          ∙ ap₂ (λ c m. cond (lt_z (pos 0) (area_two g a c)) (suc (taking g a (target - (end + 1)) (drop m l))) 0) (sym e) (sym (add-one (end + 1)))

      pub taking_more : lt_z (pos 0) (area_two g a b) ≡ true → end_from a (end + 1) ≡ end_from a end
      taking_more t = sym (ap (λ n. end + n) (step ∙ ap (λ q. cond q (suc (taking g a (target - (end + 1)) (drop (end + 1 + 1) l))) 0) t) ∙ omega arith)

      pub taking_stop : lt_z (pos 0) (area_two g a b) ≡ false → end ≡ end_from a end
      taking_stop t = sym (ap (λ n. end + n) (step ∙ ap (λ q. cond q (suc (taking g a (target - (end + 1)) (drop (end + 1 + 1) l))) 0) t) ∙ omega arith)

    pub taking_none : target ≤ end → end ≡ end_from a end
    unfolding taking
    taking_none h = let n : target - end ≡ 0 = omega arith in sym (ap (λ k. end + taking g a k (drop (end + 1) l)) n ∙ omega arith)

-- ---- the parts of a group

-- a group's first part, and those of the edges that it leaves
group_next : (g : Pt) {s : ℕ} (l : List Pt) → 0 < s → group_parts s g s l ≡ (g ∷ take (edges_taken g s l + 1) l) ∷ group_parts (s - edges_taken g s l) g (s - edges_taken g s l) (drop (edges_taken g s l) l)
unfolding group_parts
group_next g {s} l h =
    let n : s ≡ suc (s - 1) = omega arith in
    ap (λ m. group_parts m g s l) n
    ∙ ap (λ t. cond t [] ((g ∷ take (edges_taken g s l + 1) l) ∷ group_parts (s - 1) g (s - edges_taken g s l) (drop (edges_taken g s l) l))) (ne_eqb s 0 (λ q. omega (arith, q)))
    ∙ ap (λ t. (g ∷ take (edges_taken g s l + 1) l) ∷ t) (group_parts_enough (s - 1) (s - edges_taken g s l) g (drop (edges_taken g s l) l) (omega arith) (omega arith))

-- of the edges from corner at to the target
abbrev pub group_from : List (List ℤ) → Pt → ℕ → ℕ → List (List Pt)
group_from contour g target at = group_parts (target - at) g (target - at) (drop at (closed_of contour))

module _ (contour : List (List ℤ)) (g : Pt) (target at : ℕ) where
  pub group_none : target ≤ at → group_from contour g target at ≡ []
  unfolding group_parts
  group_none h = let n : target - at ≡ 0 = omega arith in ap (λ m. group_parts m g m (drop at (closed_of contour))) n

  module _ (h : at < target) {end : ℕ} (e : end ≡ at + edges_taken g (target - at) (drop at (closed_of contour))) where
    pub sector_some : at < end
    sector_some = omega (arith, e)

    pub sector_within : end ≤ target
    sector_within = omega (arith, e, edges_taken_le g {s = target - at} (drop at (closed_of contour)) (omega arith))

    pub group_turn : group_from contour g target at ≡ ((g ∷ arc_of contour at (end - at + 1)) ∷ []) ++ group_from contour g target end
    group_turn =
        let n : edges_taken g (target - at) (drop at (closed_of contour)) ≡ end - at = omega (arith, e) in
        let r : target - at - (end - at) ≡ target - end = omega (arith, e, sector_within) in
        let f : at + (end - at) ≡ end = omega (arith, e) in
        group_next g (drop at (closed_of contour)) (omega arith)
        ∙ ap (λ k. (g ∷ take (k + 1) (drop at (closed_of contour))) ∷ group_parts (target - at - k) g (target - at - k) (drop k (drop at (closed_of contour)))) n
        ∙ ap₂ (λ k m. (g ∷ arc_of contour at (end - at + 1)) ∷ group_parts k g k m) r (drop-drop (end - at) at (closed_of contour) ∙ ap (λ k. drop k (closed_of contour)) f)

-- ---- the groups

-- the parts from group i on, of n edges in k groups, that start at corner start
abbrev sectors_from : List (List ℤ) → Pt → ℕ → ℕ → ℕ → ℕ → List (List Pt)
sectors_from contour g n k i start = sectors (shares_from n k i (k - i)) g (drop start (closed_of contour))

-- the parts before group i are appended
pub record Sectoring (contour : List (List ℤ)) (g : Pt) (qs : List (List Pt)) (n k i start : ℕ) (s₀ : List ℕ) (p₀ : List (List ℤ)) (t₀ : Tally) (s : List ℕ) (p : List (List ℤ)) (t : Tally) : Type 0 where
  pub size : start + sumℕ (shares_from n k i (k - i)) ≡ length contour
  pub partway : Partway qs (sectors_from contour g n k i start) s₀ p₀ t₀ s p t

module _ (contour : List (List ℤ)) (g : Pt) (s₀ : List ℕ) (p₀ : List (List ℤ)) (t₀ : Tally) where
  pub sectoring_start : (limit : ℕ) {k : ℕ} → 0 < k → k ≡ ceil_div (length contour) (limit - 2) → Sectoring contour g (centroid_parts limit g (corner_in contour 0) (corners_in contour)) (length contour) k 0 0 s₀ p₀ t₀ s₀ p₀ t₀
  sectoring_start limit {k} some e = record {
    size = omega (arith, ap sumℕ (shares_all (length contour) k), sum_shares (length contour) some);
    partway = partway_start s₀ p₀ t₀
        (ap (λ ss. sectors ss g (closed_of contour))
        (shares_all (length contour) k ∙ ap (shares (length contour)) e ∙ ap (λ n. shares n (ceil_div n (limit - 2))) (sym (length-map contour corner_of))));
  }

  module _ {qs : List (List Pt)} {n k i start : ℕ} {s : List ℕ} {p : List (List ℤ)} {t : Tally} (f : Sectoring contour g qs n k i start s₀ p₀ t₀ s p t) where
    module _ (h : i < k) {m : ℕ} (e : m ≡ n / k + cond (ltb i (n % k)) 1 0) where
      next : sectors_from contour g n k i start ≡ group_from contour g (start + m) start ++ sectors_from contour g n k (i + 1) (start + m)
      unfolding sectors
      next =
          let q : m ≡ start + m - start = omega arith in
          ap (λ ss. sectors ss g (drop start (closed_of contour))) (shares_next n h ∙ ap (λ q. q ∷ shares_from n k (i + 1) (k - (i + 1))) (sym e))
          ∙ ap₂ (λ j l. group_parts j g j (drop start (closed_of contour)) ++ sectors (shares_from n k (i + 1) (k - (i + 1))) g l) q (drop-drop m start (closed_of contour))

      pub sectoring_within : start + m ≤ length contour
      sectoring_within = omega (arith, f.size, sum_next n h, e)

      pub sectoring_room : RoomFor s₀ p₀ t₀ qs → RoomFor s p t (group_from contour g (start + m) start)
      sectoring_room r = partway_room s₀ p₀ t₀ (group_from contour g (start + m) start) (sectors_from contour g n k (i + 1) (start + m)) r f.partway next

      pub sectoring_turn : {s' : List ℕ} {p' : List (List ℤ)} {t' : Tally} → PartsAppended (group_from contour g (start + m) start) s p t s' p' t' → Sectoring contour g qs n k (i + 1) (start + m) s₀ p₀ t₀ s' p' t'
      sectoring_turn a = record {
        size = omega (arith, f.size, sum_next n h, e);
        partway = partway_turn s₀ p₀ t₀ f.partway next a;
      }

    pub sectoring_end : k ≤ i → PartsAppended qs s₀ p₀ t₀ s p t
    unfolding sectors
    sectoring_end h = partway_end s₀ p₀ t₀ f.partway (ap (λ ss. sectors ss g (drop start (closed_of contour))) (shares_none n h))
