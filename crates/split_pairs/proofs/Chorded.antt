-- Ear clipping and fan cut a polygon into polygons (`ear_polygons`, `fan_polygons`). In order: the
-- shares; ear clipping; fan. Assumes nothing.
use mathlib.Core.Path.{◌≡◌, sym, subst}
use mathlib.Core.List.{List, [], ◌∷◌, ◌++◌}
use Prim.Native.Nat.{ℕ, suc, ◌+◌, ◌-◌, ◌≤◌, ◌<◌}
use native.Mathlib.Omega.{arith}
use native.Mathlib.Numerals.{add-one}
use lib.ListN.{length, take, drop, length-append, length-drop, length-take}
use lib.Seq.{length-take-le, drop-nil}
use Rattle.integers.specs.Lists.{All, sumℕ}
use Rattle.plane.specs.Plane.{Pt}
use Rattle.convex_pairs.proofs.Triples.{Triples, triples_take, triples_after, triples_cycle}
use Rattle.convex_pairs.proofs.Convexity.{Polygon}
use Rattle.split.specs.Splitting.{ceil_div, triangle_shares, clipped, ear_parts, fanned, fan_parts}
use Rattle.integers.proofs.Elements.{all_map}
use Rattle.split.proofs.Shares.{sum_shares}
use Rattle.split.proofs.Sizes.{ceil_pos, shares_bound}

-- ---- the shares

-- n corners, three or more, for a limit of at least 3: a triangle or more in each share, n − 2 in
-- all
pub triangle_shares_lem : {n m : ℕ} → 3 ≤ n → 3 ≤ m → All (λ s. 0 < s) (triangle_shares n m) × (sumℕ (triangle_shares n m) + 2 ≡ n)
triangle_shares_lem {n} {m} h k = (
  all_map (triangle_shares n m) (λ s b. omega (arith, b.0)) (shares_bound (omega arith) (omega arith)),
  omega (arith, sum_shares (n - 2) (ceil_pos {n = n - 2} {b = m - 2} (omega arith) (omega arith))),
)

-- ---- ear clipping

-- the corners not yet clipped
clipped_rest : (s : ℕ) (l : List Pt) → Triples l → Triples (drop (s + 1) l ++ take 1 l)
clipped_rest s [] h = rw drop-nil tt
clipped_rest s (a ∷ t) h = subst (λ n. Triples (drop n (a ∷ t) ++ (a ∷ []))) (sym (add-one s)) (triples_cycle a (drop s t) (triples_after s a t h))

clipped_polygons : (ss : List ℕ) (l : List Pt) → All (λ s. 0 < s) ss → sumℕ ss + 2 ≡ length l → Triples l → All Polygon (clipped ss l)
unfolding clipped sumℕ
clipped_polygons [] l p h t = tt
clipped_polygons (s ∷ ss) l p h t = (
  record { long = omega (arith, length-take-le (s + 2) l (omega arith), p.0); triples = triples_take (s + 2) l t },
  clipped_polygons ss (drop (s + 1) l ++ take 1 l) p.1
      (omega (arith, h, length-append (drop (s + 1) l) (take 1 l), length-drop (s + 1) l, length-take 1 l)) (clipped_rest s l t),
)

pub ear_polygons : {m : ℕ} {l : List Pt} → 3 ≤ m → Polygon l → All Polygon (ear_parts m l)
ear_polygons {m} {l} h p = let s = triangle_shares_lem p.long h in clipped_polygons (triangle_shares (length l) m) l s.0 s.1 p.triples

-- ---- fan

fanned_polygons : (ss : List ℕ) (c : Pt) (l : List Pt) → All (λ s. 0 < s) ss → sumℕ ss + 1 ≡ length l → Triples (c ∷ l) → All Polygon (fanned ss c l)
unfolding fanned sumℕ
fanned_polygons [] c l p h t = tt
fanned_polygons (s ∷ ss) c l p h t = (
  record { long = omega (arith, length-take-le (s + 1) l (omega arith), p.0); triples = triples_take (suc (s + 1)) (c ∷ l) t },
  fanned_polygons ss c (drop s l) p.1 (omega (arith, h, length-drop s l)) (triples_after s c l t),
)

pub fan_polygons : {m : ℕ} {l : List Pt} → 3 ≤ m → Polygon l → All Polygon (fan_parts m l)
unfolding fan_parts
fan_polygons {l = []} h p = tt
fan_polygons {m} {l = c ∷ l} h p = let s = triangle_shares_lem p.long h in fanned_polygons (triangle_shares (suc (length l)) m) c l s.0 (omega (arith, s.1)) p.triples
