-- Each region's contour goes once round, on an accepted mesh (`region_round`): every turn is
-- forward, and exactly one is a descent in the direction order. In order: turns of a closed list,
-- from any start (`turns_rotate`); one edge of a closed list of edges split into two
-- (`round_split`); a triangle (`round_triangle`), a join (`round_join`), a region. Not here:
-- corners of turn 0 dropped (`Straight`, `Parts`). Assumes an accepted mesh where it says so.
use mathlib.Core.Path.{◌≡◌, refl, sym, ◌∙◌, ap, subst}
use mathlib.Core.Bool.{Bool, true, false, cond}
use mathlib.Core.List.Permᴰ
use mathlib.Core.List.{List, [], ◌∷◌, ◌++◌, map, map-append, append_assoc}
use Prim.Native.Nat.{ℕ, ◌+◌, ◌<◌}
use native.Mathlib.Omega.{arith}
use lib.ListN.{length}
use lib.IntN.{pos}
use lib.Signed.{◌≤ℤ◌, ◌<ℤ◌, le_z}
use Rattle.integers.specs.Lists.{All, sumℕ, rotate, links, neighbours}
use Rattle.integers.proofs.Ring.{◌:≡◌, pt, ring}
use Rattle.integers.proofs.Signs.{pos_is}
use Rattle.integers.proofs.Tests.{differ, le_z-≤}
use Rattle.integers.proofs.Elements.{all_append, all_perm}
use Rattle.integers.proofs.Sums.{sumℕ_cons, sumℕ_append, sumℕ_perm}
use Rattle.integers.proofs.Rotation.{map_rotate, perm_rotate}
use Rattle.integers.proofs.Neighbours.{links_append, neighbours_rotate}
use Rattle.plane.specs.Plane.{Pt, ◌-ᵖ◌, cross, area_two}
use Rattle.plane.proofs.Edges.{links_last, edges_rotate}
use Rattle.plane.specs.Contour.{last_of, edges}
use Rattle.plane.proofs.Terms.{◌-E◌, cross_e, area_two_e}
use Rattle.mesh.specs.Mesh.{Mesh}
use Rattle.mesh.proofs.Accepted.{Accepted}
use Rattle.convex.specs.Joining.{joins, region, regions}
use Rattle.convex.proofs.Whole.{contour_keeps, all_regions}
use Rattle.convex.proofs.Forward.{Forward, leftward, forward_first, forward_last, descent, descent_add, descent_triangle}

-- the edge into and the edge out of each corner
abbrev pub turns : List Pt → List (Pt × Pt)
turns l = neighbours (edges l)

-- a turn that goes forward
abbrev pub Onward : Pt × Pt → Type 0
Onward t = Forward t.0 t.1

-- 1 at a descent
abbrev pub descent_at : Pt × Pt → ℕ
descent_at t = descent t.0 t.1

-- round a closed list of edges: every turn forward, one a descent
pub record Round (E : List Pt) : Type 0 where
  pub forward : All Onward (neighbours E)
  pub once : sumℕ (map descent_at (neighbours E)) ≡ 1

-- ---- from any start

-- and from another turn
pub turns_rotate : (k : ℕ) (l : List Pt) → turns (rotate k l) ≡ rotate k (turns l)
turns_rotate k l = ap neighbours (edges_rotate k l) ∙ neighbours_rotate k (edges l)

-- the same turns in another order
pub round_rotate : (k : ℕ) (l : List Pt) → Round (edges l) → Round (edges (rotate k l))
round_rotate k l r = record {
  forward = rw (turns_rotate k l) (all_perm Onward (Permᴰ.symm (perm_rotate k (turns l))) r.forward);
  once = ap (λ t. sumℕ (map descent_at t)) (turns_rotate k l) ∙ sumℕ_perm (Permᴰ.map descent_at (perm_rotate k (turns l))) ∙ r.once;
}

-- ---- one edge split into two

-- p, then e, then n: round from e
cycle : (e n : Pt) (G : List Pt) (p : Pt) → neighbours (e ∷ n ∷ (G ++ (p ∷ []))) ≡ (e, n) ∷ (links n (G ++ (p ∷ [])) ++ ((p, e) ∷ []))
unfolding neighbours links
cycle e n G p = ap (λ l. (e, n) ∷ l) (ap (links n) (append_assoc G (p ∷ []) (e ∷ [])) ∙ links_append n G p (e ∷ []))

cycle_split : (d f n : Pt) (G : List Pt) (p : Pt) → neighbours (d ∷ f ∷ n ∷ (G ++ (p ∷ []))) ≡ (d, f) ∷ (f, n) ∷ (links n (G ++ (p ∷ [])) ++ ((p, d) ∷ []))
unfolding neighbours links
cycle_split d f n G p = ap (λ l. (d, f) ∷ (f, n) ∷ l) (ap (links n) (append_assoc G (p ∷ []) (d ∷ [])) ∙ links_append n G p (d ∷ []))

-- descents round p, K, and the edges between
descents_around : (K : List (Pt × Pt)) (t : Pt × Pt) → sumℕ (map descent_at (K ++ (t ∷ []))) ≡ sumℕ (map descent_at K) + descent_at t
unfolding sumℕ
descents_around K t = ap sumℕ (map-append descent_at K (t ∷ [])) ∙ sumℕ_append (map descent_at K) (descent_at t ∷ []) ∙ omega arith

-- e is d and then f, with d × f > 0, d × e > 0, e × f > 0; p × d and f × n are not below 0
pub round_split : {e : Pt} (d f : Pt) {n : Pt} (G : List Pt) (p : Pt) → pos 0 <ℤ cross d e → pos 0 <ℤ cross e f → pos 0 <ℤ cross d f → pos 0 ≤ℤ cross p d → pos 0 ≤ℤ cross f n
    → Round (e ∷ n ∷ (G ++ (p ∷ []))) → Round (d ∷ f ∷ n ∷ (G ++ (p ∷ [])))
round_split {e} d f {n} G p de ef df pd fn r =
    let K : List (Pt × Pt) = links n (G ++ (p ∷ [])) in
    let a : All Onward ((e, n) ∷ (K ++ ((p, e) ∷ []))) = subst (All Onward) (cycle e n G p) r.forward in
    let k = (all_append Onward K ((p, e) ∷ [])).0 a.1 in
    let f-pe : Forward p e = k.1.0 in
    let f-en : Forward e n = a.0 in
    let f-pd : Forward p d = forward_first d f-pe pd de in
    let f-fn : Forward f n = forward_last f f-en fn ef in
    let f-de : Forward d e = leftward de in
    let f-ef : Forward e f = leftward ef in
    let f-df : Forward d f = leftward df in
    record {
      forward = subst (All Onward) (sym (cycle_split d f n G p)) (f-df, (f-fn, (all_append Onward K ((p, d) ∷ [])).1 (k.0, (f-pd, tt))));
      once =
          ap (λ t. sumℕ (map descent_at t)) (cycle_split d f n G p) ∙ sums K
          (descent_add f-pd f-de f-pe) (descent_add f-de f-ef f-df) (descent_add f-ef f-fn f-en)
          (ap (λ t. sumℕ (map descent_at t)) (sym (cycle e n G p)) ∙ r.once);
    }
  where
    sums : (K : List (Pt × Pt)) → descent p e ≡ descent p d + descent d e → descent d f ≡ descent d e + descent e f → descent e n ≡ descent e f + descent f n
        → sumℕ (map descent_at ((e, n) ∷ (K ++ ((p, e) ∷ [])))) ≡ 1 → sumℕ (map descent_at ((d, f) ∷ (f, n) ∷ (K ++ ((p, d) ∷ [])))) ≡ 1
    sums K h1 h2 h3 s =
        omega (
          arith,
          sumℕ_cons (descent e n) (map descent_at (K ++ ((p, e) ∷ []))),
          descents_around K (p, e),
          sumℕ_cons (descent d f) (descent f n ∷ map descent_at (K ++ ((p, d) ∷ []))),
          sumℕ_cons (descent f n) (map descent_at (K ++ ((p, d) ∷ []))),
          descents_around K (p, d),
        )

-- ---- contours

-- the edges along the way from q through l
abbrev pub way : Pt → List Pt → List Pt
way q l = map (λ e. e.1 -ᵖ e.0) (links q l)

edges_way : (q : Pt) (l : List Pt) (x : Pt) → way q (l ++ (x ∷ [])) ≡ way q l ++ ((x -ᵖ last_of q l) ∷ [])
edges_way q l x = ap (map (λ e. e.1 -ᵖ e.0)) (links_last q l x) ∙ map-append (λ e. e.1 -ᵖ e.0) (links q l) ((last_of q l, x) ∷ [])

edges_before : (x b b0 : Pt) (l : List Pt) → edges (x ∷ b ∷ b0 ∷ l) ≡ (b -ᵖ x) ∷ (b0 -ᵖ b) ∷ (way b0 l ++ ((x -ᵖ last_of b0 l) ∷ []))
unfolding edges neighbours links
edges_before x b b0 l = ap (λ r. (b -ᵖ x) ∷ (b0 -ᵖ b) ∷ r) (edges_way b0 l x)

edges_after : (x p b b0 : Pt) (l : List Pt) → edges (x ∷ p ∷ b ∷ b0 ∷ l) ≡ (p -ᵖ x) ∷ (b -ᵖ p) ∷ (b0 -ᵖ b) ∷ (way b0 l ++ ((x -ᵖ last_of b0 l) ∷ []))
unfolding edges neighbours links
edges_after x p b b0 l = ap (λ r. (p -ᵖ x) ∷ (b -ᵖ p) ∷ (b0 -ᵖ b) ∷ r) (edges_way b0 l x)

-- "It joins when (a−a0) cross (p−a) and (b−p) cross (b0−b) are both at least 0."
joins_both : (a0 a p b b0 : Pt) → joins a0 a p b b0 ≡ true → (pos 0 ≤ℤ cross (a -ᵖ a0) (p -ᵖ a)) × (pos 0 ≤ℤ cross (b -ᵖ p) (b0 -ᵖ b))
unfolding joins
joins_both a0 a p b b0 = at refl
  where
    at : {t : Bool} → le_z (pos 0) (cross (a -ᵖ a0) (p -ᵖ a)) ≡ t → cond t (le_z (pos 0) (cross (b -ᵖ p) (b0 -ᵖ b))) false ≡ true
        → (pos 0 ≤ℤ cross (a -ᵖ a0) (p -ᵖ a)) × (pos 0 ≤ℤ cross (b -ᵖ p) (b0 -ᵖ b))
    at {t = true} e h = (le_z-≤ (pos 0) (cross (a -ᵖ a0) (p -ᵖ a)) e, le_z-≤ (pos 0) (cross (b -ᵖ p) (b0 -ᵖ b)) h)
    at {t = false} e h = differ h

-- each two of a triangle's edges have its doubled area as their cross
side_first : (a b c : Pt) → cross (b -ᵖ a) (c -ᵖ b) ≡ area_two a b c
side_first = ring (pt ∷ pt ∷ pt ∷ []) (λ a b c. cross_e (b -E a) (c -E b) :≡ area_two_e a b c) tt

side_second : (a b c : Pt) → cross (c -ᵖ b) (a -ᵖ c) ≡ area_two a b c
side_second = ring (pt ∷ pt ∷ pt ∷ []) (λ a b c. cross_e (c -E b) (a -E c) :≡ area_two_e a b c) tt

side_third : (a b c : Pt) → cross (a -ᵖ c) (b -ᵖ a) ≡ area_two a b c
side_third = ring (pt ∷ pt ∷ pt ∷ []) (λ a b c. cross_e (a -E c) (b -E a) :≡ area_two_e a b c) tt

side_whole : (a b c : Pt) → cross (c -ᵖ a) (c -ᵖ b) ≡ area_two a b c
side_whole = ring (pt ∷ pt ∷ pt ∷ []) (λ a b c. cross_e (c -E a) (c -E b) :≡ area_two_e a b c) tt

-- each turn of a triangle is its doubled area
pub round_triangle : (a b c : Pt) → pos 0 <ℤ area_two a b c → Round (edges (a ∷ b ∷ c ∷ []))
unfolding edges neighbours links sumℕ
round_triangle a b c h =
    let f = pos_is (side_first a b c) h in
    let g = pos_is (side_second a b c) h in
    let k = pos_is (side_third a b c) h in
    record { forward = (leftward f, (leftward g, (leftward k, tt))); once = omega (arith, descent_triangle (b -ᵖ a) (c -ᵖ b) (a -ᵖ c) f g k) }

-- a corner p between x and b: the edge x b is split into x p and p b
pub round_join : {a0 : Pt} (x p b b0 : Pt) (l : List Pt) → a0 ≡ last_of b0 l → pos 0 <ℤ area_two x p b → joins a0 x p b b0 ≡ true
    → Round (edges (x ∷ b ∷ b0 ∷ l)) → Round (edges (x ∷ p ∷ b ∷ b0 ∷ l))
round_join {a0} x p b b0 l e h j r =
    let k = joins_both a0 x p b b0 j in
    subst Round (sym (edges_after x p b b0 l))
    (round_split (p -ᵖ x) (b -ᵖ p) (way b0 l) (x -ᵖ last_of b0 l) h (pos_is (side_whole x p b) h) (pos_is (side_first x p b) h)
    (subst (λ a. pos 0 ≤ℤ cross (x -ᵖ a) (p -ᵖ x)) e k.0) k.1 (subst Round (edges_before x b b0 l) r))

-- each region's contour goes once round
pub region_round : {m : Mesh} → Accepted m → (seen : List ℕ) (k : ℕ) → k < length m → Round (edges (map (λ c. c.point) (region m seen k).contour))
region_round {m} ok =
    contour_keeps m ok (λ t l. Round (edges l)) (λ t k l r. round_rotate k l r)
    (λ t j x p b b0 l u r. round_join x p b b0 l refl (pos_is u.area (ok.turns_left j u.in_mesh)) u.allowed r)
    (λ k h. round_triangle _ _ _ (ok.turns_left k h))

-- the same of every region of the mesh
pub all_round : {m : Mesh} → Accepted m → All (λ r. Round (edges (map (λ c. c.point) r.contour))) (regions m)
all_round {m} ok = all_regions m (λ r. Round (edges (map (λ c. c.point) r.contour))) (region_round ok)
