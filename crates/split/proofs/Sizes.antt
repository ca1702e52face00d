-- How many: each share of n things in ceil(n / b) groups is at least 1 and at most b
-- (`shares_bound`), so each part of a contour that is split has from 3 corners to the limit
-- (`sizes` of `Few`); ear clipping and fan make just ceil((n−2)/(m−2)) parts (`split_count`); a
-- contour of n corners gives at most 2 (n − 2) parts and 6 (n − 2) corners (`split_few`), so all
-- parts of a mesh are at most twice its triangles, with six corners for each (`split_parts_few`), a
-- part table within the limits (`split_table`); and a limit that no part is past leaves each whole
-- (`split_whole`). Assumes an accepted mesh where it says so.
use mathlib.Core.Path.{◌≡◌, refl, sym, ◌∙◌, ap}
use mathlib.Core.Bool.{Bool, true, false, cond}
use mathlib.Core.List.{List, [], ◌∷◌, ◌++◌, map, flatten}
use Prim.Native.Nat.{ℕ, zero, suc, ◌+◌, ◌*◌, ◌-◌, ◌/◌, ◌%◌, ◌≤◌, ◌<◌}
use native.Mathlib.Omega.{arith}
use native.Mathlib.Nat.{div-add-mod, le-div_iff_mul-le, div-lt_iff_lt-mul, mul-le-mul_right, lt-div-mul-add, lt_of_mul-lt-mul_left}
use borrow.Author.Tests.{eqb-false, leb-true, leb-false, le-leb, ltb-true}
use lib.Dec.{eqb, leb, ltb}
use lib.ListN.{length, take, drop, length-append, length-take, length-drop}
use lib.Seq.{length-take-le}
use Rattle.integers.specs.Lists.{All, sumℕ}
use Rattle.integers.specs.Faults.{first_fault}
use Rattle.integers.proofs.Order.{by_test}
use Rattle.integers.proofs.Elements.{all_map, all_append, all_flatten, all_image}
use Rattle.integers.proofs.Sums.{length_flatten_append}
use Rattle.plane.specs.Plane.{Pt}
use Rattle.mesh.specs.Mesh.{Mesh, mesh_kinds}
use Rattle.mesh.proofs.Accepted.{Accepted, accepted}
use Rattle.table.specs.Table.{starts_of, corners_of, table_broken, max_contour, max_parts}
use Rattle.table.proofs.Rules.{limits_sound}
use Rattle.convex.specs.Joining.{parts}
use Rattle.convex.proofs.Parts.{convex_three, parts_convex}
use Rattle.convex.proofs.Sizes.{parts_corners, parts_within, parts_short}
use Rattle.split.specs.declared.ConvexSplitStrategy.{ConvexSplitStrategy}
use Rattle.split.specs.declared.ConvexSplitStrategy.TheVariants.{EarClipping, Fan, Centroid}
use Rattle.split.specs.Splitting.{ceil_div, shares_from, shares, triangle_shares, clipped, ear_parts, fanned, fan_parts, edges_taken, group_parts, sectors, centre_of, centre_serves, centroid_parts, centred_parts, raised, split_by, split_contour, split_parts, SplitTable, SplitCount}
use Rattle.split.proofs.Shares.{length_shares, sum_shares, length_clipped, length_fanned}
use Rattle.split.proofs.Sectors.{edges_taken_le}

-- ---- shares of n things in ceil(n / b) groups

-- n ≤ ceil(n / b) · b, for n + b − 1 < ((n + b − 1) / b) · b + b
ceil_above : (n : ℕ) {b : ℕ} → 0 < b → n ≤ ceil_div n b * b
ceil_above n {b} h = omega (arith, lt-div-mul-add {a = n + (b - 1)} {b = b} h)

-- from 1 to n groups, for b ≤ n + b − 1 < (n + 1) b
pub ceil_pos : {n b : ℕ} → 0 < n → 0 < b → 0 < ceil_div n b
ceil_pos {n} {b} p h = (le-div_iff_mul-le {k = b} {x = 1} {y = n + (b - 1)} h).1 (omega arith)

pub ceil_le : {n b : ℕ} → 0 < n → 0 < b → ceil_div n b ≤ n
ceil_le {n} {b} p h = below ((div-lt_iff_lt-mul {k = b} {x = n + (b - 1)} {y = n + 1} h).1 (more b p h (mul-le-mul_right b p)))
  where
    below : ceil_div n b < n + 1 → ceil_div n b ≤ n
    below h = omega arith

    more : {n : ℕ} (b : ℕ) → 0 < n → 0 < b → 1 * b ≤ n * b → n + (b - 1) < (n + 1) * b
    more {n} (suc b) p h q = omega (arith, grow n b)
      where
        grow : (n b : ℕ) → n ≤ n * suc b
        grow zero b = omega arith
        grow (suc n) b = omega (arith, grow n b)
    more zero p h q = absurd (omega arith)

module _ {n k : ℕ} (b : ℕ) (some : 0 < k) (few : k ≤ n) (all : n ≤ k * b) where
  quotient_pos : 1 ≤ n / k
  quotient_pos = (le-div_iff_mul-le {k = k} {x = 1} {y = n} some).1 (omega arith)

  -- q · k ≤ n ≤ b · k
  quotient_le : n / k ≤ b
  quotient_le = below ((div-lt_iff_lt-mul {k = k} {x = n} {y = b + 1} some).1 (omega (arith, turn b k)))
    where
      below : n / k < b + 1 → n / k ≤ b
      below h = omega arith

      turn : (b k : ℕ) → (b + 1) * k ≡ k * b + k
      turn b k = omega arith

  -- with a rest, q · k < n
  quotient_lt : 0 < n % k → n / k < b
  quotient_lt r = lt_of_mul-lt-mul_left k (omega (arith, div-add-mod n k))

  from_bound : (i j : ℕ) → All (λ s. (1 ≤ s) × (s ≤ b)) (shares_from n k i j)
  unfolding shares_from
  from_bound i zero = tt
  from_bound i (suc j) =
      (by_test (ltb i (n % k)) (λ e. rw e (omega (arith, quotient_pos), omega (arith, quotient_lt (omega (arith, ltb-true i (n % k) e))))) (λ e. rw e (omega (arith, quotient_pos), omega (arith, quotient_le))), from_bound (suc i) j)

-- each share of n things in ceil(n / b) groups
pub shares_bound : {n b : ℕ} → 0 < n → 0 < b → All (λ s. (1 ≤ s) × (s ≤ b)) (shares n (ceil_div n b))
shares_bound {n} {b} p h = from_bound b (ceil_pos p h) (ceil_le p h) (ceil_above n h) 0 (ceil_div n b)

-- ---- the sizes of parts: from 3 corners to b + 2

abbrev Sized : ℕ → List Pt → Type 0
Sized b p = (3 ≤ length p) × (length p ≤ b + 2)

clipped_sizes : (b : ℕ) (ss : List ℕ) (l : List Pt) → length l ≡ sumℕ ss + 2 → All (λ s. (1 ≤ s) × (s ≤ b)) ss → All (Sized b) (clipped ss l)
unfolding clipped sumℕ
clipped_sizes b [] l e h = tt
clipped_sizes b (s ∷ ss) l e h =
    let n : length (take (s + 2) l) ≡ s + 2 = length-take-le (s + 2) l (omega arith) in
    ((omega (arith, h.0.0), omega (arith, h.0.1)), clipped_sizes b ss (drop (s + 1) l ++ take 1 l) (omega (arith, e, length-append (drop (s + 1) l) (take 1 l), length-drop (s + 1) l, length-take 1 l)) h.1)

fanned_sizes : (b : ℕ) (ss : List ℕ) (c : Pt) (l : List Pt) → length l ≡ sumℕ ss + 1 → All (λ s. (1 ≤ s) × (s ≤ b)) ss → All (Sized b) (fanned ss c l)
unfolding fanned sumℕ
fanned_sizes b [] c l e h = tt
fanned_sizes b (s ∷ ss) c l e h =
    let n : length (take (s + 1) l) ≡ s + 1 = length-take-le (s + 1) l (omega arith) in
    ((omega (arith, h.0.0), omega (arith, h.0.1)), fanned_sizes b ss c (drop s l) (omega (arith, e, length-drop s l)) h.1)

positive : (s : ℕ) → (s ≡ 0 → ⊥) → 0 < s
positive zero h = absurd (h refl)
positive (suc s) h = omega arith

group_sizes : {b : ℕ} (n : ℕ) (g : Pt) {s : ℕ} (l : List Pt) → s < length l → s ≤ b → All (Sized b) (group_parts n g s l)
unfolding group_parts
group_sizes zero g l h k = tt
group_sizes {b} (suc n) g {s} l h k =
    by_test (eqb s 0) (λ e. rw e tt)
    (λ e.
    let some : 0 < s = positive s (eqb-false s 0 e) in
    let le = edges_taken_le g l some in
    let t : length (take (edges_taken g s l + 1) l) ≡ edges_taken g s l + 1 = length-take-le (edges_taken g s l + 1) l (omega (arith, le)) in
    rw e ((omega arith, omega (arith, le)), group_sizes {b = b} n g {s = s - edges_taken g s l} (drop (edges_taken g s l) l) (omega (arith, le, length-drop (edges_taken g s l) l)) (omega (arith, le))))

sector_sizes : (b : ℕ) (ss : List ℕ) (g : Pt) (l : List Pt) → sumℕ ss < length l → All (λ s. (1 ≤ s) × (s ≤ b)) ss → All (Sized b) (sectors ss g l)
unfolding sectors sumℕ
sector_sizes b [] g l e h = tt
sector_sizes b (s ∷ ss) g l e h =
    (all_append (Sized b) (group_parts s g s l) (sectors ss g (drop s l))).1
    (group_sizes s g l (omega arith) h.0.1, sector_sizes b ss g (drop s l) (omega (arith, e, length-drop s l)) h.1)

-- ---- how many parts and corners of one contour

-- Σ (s + 2) corners at the most
clipped_corners : (ss : List ℕ) (l : List Pt) → length (flatten (clipped ss l)) ≤ sumℕ ss + 2 * length ss
unfolding clipped sumℕ flatten
clipped_corners [] l = omega arith
clipped_corners (s ∷ ss) l =
    omega (arith, clipped_corners ss (drop (s + 1) l ++ take 1 l), length-append (take (s + 2) l) (flatten (clipped ss (drop (s + 1) l ++ take 1 l))), length-take (s + 2) l)

fanned_corners : (ss : List ℕ) (c : Pt) (l : List Pt) → length (flatten (fanned ss c l)) ≤ sumℕ ss + 2 * length ss
unfolding fanned sumℕ flatten
fanned_corners [] c l = omega arith
fanned_corners (s ∷ ss) c l =
    omega (arith, fanned_corners ss c (drop s l), length-append (take (s + 1) l) (flatten (fanned ss c (drop s l))), length-take (s + 1) l)

-- a part of e ≥ 1 edges has e + 2 ≤ 3 e corners
group_few : (n : ℕ) (g : Pt) (s : ℕ) (l : List Pt) → (length (group_parts n g s l) ≤ s) × (length (flatten (group_parts n g s l)) ≤ 3 * s)
unfolding group_parts flatten
group_few zero g s l = (omega arith, omega arith)
group_few (suc n) g s l =
    by_test (eqb s 0) (λ e. rw e (omega arith, omega arith))
    (λ e.
    let some : 0 < s = positive s (eqb-false s 0 e) in
    let le = edges_taken_le g l some in
    let i = group_few n g (s - edges_taken g s l) (drop (edges_taken g s l) l) in
    rw e (
      omega (arith, le, i.0),
      omega (arith, le, i.1, length-append (take (edges_taken g s l + 1) l) (flatten (group_parts n g (s - edges_taken g s l) (drop (edges_taken g s l) l))), length-take (edges_taken g s l + 1) l),
    ))

sector_few : (ss : List ℕ) (g : Pt) (l : List Pt) → (length (sectors ss g l) ≤ sumℕ ss) × (length (flatten (sectors ss g l)) ≤ 3 * sumℕ ss)
unfolding sectors sumℕ flatten
sector_few [] g l = (omega arith, omega arith)
sector_few (s ∷ ss) g l =
    let i = sector_few ss g (drop s l) in
    let j = group_few s g s l in
    (omega (arith, i.0, j.0, length-append (group_parts s g s l) (sectors ss g (drop s l))), omega (arith, i.1, j.1, length_flatten_append (group_parts s g s l) (sectors ss g (drop s l))))

-- ---- a contour of n corners past the limit: at most 2 (n − 2) parts and 6 (n − 2) corners

pub record Few (b : ℕ) (l : List Pt) (ps : List (List Pt)) : Type 0 where
  pub sizes : All (Sized b) ps
  pub some : length ps + 4 ≤ 2 * length l
  pub corners : length (flatten ps) + 12 ≤ 6 * length l

module _ (m : ℕ) (l : List Pt) (h : 3 ≤ m) (k : m < length l) where
  abbrev n : ℕ
  n = length l - 2

  sum_triangles : sumℕ (triangle_shares (length l) m) ≡ n
  sum_triangles = sum_shares n (ceil_pos (omega arith) (omega arith))

  count_triangles : length (triangle_shares (length l) m) ≤ n
  count_triangles = omega (arith, length_shares n (ceil_div n (m - 2)), ceil_le {n = n} {b = m - 2} (omega arith) (omega arith))

  ear_few : Few (m - 2) l (ear_parts m l)
  ear_few = record {
    sizes = clipped_sizes (m - 2) (triangle_shares (length l) m) l (omega (arith, sum_triangles)) (shares_bound (omega arith) (omega arith));
    some = omega (arith, length_clipped (triangle_shares (length l) m) l, count_triangles);
    corners = omega (arith, clipped_corners (triangle_shares (length l) m) l, sum_triangles, count_triangles);
  }

fan_few : {m : ℕ} (l : List Pt) → 3 ≤ m → m < length l → Few (m - 2) l (fan_parts m l)
unfolding fan_parts
fan_few [] h k = absurd (omega arith)
fan_few {m} (c ∷ l) h k = record {
  sizes = fanned_sizes (m - 2) (triangle_shares (suc (length l)) m) c l (omega (arith, sum_triangles m (c ∷ l) h k)) (shares_bound (omega arith) (omega arith));
  some = omega (arith, length_fanned (triangle_shares (suc (length l)) m) c l, count_triangles m (c ∷ l) h k);
  corners = omega (arith, fanned_corners (triangle_shares (suc (length l)) m) c l, sum_triangles m (c ∷ l) h k, count_triangles m (c ∷ l) h k);
}

centroid_few : {m : ℕ} (g c : Pt) (l : List Pt) → 3 ≤ m → m < length l → Few (m - 2) l (centroid_parts m g c l)
centroid_few {m} g c l h k =
    let ss = shares (length l) (ceil_div (length l) (m - 2)) in
    let sum : sumℕ ss ≡ length l = sum_shares (length l) (ceil_pos (omega arith) (omega arith)) in
    let f = sector_few ss g (l ++ (c ∷ [])) in
    record {
      sizes = sector_sizes (m - 2) ss g (l ++ (c ∷ [])) (omega (arith, sum, length-append l (c ∷ []))) (shares_bound (omega arith) (omega arith));
      some = omega (arith, f.0, sum);
      corners = omega (arith, f.1, sum);
    }

by_few : (how : ConvexSplitStrategy) {m : ℕ} (l : List Pt) → 3 ≤ m → m < length l → Few (m - 2) l (split_by how m l)
unfolding centred_parts
by_few EarClipping {m} l h k = ear_few m l h k
by_few Fan {m} l h k = fan_few l h k
by_few Centroid [] h k = absurd (omega arith)
by_few Centroid {m} (c ∷ l) h k =
    by_test (centre_serves (centre_of c (c ∷ l)) (c ∷ l)) (λ e. rw e (centroid_few (centre_of c (c ∷ l)) c (c ∷ l) h k)) (λ e. rw e (fan_few (c ∷ l) h k))

-- any contour of three corners or more
pub split_few : (how : ConvexSplitStrategy) {m : ℕ} (l : List Pt) → 3 ≤ m → 3 ≤ length l → Few (m - 2) l (split_contour how m l)
unfolding split_contour flatten
split_few how {m} l h k =
    by_test (leb (length l) m)
    (λ e. rw e (record { sizes = ((k, omega (arith, leb-true (length l) m e)), tt); some = omega arith; corners = omega (arith, length-append l []) }))
    (λ e. rw e (by_few how l h (leb-false (length l) m e)))

-- a part is no longer than its contour
split_short : (how : ConvexSplitStrategy) {m n : ℕ} (l : List Pt) → 3 ≤ m → length l ≤ n → All (λ p. length p ≤ n) (split_contour how m l)
unfolding split_contour
split_short how {m} l h k =
    by_test (leb (length l) m) (λ e. rw e (k, tt))
    (λ e. let g : m < length l = leb-false (length l) m e in rw e (all_map (split_by how m l) (λ p s. omega (arith, s.1)) (by_few how l h g).sizes))

-- ---- of all contours

all_short : (how : ConvexSplitStrategy) {m : ℕ} (n : ℕ) (ps : List (List Pt)) → 3 ≤ m → All (λ l. length l ≤ n) ps → All (λ p. length p ≤ n) (flatten (map (split_contour how m) ps))
unfolding flatten
all_short how n [] h k = tt
all_short how {m} n (l ∷ ps) h k = (all_append (λ p. length p ≤ n) (split_contour how m l) (flatten (map (split_contour how m) ps))).1 (split_short how l h k.0, all_short how n ps h k.1)

pub record AllFew (b : ℕ) (ps qs : List (List Pt)) : Type 0 where
  pub sizes : All (Sized b) qs
  pub some : length qs + 4 * length ps ≤ 2 * length (flatten ps)
  pub corners : length (flatten qs) + 12 * length ps ≤ 6 * length (flatten ps)

all_few : (how : ConvexSplitStrategy) {m : ℕ} (ps : List (List Pt)) → 3 ≤ m → All (λ l. 3 ≤ length l) ps → AllFew (m - 2) ps (flatten (map (split_contour how m) ps))
unfolding flatten
all_few how [] h k = record { sizes = tt; some = omega arith; corners = omega arith }
all_few how {m} (l ∷ ps) h k =
    let f = split_few how l h k.0 in
    let r = all_few how ps h k.1 in
    let qs = split_contour how m l in
    let rs = flatten (map (split_contour how m) ps) in
    record {
      sizes = (all_append (Sized (m - 2)) qs rs).1 (f.sizes, r.sizes);
      some = omega (arith, f.some, r.some, length-append qs rs, length-append l (flatten ps));
      corners = omega (arith, f.corners, r.corners, length_flatten_append qs rs, length-append l (flatten ps));
    }

-- Σ (n − 2) is at most the number of triangles
pub split_parts_few : (how : ConvexSplitStrategy) (m : ℕ) {mesh : Mesh} → Accepted mesh → AllFew (raised m - 2) (parts mesh) (split_parts how m mesh)
unfolding split_parts
split_parts_few how m {mesh} ok = all_few how {m = raised m} (parts mesh) (omega arith) (all_map (parts mesh) convex_three (parts_convex ok))

pub split_table : SplitTable
split_table how m mesh h =
    let ok = accepted mesh h in
    let f = split_parts_few how m ok in
    let c = parts_corners ok in
    let sizes : All (λ p. (3 ≤ length p) × (length p ≤ raised m)) (split_parts how m mesh) = all_map (split_parts how m mesh) (λ p s. (s.0, omega (arith, s.1))) f.sizes in
    let few : length (split_parts how m mesh) ≤ max_parts = omega (arith, f.some, c, ok.few) in
    let corners : length (flatten (split_parts how m mesh)) ≤ 6144 = omega (arith, f.corners, c, ok.few) in
    record {
      sizes = sizes;
      few_parts = few;
      few_corners = corners;
      table = limits_sound (record { parts = few; corners = omega arith; contours = unfold split_parts in all_short how {m = raised m} max_contour (parts mesh) (omega arith) (parts_short ok) });
    }

pub split_count : SplitCount
unfolding fan_parts
split_count m [] h = absurd (omega arith)
split_count m (c ∷ l) h =
    let k = ceil_div (suc (length l) - 2) (m - 2) in
    (length_clipped (triangle_shares (suc (length l)) m) (c ∷ l) ∙ length_shares (suc (length l) - 2) k, length_fanned (triangle_shares (suc (length l)) m) c l ∙ length_shares (suc (length l) - 2) k)

-- ---- a limit that no part is past

whole_all : (how : ConvexSplitStrategy) (m : ℕ) {ps : List (List Pt)} → All (λ l. length l ≤ m) ps → flatten (map (split_contour how m) ps) ≡ ps
unfolding flatten split_contour
whole_all how m {ps = []} h = refl
whole_all how m {ps = l ∷ ps} h = rw (le-leb (length l) m h.0) (ap (λ r. l ∷ r) (whole_all how m h.1))

-- a part has at most two corners more than the mesh has triangles, so with such a limit each is
-- left whole
pub split_whole : (how : ConvexSplitStrategy) (m : ℕ) {mesh : Mesh} → Accepted mesh → length mesh + 2 ≤ raised m → split_parts how m mesh ≡ parts mesh
unfolding split_parts
split_whole how m {mesh} ok h = whole_all how (raised m) (all_map (parts mesh) (λ l k. omega (arith, k)) (parts_within ok))
