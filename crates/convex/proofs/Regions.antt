-- Each triangle of an accepted mesh is taken into exactly one region, once (`regions_once`): the
-- lists of taken triangles, joined, are 0 to n − 1 in some order. In order: the theorem's statement
-- for one region (`Apart`), kept by each step of the zipper; all regions; what holds of every
-- region that starts at a triangle not yet taken holds of all (`all_regions`).
-- Assumes an accepted mesh where it says so.
use mathlib.Core.Path.{◌≡◌, refl, sym, ◌∙◌, ap, subst}
use mathlib.Core.Bool.{false}
use mathlib.Core.List.{List, [], ◌∷◌, ◌++◌, map, flatten, append_assoc}
use Prim.Native.Nat.{ℕ, ◌+◌, ◌≤◌, ◌<◌}
use native.Mathlib.Omega.{arith}
use borrow.Author.Tests.{eqb-true, eqb-false}
use lib.Dec.{eqb}
use lib.ListN.{length}
use Rattle.integers.specs.Lists.{All, count, up_to, ExactlyOnce}
use Rattle.integers.proofs.Order.{by_test}
use Rattle.integers.proofs.Counting.{count_here, count_there, count_append, all_up_to, once_up_to}
use Rattle.mesh.specs.Mesh.{Mesh}
use Rattle.mesh.proofs.Accepted.{Accepted}
use Rattle.convex.specs.Joining.{Region, is_in, region, regions_from, regions}
use Rattle.convex.proofs.Taken.{is_in_false, is_in_true}
use Rattle.convex.specs.Zipper.{start_z, moved, pushed}
use Rattle.convex.proofs.Slots.{step_z_by, across_in, top_sided, zipped_keeps}
use Rattle.convex.proofs.Zipped.{zipped_taken}

-- ---- one region

-- the triangles taken are of the mesh, k among them; none of them twice, and none that was seen
pub record Apart (m : Mesh) (seen : List ℕ) (k : ℕ) (taken : List ℕ) : Type 0 where
  pub once : (i : ℕ) → count i (seen ++ taken) ≤ 1
  pub in_mesh : (i : ℕ) → length m ≤ i → count i taken ≡ 0
  pub first : 0 < count k taken

module _ {m : Mesh} (ok : Accepted m) {seen : List ℕ} {k : ℕ} where
  -- one more, of the mesh and not yet taken
  apart_more : {taken : List ℕ} {j : ℕ} → is_in j (seen ++ taken) ≡ false → j < length m → Apart m seen k taken → Apart m seen k (taken ++ (j ∷ []))
  unfolding count
  apart_more {taken} {j} n l a = record {
    once = λ i. by_test (eqb j i)
        (λ t. omega (arith, is_in_false j (seen ++ taken) n, ap (λ h. count h (seen ++ taken)) (eqb-true j i t), counts i, count_here [] (eqb-true j i t)))
        (λ t. omega (arith, a.once i, counts i, count_there [] (eqb-false j i t)));
    in_mesh = λ i h. omega (arith, a.in_mesh i h, count_append i taken (j ∷ []), count_there {i = i} {x = j} [] (omega arith));
    first = omega (arith, a.first, count_append k taken (j ∷ []));
  }
    where
      counts : (i : ℕ) → count i (seen ++ (taken ++ (j ∷ []))) ≡ count i (seen ++ taken) + count i (j ∷ [])
      counts i = ap (count i) (sym (append_assoc seen taken (j ∷ []))) ∙ count_append i (seen ++ taken) (j ∷ [])

  apart_start : k < length m → is_in k seen ≡ false → ((i : ℕ) → count i seen ≤ 1) → Apart m seen k (k ∷ [])
  unfolding count
  apart_start l n o = record {
    once = λ i. by_test (eqb k i)
        (λ t. omega (arith, is_in_false k seen n, ap (λ h. count h seen) (eqb-true k i t), count_append i seen (k ∷ []), count_here [] (eqb-true k i t)))
        (λ t. omega (arith, o i, count_append i seen (k ∷ []), count_there [] (eqb-false k i t)));
    in_mesh = λ i h. count_there {i = i} {x = k} [] (omega arith);
    first = omega (arith, count_here {i = k} [] refl);
  }

  -- a region that starts at a triangle not seen
  pub region_apart : k < length m → is_in k seen ≡ false → ((i : ℕ) → count i seen ≤ 1) → Apart m seen k (region m seen k).taken
  unfolding moved pushed start_z
  region_apart l n o =
      subst (Apart m seen k) (sym (zipped_taken m ok seen k l))
      (zipped_keeps m ok seen
      (λ x rest z h f a. step_z_by m seen (λ z. Apart m seen k z.taken) x rest z a (λ d j t. apart_more j (across_in m ok x _ (top_sided m ok x rest z h f) d) a)) l (apart_start l n o))

-- ---- all regions

-- the lists of taken triangles, joined
abbrev pub taken_of : List Region → List ℕ
taken_of l = flatten (map (λ r. r.taken) l)

module _ (m : Mesh) (ok : Accepted m) where
  record Shared (seen : List ℕ) (l : List ℕ) (taken : List ℕ) : Type 0 where
    once : (i : ℕ) → count i (seen ++ taken) ≤ 1
    in_mesh : (i : ℕ) → length m ≤ i → count i taken ≡ 0
    each : (i : ℕ) → 0 < count i l → 0 < count i (seen ++ taken)

  -- seen are those of the regions before, which are apart; l are the triangles still to start from
  shared_from : (seen l : List ℕ) → ((i : ℕ) → count i seen ≤ 1) → All (λ i. i < length m) l → Shared seen l (taken_of (regions_from m seen l))
  unfolding regions_from flatten count
  shared_from seen [] o b = record { once = λ i. omega (arith, o i, count_append i seen []); in_mesh = λ i h. refl; each = λ i h. absurd (omega arith) }
  shared_from seen (k ∷ l) o b = by_test (is_in k seen)
      (λ t. rw t (let s = shared_from seen l o b.1 in record {
        once = s.once;
        in_mesh = s.in_mesh;
        each = λ i h. by_test (eqb k i)
            (λ e. omega (arith, is_in_true k seen t, ap (λ h. count h seen) (eqb-true k i e), count_append i seen (taken_of (regions_from m seen l))))
            (λ e. s.each i (omega (arith, count_there l (eqb-false k i e))));
      }))
      (λ t. rw t (let a = region_apart ok b.0 t o in
      let w = (region m seen k).taken in
      let s = shared_from (seen ++ w) l a.once b.1 in
      let rest = taken_of (regions_from m (seen ++ w) l) in
      record {
        once = λ i. omega (arith, s.once i, count_append i (seen ++ w) rest, count_append i seen w, count_append i seen (w ++ rest), count_append i w rest);
        in_mesh = λ i h. omega (arith, a.in_mesh i h, s.in_mesh i h, count_append i w rest);
        each = λ i h. by_test (eqb k i)
            (λ e. omega (arith, a.first, ap (λ h. count h w) (eqb-true k i e), count_append i seen (w ++ rest), count_append i w rest))
            (λ e. omega (arith, s.each i (omega (arith, count_there l (eqb-false k i e))), count_append i (seen ++ w) rest, count_append i seen w, count_append i seen (w ++ rest), count_append i w rest));
      }))

  -- each triangle is taken exactly once
  pub regions_once : ExactlyOnce (length m) (flatten (map (λ r. r.taken) (regions m)))
  unfolding regions count
  regions_once =
      let s = shared_from [] (up_to (length m)) (λ i. omega arith) (all_up_to (length m)) in
      record {
        once = λ i h. omega (arith, s.once i, s.each i (omega (arith, (once_up_to (length m)).once i h)));
        others = λ i h. s.in_mesh i h;
      }
