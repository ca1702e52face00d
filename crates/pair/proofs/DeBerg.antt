-- De Berg et al.'s merge by angle is the join, on strictly ascending lists of nonzero edges
-- (`berg_join`): no two edges of one list have one direction, so a run is one edge or two, and both
-- merges take them alike. First, that the merge has the cases that the specification writes out
-- beside it (`merge_cases`). Assumes nothing.
use mathlib.Core.Path.{◌≡◌, refl, sym, ◌∙◌, ap}
use mathlib.Core.List.{List, [], ◌∷◌}
use Rattle.integers.specs.Lists.{All}
use Rattle.integers.proofs.Elements.{all_map2}
use Rattle.std.specs.declared.cmp.Ordering.{Ordering}
use Rattle.std.specs.declared.cmp.Ordering.TheVariants.{Less, Equal, Greater}
use Rattle.plane.specs.Plane.{Pt, ◌+ᵖ◌, angle_cmp}
use Rattle.plane.specs.Contour.{edges}
use Rattle.plane.specs.Halves.{Nz}
use Rattle.plane.proofs.Directions.{Lt, Same, before, beside, after, angle_cases, lt_le, clash, same_le, lt_not_same, same_lt, same_sym, lt_trans}
use Rattle.pair.specs.Walk.{corner_at}
use Rattle.pair.specs.Berg.{merge_one, merge_by_angle, MergeCases, corners_from, berg_of}
use Rattle.pair.specs.EdgeLists.{step_one, stepped, runs, grouped, join}
use Rattle.pair.proofs.Convex.{Sorted}
use Rattle.pair.proofs.Join.{step_by, all_stepped, runs_by}

-- ---- the merge, case by case

-- one step of their merge, by the comparison
merge_one_lem : (e f : Pt) (k : List Pt → List Pt) (l : List Pt) {o : Ordering} → angle_cmp e f ≡ o → merge_one e k (f ∷ l) ≡ elim o [ Less ↦ e ∷ k (f ∷ l) | Equal ↦ (e +ᵖ f) ∷ k l | Greater ↦ f ∷ merge_one e k l ]
unfolding merge_one
merge_one_lem e f k l h = ap (λ o. elim o [ Less ↦ e ∷ k (f ∷ l) | Equal ↦ (e +ᵖ f) ∷ k l | Greater ↦ f ∷ merge_one e k l ]) h

second_out : (l : List Pt) → merge_by_angle l [] ≡ l
unfolding merge_by_angle merge_one
second_out [] = refl
second_out (e ∷ l) = ap (λ r. e ∷ r) (second_out l)

pub merge_cases : MergeCases
unfolding merge_by_angle
merge_cases = record {
  first_out = λ m. refl;
  second_out = second_out;
  less = λ e f l m h. merge_one_lem e f (merge_by_angle l) m h;
  greater = λ e f l m h. merge_one_lem e f (merge_by_angle l) m h;
  equal = λ e f l m h. merge_one_lem e f (merge_by_angle l) m h;
}

-- ---- one edge more of a strictly ascending list

-- nothing after e has its direction: its run ends
runs_end : (e s : Pt) (X : List Pt) → All (Lt e) X → runs e s X ≡ s ∷ grouped X
runs_end e s [] h = unfold runs grouped in refl
runs_end e s (f ∷ X) h = runs_by X (λ r. r ≡ s ∷ grouped (f ∷ X)) (lt_le h.0) (λ k. absurd (lt_not_same h.0 k)) (λ k. unfold grouped in refl)

-- each run is one edge
grouped_strict : {l : List Pt} → Sorted Lt l → grouped l ≡ l
unfolding grouped
grouped_strict {l = []} s = refl
grouped_strict {l = e ∷ l} s = runs_end e e l s.0 ∙ ap (λ r. e ∷ r) (grouped_strict s.1)

-- f before all of m steps first
stepped_first : {f : Pt} (m l : List Pt) → Nz f → All Nz m → All (Lt f) m → stepped m (f ∷ l) ≡ f ∷ stepped m l
unfolding stepped
stepped_first [] l nf nm h = refl
stepped_first {f} (g ∷ m) l nf nm h = step_by g (stepped m) (λ r. r ≡ f ∷ step_one g (stepped m) l) nm.0 nf (λ k. refl) (λ k. absurd (clash h.0 k))

-- ---- the merges agree

module _ {e : Pt} (m : List Pt) (ne : Nz e) (nm : All Nz m) (em : All (Lt e) m)
    (rest : (l : List Pt) → All Nz l → Sorted Lt l → merge_by_angle m l ≡ grouped (stepped m l)) where
  -- e first, and alone in its direction
  alone : (l : List Pt) → All Nz l → Sorted Lt l → All (Lt e) l → e ∷ merge_by_angle m l ≡ grouped (e ∷ stepped m l)
  unfolding grouped
  alone l nl sl el = ap (λ r. e ∷ r) (rest l nl sl) ∙ sym (runs_end e e (stepped m l) (all_stepped (Lt e) m l em el))

  -- e and f in one direction
  added : {f : Pt} (l : List Pt) → Nz f → All Nz l → All (Lt f) l → Sorted Lt l → Same e f → (e +ᵖ f) ∷ merge_by_angle m l ≡ grouped (e ∷ stepped m (f ∷ l))
  unfolding grouped
  added {f} l nf nl fl sl s =
      ap (λ r. (e +ᵖ f) ∷ r) (rest l nl sl)
      ∙ sym (ap (runs e e) (stepped_first m l nf nm (all_map2 m (λ g n k. same_lt nf ne n (same_sym s) k) nm em))
      ∙ runs_by (stepped m l) (λ r. r ≡ (e +ᵖ f) ∷ grouped (stepped m l)) (same_le s).0
      (λ k. runs_end e (e +ᵖ f) (stepped m l) (all_stepped (Lt e) m l em (all_map2 l (λ g n k. same_lt ne nf n s k) nl fl))) (λ k. absurd (lt_not_same k s)))

  -- one edge of either list, or both on equality
  merge_front : (l : List Pt) → All Nz l → Sorted Lt l → merge_one e (merge_by_angle m) l ≡ grouped (step_one e (stepped m) l)
  unfolding merge_one step_one grouped
  merge_front [] nl sl = alone [] nl sl tt
  merge_front (f ∷ l) nl sl =
      step_by e (stepped m) (λ r. merge_one e (merge_by_angle m) (f ∷ l) ≡ grouped r) ne nl.0
      (λ k. elim (angle_cases e f) [
        | before t x ↦ absurd (clash k (lt_le x))
        | beside t x ↦ absurd (clash k (same_le x).0)
        | after t x ↦
            merge_one_lem e f (merge_by_angle m) l t ∙ ap (λ r. f ∷ r) (merge_front l nl.1 sl.1) ∙ sym (runs_end f f (step_one e (stepped m) l) (later l k nl.0 sl.0))
      ])
      (λ k. elim (angle_cases e f) [
        | before t x ↦ merge_one_lem e f (merge_by_angle m) l t ∙ alone (f ∷ l) nl sl (x, all_map2 l (λ g n j. lt_trans ne nl.0 n x j) nl.1 sl.0)
        | beside t x ↦ merge_one_lem e f (merge_by_angle m) l t ∙ added l nl.0 nl.1 sl.0 sl.1 x
        | after t x ↦ absurd (clash x k)
      ])
    where
      later : {f : Pt} (l : List Pt) → Lt f e → Nz f → All (Lt f) l → All (Lt f) (step_one e (stepped m) l)
      later {f} l k nf fl = unfold stepped in all_stepped (Lt f) (e ∷ m) l (k, all_map2 m (λ g n j. lt_trans nf ne n k j) nm em) fl

-- both merges, list by list
merge_grouped : (m l : List Pt) → All Nz m → All Nz l → Sorted Lt m → Sorted Lt l → merge_by_angle m l ≡ grouped (stepped m l)
unfolding merge_by_angle stepped
merge_grouped [] l nm nl sm sl = sym (grouped_strict sl)
merge_grouped (e ∷ m) l nm nl sm sl = merge_front m nm.0 nm.1 sm.0 (λ l nl sl. merge_grouped m l nm.1 nl sm.1 sl) l nl sl

-- de Berg et al.'s merge is the join
pub berg_join : (m l : List Pt) → All Nz m → All Nz l → Sorted Lt m → Sorted Lt l → merge_by_angle m l ≡ join m l
unfolding join
berg_join = merge_grouped

-- their corner list, of contours with such edges
pub berg_corners : (A B : List Pt) → All Nz (edges A) → All Nz (edges B) → Sorted Lt (edges A) → Sorted Lt (edges B) → berg_of A B ≡ corners_from (corner_at A 0 +ᵖ corner_at B 0) (join (edges A) (edges B))
unfolding berg_of
berg_corners A B na nb sa sb = ap (corners_from (corner_at A 0 +ᵖ corner_at B 0)) (berg_join (edges A) (edges B) na nb sa sb)
