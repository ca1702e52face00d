-- The pairs of two operands that are not refused: they can be walked (`walkable`), and what is told
-- of their walks is told of them (`told_at`, `told_refused`). Assumes nothing.
use mathlib.Core.Path.{◌≡◌, refl, sym, ◌∙◌, ap, subst}
use mathlib.Core.List.{List, flatten}
use Prim.Native.Nat.{ℕ, ◌*◌, ◌/◌, ◌<◌}
use native.Mathlib.Omega.{arith}
use borrow.Author.Tests.{le-ltb, eq-eqb, ne_eqb, eqb-true}
use lib.Dec.{eqb}
use lib.ListN.{length}
use lib.IntN.{ℤ}
use Rattle.integers.specs.Lists.{All}
use Rattle.integers.specs.Faults.{first_fault}
use Rattle.integers.proofs.Order.{by_test}
use Rattle.integers.proofs.Faults.{append_none, first_next, first_empty}
use Rattle.integers.proofs.Elements.{all_map}
use Rattle.plane.specs.Plane.{Pt}
use Rattle.table.specs.Table.{starts_of, room_kinds, part_count}
use Rattle.minkowski.specs.Pairs.{pair_contours, pair_kinds, pairs_fault}
use Rattle.minkowski_pairs.proofs.Bounds.{result_within}
use Rattle.minkowski_work.specs.Scratch.{Call}
use Rattle.minkowski_work.proofs.Faults.{operands_none}
use Rattle.minkowski_work.proofs.Walked.{unrolleds, contours_in_lem}
use Rattle.pair_walks.specs.Walks.{contours_in}
use Rattle.pair_numbers.specs.Numbers.{Keyed}
use Rattle.pairs_work.specs.declared.Begun.{Begun}
use Rattle.pairs_work.specs.Begun.{call_fault, job_begun, CallBegins, refused_begun, accepted_begun}
use Rattle.placement.specs.declared.Contact.{Contact}
use Rattle.placement.specs.declared.Placed.TheVariants.{At, Refused}
use Rattle.placement.specs.Placement.{contact_by}
use Rattle.pairs_place.specs.Place.{Gridded, Walkable, placed_by}

-- ---- the contours are on the grid

-- with as much room as they ask nothing but the operands is judged
room_none : (ps : List (List Pt)) → first_fault (room_kinds ps (length (starts_of ps)) (2 * length (flatten ps))) ≡ 0
room_none ps =
    first_next 22 _ (le-ltb (length (starts_of ps)) (length (starts_of ps)) (omega arith))
    ∙ first_next 21 _ (le-ltb (2 * length (flatten ps) / 2) (length (flatten ps)) (omega arith)) ∙ first_empty

module _ (x : Call) (e : call_fault x ≡ 0) where
  abbrev ps : List (List Pt)
  ps = pair_contours x.reflected x.left x.right

  pairs_none : pairs_fault x.reflected x.left x.right (length (starts_of ps)) (2 * length (flatten ps)) ≡ 0
  unfolding pairs_fault
  pairs_none =
      append_none (pair_kinds x.reflected x.left x.right) (room_kinds ps (length (starts_of ps)) (2 * length (flatten ps)))
      (omega arith, (omega arith, (omega arith, (omega arith, (omega arith, (omega arith, (omega arith, (omega arith, (omega arith, (omega arith, (omega arith, tt))))))))))) e
      ∙ room_none ps

  on_grid_lem : All Gridded ps
  on_grid_lem = all_map ps (λ K q. all_map K (λ p i. i.1) q) (result_within x.reflected x.left x.right (length (starts_of ps)) (2 * length (flatten ps)) pairs_none)

-- ---- what was begun

module _ (x : Call) {points : List (List ℤ)} {firsts numbers : List ℕ} {b : Begun} (h : CallBegins x points firsts numbers b) where
  fault_is : b.fault ≡ call_fault x
  unfolding job_begun
  fault_is =
      by_test (eqb (call_fault x) 0)
      (λ t. let y : job_begun x (call_fault x) ≡ accepted_begun x = rw t in ap (λ a. a.fault) (h.answer ∙ y) ∙ sym (eqb-true (call_fault x) 0 t))
      (λ t. let y : job_begun x (call_fault x) ≡ refused_begun (call_fault x) = rw t in ap (λ a. a.fault) (h.answer ∙ y))

  pub told_refused : (z : Pt) → (b.fault ≡ 0 → ⊥) → Refused b.fault ≡ placed_by x z
  unfolding placed_by
  told_refused z d = rw (ne_eqb (call_fault x) 0 (λ q. d (fault_is ∙ q))) (ap Refused fault_is)

  module _ (q : b.fault ≡ 0) where
    none : call_fault x ≡ 0
    none = sym fault_is ∙ q

    accepted_is : b ≡ accepted_begun x
    unfolding job_begun
    accepted_is = let y : job_begun x (call_fault x) ≡ accepted_begun x = rw (eq-eqb (call_fault x) 0 none) in h.answer ∙ y

    contours_are : contours_in firsts points b.left b.right ≡ pair_contours x.reflected x.left x.right
    contours_are = (λ i. contours_in firsts points (accepted_is i).left (accepted_is i).right) ∙ contours_in_lem x (h.walked none)

    pub walkable : Walkable firsts points numbers b.left b.right
    walkable =
        let u = unrolleds x (h.walked none) (operands_none x.reflected x.left x.right none) refl in
        let f : part_count x.left.starts * part_count x.right.starts < 4294967296 = omega (arith, u.few_contours) in
        record {
          keyed = subst (λ a. Keyed firsts points numbers a.left a.right) (sym accepted_is) (h.keyed none);
          few = subst (λ a. a.left * a.right < 4294967296) (sym accepted_is) f;
          grid = subst (All Gridded) (sym contours_are) (on_grid_lem x none);
        }

    pub told_at : (z : Pt) {c : Contact} → c ≡ contact_by z (contours_in firsts points b.left b.right) → At c ≡ placed_by x z
    unfolding placed_by
    told_at z e = rw (eq-eqb (call_fault x) 0 none) (ap At (e ∙ ap (contact_by z) contours_are))
