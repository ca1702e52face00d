-- The answer for the pairs of both files' operands is that for the files (`answered`), and its text
-- is short (`answer_size`). Assumes nothing.
use mathlib.Core.Path.{◌≡◌, refl, sym, ◌∙◌, ap, subst}
use mathlib.Core.Bool.{true, cond}
use mathlib.Core.List.{List, []}
use Prim.Native.Nat.{ℕ, ◌+◌, ◌-◌, ◌≤◌}
use native.Mathlib.Omega.{arith}
use borrow.Author.Tests.{eq-eqb}
use lib.Dec.{eqb}
use lib.ListN.{length, take, drop}
use lib.IntN.{ℤ}
use Rattle.integers.specs.Faults.{first_fault}
use Rattle.plane.specs.Plane.{Pt}
use Rattle.corners.specs.Corners.{front_corners}
use Rattle.table.specs.declared.IntRect.{IntRect}
use Rattle.text.proofs.Sizes.{decimal_size}
use Rattle.text.proofs.Refusals.{refusal_length}
use Rattle.minkowski.specs.Pairs.{Operand, pair_contours, pair_kinds}
use Rattle.minkowski.specs.declared.Operation.{Operation}
use Rattle.minkowski_work.specs.Scratch.{Call, call_of}
use Rattle.split_operand.proofs.Operand.{split_pairs}
use Rattle.mesh_operand.specs.declared.Taken.{Taken}
use Rattle.mesh_operand.specs.Operand.{Held}
use Rattle.mesh_operand.proofs.Operand.{file_is_operand}
use Rattle.mesh_pair.specs.declared.Two.{Two}
use Rattle.mesh_pair.specs.Files.{left_file, right_file, files_fault, left_operand, right_operand, TwoTaken}
use Rattle.mesh_pair.proofs.Files.{rest_of}
use Rattle.meshes_job.specs.Printed.{result_fault}
use Rattle.meshes_job.proofs.Refused.{both_accepted}
use Rattle.pairs_work.specs.Begun.{call_fault}
use Rattle.pairs_place.specs.Place.{placed_by}
use Rattle.placement.specs.declared.Contact.TheVariants.{Apart, Touching, Overlapping}
use Rattle.placement.specs.declared.Placed.{Placed}
use Rattle.placement.specs.declared.Placed.TheVariants.{At, Refused}
use Rattle.placement.specs.Placement.{contact_by}
use Rattle.meshes_place.specs.Placed.{place_of, files_of, point_fault, placed_fault, contact_of, placed_of, answer_text}

-- the difference of two files
abbrev pub difference_of : List ℕ → Call
difference_of files = record { reflected = true; left = left_operand files; right = right_operand files }

-- nothing but 10 and 20 is told of it
difference_fault : (files : List ℕ) → files_fault files ≡ 0 → call_fault (difference_of files) ≡ result_fault true (left_operand files) (right_operand files)
unfolding result_fault
difference_fault files e =
    let h = both_accepted files e in
    split_pairs true (left_operand files) (right_operand files) (file_is_operand (left_file files) h.0) (file_is_operand (right_file files) h.1)

module _ (bytes : List ℕ) (p : point_fault bytes ≡ 0) where
  placed_is : files_fault (files_of bytes) ≡ 0 → placed_by (difference_of (files_of bytes)) (place_of bytes) ≡ placed_of bytes
  unfolding placed_by placed_fault contact_of
  placed_is e =
      let f : call_fault (difference_of (files_of bytes)) ≡ placed_fault bytes = difference_fault (files_of bytes) e ∙ sym (rw (eq-eqb (point_fault bytes) 0 p, eq-eqb (files_fault (files_of bytes)) 0 e)) in
      ap (λ n. cond (eqb n 0) (At (contact_of bytes)) (Refused n)) f

  -- the files as a slice has them
  pub rest_taken : {t : Two} {ls : List ℕ} {lc : List ℤ} {rs : List ℕ} {rc : List ℤ} → TwoTaken (take (length bytes - 8) (drop 8 bytes)) t ls lc rs rc → TwoTaken (files_of bytes) t ls lc rs rc
  rest_taken {t} {ls} {lc} {rs} {rc} k = subst (λ x. TwoTaken x t ls lc rs rc) (rest_of bytes 8) k

  module _ {t : Two} {ls : List ℕ} {lc : List ℤ} {rs : List ℕ} {rc : List ℤ} (k : TwoTaken (files_of bytes) t ls lc rs rc) (y : t.fault ≡ 0) where
    -- the corners as the code takes them
    module _ {lf rf : List ℤ} (el : lf ≡ front_corners t.left.corners lc) (er : rf ≡ front_corners t.right.corners rc) where
      abbrev taken : Call
      taken = call_of (record { left = t.left.bounds; right = t.right.bounds; reflected = true }) (take (t.left.parts + 1) ls) lf (take (t.right.parts + 1) rs) rf

      taken_is : taken ≡ difference_of (files_of bytes)
      taken_is =
          let l = k.left_held y in
          let r = k.right_held y in
          (λ i. record { reflected = true; left = record { starts = l.starts i; corners = (el ∙ l.corners) i; bounds = l.bounds i }; right = record { starts = r.starts i; corners = (er ∙ r.corners) i; bounds = r.bounds i } })

      pub answered : {z : Pt} {r : Placed} → z ≡ place_of bytes → r ≡ placed_by taken z → r ≡ placed_of bytes
      answered {z} q e = e ∙ (λ i. placed_by (taken_is i) (q i)) ∙ placed_is (sym k.fault ∙ y)

-- ---- its text

pub answer_size : (p : Placed) → length (answer_text p) ≤ 29
unfolding answer_text
answer_size (At Apart) = omega arith
answer_size (At Touching) = omega arith
answer_size (At Overlapping) = omega arith
answer_size (Refused f) = omega (arith, refusal_length f, decimal_size f)
