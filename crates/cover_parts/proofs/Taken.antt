-- Each triangle is taken into exactly one part of the table that an accepted call leaves, which
-- covers what it took (`each_taken_whole`). Assumes nothing.
use mathlib.Core.Path.{◌≡◌, sym, ◌∙◌, ap, subst}
use mathlib.Core.List.{List, [], ◌∷◌}
use Prim.Native.Nat.{ℕ, ◌<◌}
use lib.ListN.{length, get_or, length-map, get_or-map}
use lib.IntN.{ℤ}
use Rattle.integers.specs.Lists.{rotate}
use Rattle.integers.specs.Faults.{first_fault}
use Rattle.integers.proofs.Elements.{all_get_d}
use Rattle.integers.proofs.Faults.{append_first}
use Rattle.mesh.specs.Mesh.{Mesh, mesh_kinds}
use Rattle.table.specs.Table.{room_kinds, first_contours}
use Rattle.table.proofs.Answers.{accepted_counts, contours_left}
use Rattle.convex.specs.Joining.{Region, place_of, without_straight, contour_of, regions, parts, parts_fault, parts_starts, parts_corners}
use Rattle.convex.proofs.Theorem.{each_taken_once}
use Rattle.cover.specs.Wholes.{SameCover}
use Rattle.cover_parts.specs.Parts.{taken_contours}
use Rattle.cover_parts.specs.Taken.{region_at, part_left, EachTakenWhole}
use Rattle.cover_parts.proofs.Parts.{regions_cover}

abbrev no_region : Region
no_region = record { contour = []; stack = []; taken = [] }

module _ (m : Mesh) (s : List ℕ) (c : List ℤ) (h : parts_fault m (length s) (length c) ≡ 0) where
  mesh_accepted : first_fault (mesh_kinds m) ≡ 0
  unfolding parts_fault
  mesh_accepted = append_first (mesh_kinds m) (room_kinds (parts m) (length s) (length c)) h

  count_parts : length (parts m) ≡ length (regions m)
  unfolding parts
  count_parts = length-map (regions m) contour_of

  left : first_contours (length (regions m)) (parts_starts m s c) (parts_corners m s c) ≡ parts m
  left = contours_left (parts m) s c (sym count_parts) h

  part : (k : ℕ) → part_left m s c k ≡ contour_of (region_at m k)
  unfolding parts contour_of without_straight place_of rotate
  part k = ap (λ l. get_or l k []) left ∙ get_or-map contour_of (regions m) k no_region

  covers : (k : ℕ) → k < length (regions m) → SameCover (part_left m s c k ∷ []) (taken_contours m (region_at m k))
  covers k l =
      subst (λ p. SameCover (p ∷ []) (taken_contours m (region_at m k))) (sym (part k))
      (all_get_d (λ r. SameCover (contour_of r ∷ []) (taken_contours m r)) (regions m) no_region (regions_cover m mesh_accepted) k l)

pub each_taken_whole : EachTakenWhole
each_taken_whole m s c h = record {
  once = (each_taken_once m (mesh_accepted m s c h)).once;
  count = ap (λ n. n.parts) (accepted_counts h (parts m)) ∙ count_parts m s c h;
  part = λ k l. part m s c h k;
  covers = covers m s c h;
}
