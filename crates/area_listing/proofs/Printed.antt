-- What the area program prints, as the code goes about it: a file's refusal, or the listing of its
-- parts, which stand on the front of the arrays. Assumes nothing.
use mathlib.Core.Path.{◌≡◌, sym, ◌∙◌, ap, subst}
use mathlib.Core.List.{List}
use Prim.Native.Nat.{ℕ, ◌+◌, ◌≤◌}
use native.Mathlib.Omega.{arith}
use borrow.Author.Tests.{eq-eqb, ne_eqb}
use lib.ListN.{length, take, drop, length-append}
use lib.IntN.{ℤ}
use Rattle.io.specs.Counts.{IsPrefixLen as Counted}
use Rattle.io.proofs.Counting.{prefix_len_of_le as counted}
use Rattle.integers.specs.Lists.{overlay}
use Rattle.integers.proofs.Overlay.{overlay_eq}
use Rattle.corners.specs.Corners.{front_corners}
use Rattle.table.specs.Table.{starts_of, corners_of, table_parts}
use Rattle.table.specs.declared.Counts.{Counts}
use Rattle.table.proofs.Rules.{parts_table}
use Rattle.text.specs.Text.{refusal}
use Rattle.text.specs.Put.{PutText}
use Rattle.text.proofs.Puts.{put_whole}
use Rattle.listing.specs.File.{file_fault, file_parts}
use Rattle.listing.specs.Listing.{listing_of, areas_of}
use Rattle.listing_areas.specs.Areas.{Listable}
use Rattle.listing_fits.specs.Fits.{listing_room}
use Rattle.listing_fits.proofs.Files.{file_listable, listing_fits}
use Rattle.file_parts.proofs.Files.{Left, fault_is, starts_taken, corners_taken}

module _ (bytes : List ℕ) where
  pub file_refused : {f : ℕ} → f ≡ file_fault bytes → (f ≡ 0 → ⊥) → areas_of bytes ≡ refusal f
  unfolding areas_of
  file_refused {f} e h = rw (← e, ne_eqb f 0 h)

  file_listed : file_fault bytes ≡ 0 → areas_of bytes ≡ listing_of (file_parts bytes)
  unfolding areas_of
  file_listed e = rw (eq-eqb (file_fault bytes) 0 e)

module _ (bytes s : List ℕ) (c : List ℤ) {told : Counts} {s' : List ℕ} {c' : List ℤ} (left : Left bytes s c told s' c') where
  pub told_refused : (told.fault ≡ 0 → ⊥) → areas_of bytes ≡ refusal told.fault
  told_refused h = file_refused bytes (fault_is bytes s c left) h

  -- a refusal fits where any answer does
  pub refused_room : (told.fault ≡ 0 → ⊥) → length (refusal told.fault) ≤ listing_room
  refused_room h = omega (arith, listing_fits bytes, ap length (told_refused h))

  module _ (z : told.fault ≡ 0) where
    none : file_fault bytes ≡ 0
    none = sym (fault_is bytes s c left) ∙ z

    -- the corners as the code takes them
    module _ {l : List ℤ} (e : l ≡ front_corners told.corners c') where
      corners_are : l ≡ corners_of (file_parts bytes)
      corners_are = e ∙ corners_taken bytes s c left z

      pub parts_listed : listing_of (table_parts (take (told.parts + 1) s') l) ≡ areas_of bytes
      parts_listed = (λ t. listing_of (table_parts (starts_taken bytes s c left z t) (corners_are t))) ∙ ap listing_of (parts_table (file_parts bytes)) ∙ sym (file_listed bytes none)

      pub parts_listable : Listable (take (told.parts + 1) s') l
      parts_listable =
          subst (λ u. Listable u l) (sym (starts_taken bytes s c left z))
          (subst (Listable (starts_of (file_parts bytes))) (sym corners_are) (file_listable bytes none).listable)

      pub listed_room : length (listing_of (table_parts (take (told.parts + 1) s') l)) ≤ listing_room
      listed_room = omega (arith, listing_fits bytes, ap length parts_listed)

-- text put from the front on, as the entry point promises it
pub answered : {t out out' : List ℕ} {r : ℕ} → PutText t 0 out out' r → (r ≡ length t) × ((out' ≡ overlay t out) × Counted r out')
answered {t} {out} {out'} {r} p =
    let w = put_whole p in
    let l : r ≤ length out' = omega (arith, w.0, ap length w.1, ap length (overlay_eq t out), length-append t (drop (length t) out)) in
    (w.0, (w.1, counted r out' l))
