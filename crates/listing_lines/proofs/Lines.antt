-- The pieces of a listing's lines: of the first (`head_pieces`), of a part's (`part_pieces`), and
-- the part lines from part k on (`lines_from`), with what each makes. In order: the first line; a
-- part's; the room for part k's; all part lines; they come after the first (`listing_put`). Assumes
-- nothing.
use mathlib.Core.Path.{◌≡◌, refl, sym, ◌∙◌, ap, subst}
use mathlib.Core.Bool.{false}
use mathlib.Core.List.{List, [], ◌∷◌, ◌++◌, flatten}
use Prim.Native.Nat.{ℕ, suc, ◌+◌, ◌-◌, ◌≤◌, ◌<◌}
use native.Mathlib.Numerals.{add-one}
use native.Mathlib.Omega.{arith}
use lib.ListN.{length, drop, get_or, length-append, drop_of_length-le}
use lib.Seq.{drop-cons}
use lib.IntN.{ℤ}
use Rattle.plane.specs.Plane.{Pt}
use Rattle.corners.specs.Corners.{points_of}
use Rattle.table.specs.Table.{table_parts, table_broken, part_count}
use Rattle.table.specs.Shown.{part_numbers}
use Rattle.corners.proofs.Corners.{length_points}
use Rattle.table.proofs.Rules.{count_parts, count_corners}
use Rattle.table.proofs.Shown.{part_is}
use Rattle.text.specs.Text.{decimal, space, newline, corners_word, corners_text}
use Rattle.text.specs.Put.{PutText}
use Rattle.text.proofs.Puts.{put_after_lem, put_as, put_length, put_room}
use Rattle.listing.specs.Listing.{parts_word, area_word, area_of, total_area, share_of, head_line, part_line, part_lines, listing_of}
use Rattle.listing_areas.proofs.Totals.{area_most, area_some, part_measurable}
use Rattle.listing_lines.specs.Lines.{HeadRoom, PartRoom, LineRoom}
use Rattle.listing_lines.proofs.Putting.{joined, Putting, putting_start, putting_end}

-- ---- the first line

abbrev pub head_pieces : ℕ → ℕ → ℕ → List (List ℕ)
head_pieces parts corners area = (parts_word ++ decimal parts) ∷ (corners_word ++ decimal corners) ∷ (area_word ++ decimal area) ∷ newline ∷ []

head_makes : (s : List ℕ) (c : List ℤ) {total n : ℕ} → table_broken s c ≡ false → total ≡ total_area (table_parts s c) → n ≡ length (points_of c) → flatten (head_pieces (length s - 1) n total) ≡ head_line (table_parts s c)
unfolding head_line
head_makes s c h e f = (λ i. flatten (head_pieces (sym (count_parts s c h) i) ((f ∙ length_points c ∙ sym (count_corners s c h)) i) (e i))) ∙ joined _ _

pub head_start : {s : List ℕ} {c : List ℤ} {total n : ℕ} {out : List ℕ} → HeadRoom s c total out → n ≡ length (points_of c) → Putting (head_line (table_parts s c)) 0 out (head_pieces (length s - 1) n total) out 0
head_start {s} {c} {total} {n} h f = putting_start (head_makes s c h.whole h.sum f) (omega (arith, h.room))

-- ---- a part's line

abbrev pub part_pieces : ℕ → ℕ → ℕ → ℕ → List Pt → List (List ℕ)
part_pieces k corners area share p = decimal k ∷ (space ++ decimal corners) ∷ (space ++ decimal area) ∷ (space ++ decimal share) ∷ corners_text p ∷ newline ∷ []

part_makes : (k : ℕ) (part : List ℤ) (total : ℕ) {n area share : ℕ} → n ≡ length (points_of part) → area ≡ area_of (points_of part) → share ≡ share_of total area → flatten (part_pieces k n area share (points_of part)) ≡ part_line total k (points_of part)
unfolding part_line
part_makes k part total g e f = (λ i. flatten (part_pieces k (g i) (e i) ((f ∙ ap (share_of total) e) i) (points_of part))) ∙ joined _ _

pub part_start : {k : ℕ} {part : List ℤ} {total : ℕ} {out : List ℕ} {at n area share : ℕ} → PartRoom k part total out at → n ≡ length (points_of part) → area ≡ area_of (points_of part) → share ≡ share_of total area
    → Putting (part_line total k (points_of part)) at out (part_pieces k n area share (points_of part)) out at
part_start {k} {part} {total} {n = n} {area = area} {share = share} h g e f = putting_start (part_makes k part total g e f) h.room

-- ---- room for the line of part k

pub part_room : {s : List ℕ} {c : List ℤ} {k total : ℕ} {out : List ℕ} {at : ℕ} {part : List ℤ} → part ≡ part_numbers s c k → LineRoom s c k total out at → PartRoom k part total out at
part_room {s} {c} {k} {total} {out} {at} {part} e h = subst (λ l. PartRoom k l total out at) (sym e) (record {
  measurable = part_measurable h.listable h.inside;
  within = omega (arith, ap area_of here, area_most ps k inside, h.sum);
  some = omega (arith, area_some ps h.listable.above inside, area_most ps k inside, h.sum);
  room = subst (λ p. at + length (part_line total k p) ≤ length out) (sym here) h.room;
})
  where
    ps : List (List Pt)
    ps = table_parts s c

    here : points_of (part_numbers s c k) ≡ get_or ps k []
    here = part_is s c h.inside

    inside : k < length ps
    inside = omega (arith, count_parts s c h.listable.whole, h.inside)

-- and what was put is that line
pub part_put : (s : List ℕ) (c : List ℤ) {k : ℕ} (total : ℕ) {out out' : List ℕ} {at r : ℕ} {part : List ℤ} → part ≡ part_numbers s c k → k < part_count s → PutText (part_line total k (points_of part)) at out out' r → PutText (part_line total k (get_or (table_parts s c) k [])) at out out' r
part_put s c {k} total {out} {out'} {at} {r} e h p = subst (λ l. PutText (part_line total k l) at out out' r) (ap points_of e ∙ part_is s c h) p

-- ---- all part lines

-- one line a part, from number k on
unfoldable pub line_list : ℕ → ℕ → List (List Pt) → List (List ℕ)
line_list total k [] = []
line_list total k (p ∷ ps) = part_line total k p ∷ line_list total (suc k) ps

lines_make : (total k : ℕ) (ps : List (List Pt)) → flatten (line_list total k ps) ≡ part_lines total k ps
unfolding line_list part_lines flatten
lines_make total k [] = refl
lines_make total k (p ∷ ps) = ap (λ t. part_line total k p ++ t) (lines_make total (suc k) ps)

-- those from part k on
abbrev pub lines_from : ℕ → List (List Pt) → ℕ → List (List ℕ)
lines_from total ps k = line_list total k (drop k ps)

lines_turn : (total : ℕ) (ps : List (List Pt)) {k : ℕ} → k < length ps → lines_from total ps k ≡ part_line total k (get_or ps k []) ∷ lines_from total ps (k + 1)
unfolding line_list
lines_turn total ps {k} h = rw (add-one, drop-cons ps k [] h)

lines_end : (total : ℕ) (ps : List (List Pt)) {k : ℕ} → length ps ≤ k → lines_from total ps k ≡ []
unfolding line_list
lines_end total ps {k} h = rw (drop_of_length-le ps {i = k} h)

module _ {whole : List ℕ} {from : ℕ} {old : List ℕ} (total : ℕ) (ps : List (List Pt)) {k : ℕ} {out : List ℕ} {at : ℕ} (g : Putting whole from old (lines_from total ps k) out at) where
  pub lines_next : k < length ps → Putting whole from old (part_line total k (get_or ps k []) ∷ lines_from total ps (k + 1)) out at
  lines_next h = subst (λ r. Putting whole from old r out at) (lines_turn total ps h) g

  pub lines_done : length ps ≤ k → PutText whole from old out at
  lines_done h = putting_end (subst (λ r. Putting whole from old r out at) (lines_end total ps h) g)

-- ---- after the first line, in the room that it left

module _ (ps : List (List Pt)) {total : ℕ} (out : List ℕ) (e : total ≡ total_area ps) (h : length (listing_of ps) ≤ length out) where
  abbrev lines : List ℕ
  lines = part_lines total 0 ps

  listing_is : head_line ps ++ lines ≡ listing_of ps
  unfolding listing_of
  listing_is = ap (λ t. head_line ps ++ part_lines t 0 ps) e

  listing_length : length (head_line ps) + length lines ≡ length (listing_of ps)
  listing_length = sym (length-append (head_line ps) lines) ∙ ap length listing_is

  pub head-fits : length (head_line ps) ≤ length out
  head-fits = omega (arith, h, listing_length)

  module _ {out' : List ℕ} {at : ℕ} (p : PutText (head_line ps) 0 out out' at) where
    pub lines_start : Putting lines at out' (lines_from total ps 0) out' at
    lines_start = putting_start (lines_make total 0 ps) (put_room (length lines) p (omega (arith, h, listing_length)))

    pub listing_put : {out'' : List ℕ} {r : ℕ} → PutText lines at out' out'' r → PutText (listing_of ps) 0 out out'' r
    listing_put q = put_as listing_is (put_after_lem (omega arith) p q)

    pub head_length : length out' ≡ length out
    head_length = put_length p (omega (arith, head-fits))
