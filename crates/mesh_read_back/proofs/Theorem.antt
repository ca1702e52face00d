-- The file that a text is turned into reads back as the text says (`ReadBack` of
-- `specs/ReadBack.antt`). In order: records; words; the header; the theorem. Assumes nothing.
use mathlib.Core.Path.{◌≡◌, refl, sym, ◌∙◌, ap}
use mathlib.Core.Bool.{Bool, true, false, not, cond}
use mathlib.Core.List.{List, [], ◌∷◌, ◌++◌, map, flatten}
use Prim.Native.Nat.{ℕ, zero, suc, ◌+◌, ◌*◌, ◌≤◌, ◌<◌}
use native.Mathlib.Omega.{arith}
use borrow.Author.Tests.{eq-eqb, le-ltb}
use lib.Dec.{eqb, ltb}
use lib.ListN.{length, get_or, drop}
use Rattle.integers.specs.Lists.{All}
use Rattle.integers.specs.Word.{unsigned}
use Rattle.integers.proofs.Bits.{kept}
use Rattle.integers.proofs.Elements.{all_map}
use Rattle.plane.specs.Plane.{Pt}
use Rattle.mesh.specs.Mesh.{Triangle, Mesh}
use Rattle.table.specs.Stored.{words_of, word_bytes, word_at, signed}
use Rattle.table.proofs.Words.{Word, words_word_bytes}
use Rattle.mesh.specs.Rows.{row_bytes}
use Rattle.fields.specs.Fields.{field_of}
use Rattle.listing.specs.File.{record_of, records_of, mesh_of, triangle_count, corner_limit, split_number, total_bytes, record_offset, header_broken}
use Rattle.mesh_lines.specs.Lines.{is_triangle, triangle_of, triangle_words}
use Rattle.mesh_text.specs.Text.{max_written, lines_in, wrong_line, telling, first_line, limit_of, split_number_of, triangles_of, file_of, file_of_text}
use Rattle.mesh_text.proofs.Writing.{length_file}
use Rattle.mesh_text.proofs.Accepted.{few_triangles, right_text}
use Rattle.mesh_read_back.specs.ReadBack.{ReadBack}
use Rattle.mesh_read_back.proofs.Fits.{PointFits, TriangleFits, unsigned_small, triangle_fits, limit_small, split_small}

-- ---- records

point_back : {p : Pt} → PointFits p → record { x = signed (unsigned p.x); y = signed (unsigned p.y) } ≡ p
point_back h = λ i. record { x = kept h.x_fits i; y = kept h.y_fits i }

rows_back : (m : Mesh) → All TriangleFits m → records_of (length m) (flatten (map triangle_words m)) ≡ m
unfolding records_of flatten
rows_back [] h = refl
rows_back (t ∷ m) h =
    λ i.
    record {
      v0 = point_back h.0.first i;
      v1 = point_back h.0.next i;
      v2 = point_back h.0.last i;
      n0 = t.n0;
      n1 = t.n1;
      n2 = t.n2;
    } ∷ rows_back m h.1 i

-- ---- words

rows_small : (m : Mesh) → All TriangleFits m → All Word (flatten (map triangle_words m))
unfolding flatten
rows_small [] h = tt
rows_small (t ∷ m) h =
    let f = h.0 in
    let u = unsigned_small in
    (u t.v0.x f.first.x_fits, (u t.v0.y f.first.y_fits, (u t.v1.x f.next.x_fits, (u t.v1.y f.next.y_fits, (u t.v2.x f.last.x_fits, (u t.v2.y f.last.y_fits, (f.side_0, (f.side_1, (f.side_2, rows_small m h.1)))))))))

module _ {limit split : ℕ} (m : Mesh) (l : Word limit) (s : split ≤ 2) (n : length m ≤ max_written) (h : All TriangleFits m) where
  file_words : words_of (file_of limit split m) ≡ (20 + row_bytes * length m) ∷ length m ∷ 20 ∷ limit ∷ split ∷ flatten (map triangle_words m)
  unfolding file_of
  file_words = words_word_bytes (omega arith, (omega arith, (omega arith, (l, (omega arith, rows_small m h)))))

  mesh_back : mesh_of (file_of limit split m) ≡ m
  unfolding mesh_of
  mesh_back = ap (λ ws. records_of (get_or ws 1 0) (drop 5 ws)) file_words ∙ rows_back m h

  word_back : (k : ℕ) → word_at (file_of limit split m) k ≡ get_or ((20 + row_bytes * length m) ∷ length m ∷ 20 ∷ limit ∷ split ∷ flatten (map triangle_words m)) k 0
  word_back k = ap (λ ws. get_or ws k 0) file_words

  -- ---- the header

  header_right : header_broken (file_of limit split m) ≡ false
  unfolding header_broken
  header_right =
      let f = file_of limit split m in
      let t : total_bytes f ≡ 20 + row_bytes * triangle_count f = word_back 0 ∙ ap (λ k. 20 + row_bytes * k) (sym (word_back 1)) in
      let b : total_bytes f ≡ length f = word_back 0 ∙ sym (length_file limit split m) in
      rw (eq-eqb (record_offset f) 20 (word_back 2), le-ltb 2 (split_number f) (omega (arith, word_back 4)), eq-eqb (total_bytes f) (20 + row_bytes * triangle_count f) t, eq-eqb (total_bytes f) (length f) b)

-- ---- the theorem

all_triangles : (ls : List (List ℕ)) → All (λ l. is_triangle l ≡ true) ls → All TriangleFits (map triangle_of ls)
all_triangles [] h = tt
all_triangles (l ∷ ls) h = (triangle_fits l h.0, all_triangles ls h.1)

pub read_back : {text : List ℕ} → wrong_line text ≡ 0 → ReadBack text
read_back {text} e =
    let r = right_text text e in
    let l = limit_small (first_line text) r.0 in
    let s = split_small (field_of 2 (first_line text)) in
    let n = few_triangles text e in
    let h = all_triangles (drop 1 (telling (lines_in text))) r.1 in
    let m = triangles_of text in
    record {
      mesh = mesh_back m l s n h;
      count = word_back m l s n h 1;
      limit = word_back m l s n h 3;
      split = word_back m l s n h 4;
      header = header_right m l s n h;
    }
