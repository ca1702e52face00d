-- The file of a text as the code writes it. In order: the words one after another; the words that
-- were gathered are the file's (`file_words`); the answer. Assumes nothing.
use mathlib.Core.Path.{◌≡◌, refl, sym, ◌∙◌, ap}
use mathlib.Core.List.{List, [], ◌∷◌, ◌++◌, map, flatten}
use Prim.Native.Nat.{ℕ, ◌+◌, ◌*◌, ◌-◌, ◌≤◌, ◌<◌}
use native.Mathlib.Omega.{arith}
use borrow.Author.Tests.{eq-eqb, ne_eqb, lt-ltb, le-ltb}
use lib.ListN.{length, get_or, take, drop, length-map, length-drop}
use lib.Seq.{length-take-le}
use Rattle.integers.specs.Lists.{overlay}
use Rattle.integers.proofs.Order.{by_test}
use Rattle.table.specs.Stored.{word_bytes}
use Rattle.table.proofs.Words.{length-word_bytes}
use Rattle.table_words.specs.Place.{put_words}
use Rattle.table_words.proofs.Places.{put_put, put_front}
use Rattle.mesh.specs.Mesh.{Mesh}
use Rattle.mesh.specs.Rows.{row_width, row_bytes}
use Rattle.mesh_lines.specs.Lines.{is_passed_over, head_words, triangle_of, triangle_words}
use Rattle.mesh_text.specs.declared.Reading.{Reading}
use Rattle.std.specs.Prelude.{Ok, Err}
use Rattle.mesh_text.specs.declared.NotConverted.TheVariants as not_converted
use Rattle.mesh_text.specs.Text.{lines_in, wrong_line, telling, line_words, triangles_of, file_of, file_of_text}
use Rattle.mesh_text.specs.Gathering.{gather_room, words_from, Gathered, fewer}
use Rattle.mesh_text.specs.Conversion.{max_text, conversion, bytes_converted}
use Rattle.mesh_text.proofs.Gatherings.{telling_passed, telling_more, words_passed, words_more}

-- ---- one after another

pub put_file : (a b c : ℕ) (g old : List ℕ) {b₁ b₂ b₃ b₄ : List ℕ} → 12 + 4 * length g ≤ length old → b₁ ≡ put_words 0 (a ∷ []) old → b₂ ≡ put_words 1 (b ∷ []) b₁
    → b₃ ≡ put_words 2 (c ∷ []) b₂ → b₄ ≡ put_words 3 g b₃ → b₄ ≡ overlay (word_bytes (a ∷ b ∷ c ∷ g)) old
put_file a b c g old room h₁ h₂ h₃ h₄ =
    let t₂ = h₂ ∙ ap (put_words 1 (b ∷ [])) h₁ ∙ put_put 0 (a ∷ []) old (omega arith) (b ∷ []) in
    let t₃ = h₃ ∙ ap (put_words 2 (c ∷ [])) t₂ ∙ put_put 0 (a ∷ b ∷ []) old (omega arith) (c ∷ []) in
    let t₄ = h₄ ∙ ap (put_words 3 g) t₃ ∙ put_put 0 (a ∷ b ∷ c ∷ []) old (omega arith) g in
    t₄ ∙ put_front (a ∷ b ∷ c ∷ g) old

-- ---- the words that were gathered

triangle_words_lem : (k : ℕ) (l : List ℕ) → line_words (k + 1) l ≡ triangle_words (triangle_of l)
unfolding line_words
triangle_words_lem k l = rw (ne_eqb (k + 1) 0 (λ z. omega arith))

words_none : (k : ℕ) → words_from k [] ≡ []
unfolding words_from
words_none k = refl

telling_none : telling [] ≡ []
unfolding telling
telling_none = refl

flatten_nil : flatten {A = ℕ} [] ≡ []
unfolding flatten
flatten_nil = refl

flatten_cons : (a : List ℕ) (l : List (List ℕ)) → flatten (a ∷ l) ≡ a ++ flatten l
unfolding flatten
flatten_cons a l = refl

-- the triangles' words of lines
abbrev rows_of : List (List ℕ) → List ℕ
rows_of ls = flatten (map triangle_words (map triangle_of ls))

-- behind the first line
words_behind : (k : ℕ) (ls : List (List ℕ)) → words_from (k + 1) ls ≡ rows_of (telling ls)
words_behind k [] = words_none (k + 1) ∙ sym (ap rows_of telling_none ∙ flatten_nil)
words_behind k (l ∷ ls) =
    by_test (is_passed_over l)
    (λ e. words_passed l ls e (k + 1) ∙ words_behind k ls ∙ ap rows_of (sym (telling_passed l ls e)))
    (λ e.
    words_more l ls e (k + 1) ∙ (λ i. triangle_words_lem k l i ++ words_behind (k + 1) ls i) ∙ sym (flatten_cons (triangle_words (triangle_of l)) _)
    ∙ ap rows_of (sym (telling_more l ls e)))

head_words_lem : (l : List ℕ) → line_words 0 l ≡ head_words l
unfolding line_words
head_words_lem l = refl

-- all of a text that says something
words_all : (ls : List (List ℕ)) → 1 ≤ length (telling ls) → words_from 0 ls ≡ head_words (get_or (telling ls) 0 []) ++ rows_of (drop 1 (telling ls))
words_all [] h = absurd (omega (arith, ap length telling_none))
words_all (l ∷ ls) h =
    by_test (is_passed_over l)
    (λ e.
    words_passed l ls e 0 ∙ words_all ls (omega (arith, ap length (telling_passed l ls e)))
    ∙ ap (λ t. head_words (get_or t 0 []) ++ rows_of (drop 1 t)) (sym (telling_passed l ls e)))
    (λ e.
    words_more l ls e 0 ∙ (λ i. head_words_lem l i ++ words_behind 0 ls i)
    ∙ ap (λ t. head_words (get_or t 0 []) ++ rows_of (drop 1 t)) (sym (telling_more l ls e)))

-- ---- the file

pub length_mesh : (text : List ℕ) → length (triangles_of text) ≡ length (telling (lines_in text)) - 1
length_mesh text = length-map (drop 1 (telling (lines_in text))) triangle_of ∙ length-drop 1 (telling (lines_in text))

flatten_words : (m : Mesh) → length (flatten (map triangle_words m)) ≡ row_width * length m
unfolding flatten
flatten_words [] = refl
flatten_words (t ∷ m) = omega (arith, flatten_words m)

pub length_file : (limit split : ℕ) (m : Mesh) → length (file_of limit split m) ≡ 20 + row_bytes * length m
unfolding file_of
length_file limit split m =
    omega (arith, length-word_bytes ((20 + row_bytes * length m) ∷ length m ∷ 20 ∷ limit ∷ split ∷ flatten (map triangle_words m)), flatten_words m)

module _ {text old words : List ℕ} {r : Reading} (g : Gathered text old words r) (z : r.wrong ≡ 0) where
  -- the gathered words are there
  pub gathered_room : length old ≡ gather_room → row_width * (r.count - 1) + 2 ≤ length words
  gathered_room e = omega (arith, g.few z, g.as_many)

  pub gathered_length : length old ≡ gather_room → length (take (row_width * (r.count - 1) + 2) words) ≡ row_width * (r.count - 1) + 2
  gathered_length e = length-take-le (row_width * (r.count - 1) + 2) words (gathered_room e)

  many : r.count - 1 ≡ length (triangles_of text)
  many = omega (arith, length_mesh text, g.lines z)

  file_words : word_bytes ((20 + row_bytes * (r.count - 1)) ∷ (r.count - 1) ∷ 20 ∷ take (row_width * (r.count - 1) + 2) words) ≡ file_of_text text
  unfolding file_of
  file_words =
      let n : row_width * (r.count - 1) + 2 ≡ row_width * r.count - fewer = omega (arith, g.some z) in
      let w = ap (λ k. take k words) n ∙ g.words z ∙ words_all (lines_in text) (omega (arith, g.some z, g.lines z)) in
      λ i. word_bytes ((20 + row_bytes * many i) ∷ many i ∷ 20 ∷ w i)

-- ---- the answer

module _ (text out : List ℕ) where
  pub refused_length : max_text < length text → (Err not_converted.TooLong ≡ conversion text) × (out ≡ bytes_converted text out)
  unfolding conversion bytes_converted
  refused_length h = (rw (lt-ltb max_text (length text) h), rw (lt-ltb max_text (length text) h))

  module _ (h : length text ≤ max_text) {old words : List ℕ} {r : Reading} (g : Gathered text old words r) where
    pub refused_line : (r.wrong ≡ 0 → ⊥) → (Err (not_converted.Wrong r.wrong) ≡ conversion text) × (out ≡ bytes_converted text out)
    unfolding conversion bytes_converted
    refused_line z =
        let n : wrong_line text ≡ 0 → ⊥ = λ q. z (g.judged ∙ q) in (
          rw (le-ltb max_text (length text) h, ne_eqb (wrong_line text) 0 n) (ap (λ n. Err (not_converted.Wrong n)) g.judged),
          rw (le-ltb max_text (length text) h, ne_eqb (wrong_line text) 0 n),
        )

    pub converted_text : r.wrong ≡ 0 → {m : ℕ} {b : List ℕ} → m ≡ 20 + row_bytes * (r.count - 1)
        → b ≡ overlay (word_bytes ((20 + row_bytes * (r.count - 1)) ∷ (r.count - 1) ∷ 20 ∷ take (row_width * (r.count - 1) + 2) words)) out
        → (Ok m ≡ conversion text) × (b ≡ bytes_converted text out)
    unfolding conversion bytes_converted
    converted_text z e q =
        let n : wrong_line text ≡ 0 = sym g.judged ∙ z in
        let s = e ∙ ap (λ k. 20 + row_bytes * k) (many g z) ∙ sym (length_file _ _ (triangles_of text)) in (
          rw (le-ltb max_text (length text) h, eq-eqb (wrong_line text) 0 n) (ap Ok s),
          rw (le-ltb max_text (length text) h, eq-eqb (wrong_line text) 0 n) (q ∙ ap (λ f. overlay f out) (file_words g z)),
        )
