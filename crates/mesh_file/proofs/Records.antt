-- A file's records as rows. In order: a word's bits; a row by its nine numbers; a record more; the
-- rows read, one more; the file's mesh. Assumes nothing.
use mathlib.Core.Path.{◌≡◌, refl, sym, ◌∙◌, ap}
use mathlib.Core.List.{List, [], ◌∷◌, ◌++◌, map-append}
use Prim.Native.Nat.{ℕ, zero, suc, ◌+◌, ◌*◌, ◌^◌, ◌<◌}
use native.Mathlib.Numerals.{add-one}
use native.Mathlib.Omega.{arith}
use lib.IntN.{ℤ}
use lib.ListN.{length, take, drop, get_or, set}
use lib.Seq.{get_or-drop, drop-drop, take-suc-set}
use mir.Syntax.{w32}
use mir.ValLaws.{of_z-to_z}
use Rattle.integers.specs.Word.{unsigned}
use Rattle.mesh.specs.Rows.{row_width, row_triangle, rows_mesh}
use Rattle.table.specs.Stored.{words_of, signed}
use Rattle.listing.specs.File.{triangle_count, record_of, records_of, mesh_of}

-- the bits of a word read with a sign are the word
pub word_back : {w : ℕ} {v : ℕ} → v < 2 ^ 32 → v ≡ w → {z : ℤ} → z ≡ signed w → unsigned z ≡ w
word_back {w} h f e = ap unsigned e ∙ of_z-to_z w32 w (record { fits = omega arith })

-- six coordinates and three neighbours, from word k on
pub row_record : (ws : List ℕ) (k : ℕ) {a b c d e f g h i g' h' i' : ℤ}
    → a ≡ signed (get_or ws k 0) → b ≡ signed (get_or ws (k + 1) 0) → c ≡ signed (get_or ws (k + 2) 0)
    → d ≡ signed (get_or ws (k + 3) 0) → e ≡ signed (get_or ws (k + 4) 0) → f ≡ signed (get_or ws (k + 5) 0)
    → g ≡ g' → unsigned g' ≡ get_or ws (k + 6) 0 → h ≡ h' → unsigned h' ≡ get_or ws (k + 7) 0 → i ≡ i' → unsigned i' ≡ get_or ws (k + 8) 0
    → row_triangle (a ∷ b ∷ c ∷ d ∷ e ∷ f ∷ g ∷ h ∷ i ∷ []) ≡ record_of (drop k ws)
unfolding row_triangle
row_record ws k pa pb pc pd pe pf pg rg ph rh pi ri =
    let at : (j : ℕ) → get_or ws (k + j) 0 ≡ get_or (drop k ws) j 0 = λ j. sym (get_or-drop k ws j 0) in
    let e₀ : k ≡ k + 0 = omega arith in
    let z : get_or ws k 0 ≡ get_or (drop k ws) 0 0 = ap (λ m. get_or ws m 0) e₀ ∙ at 0 in
    let qa = pa ∙ ap signed z in
    let qb = pb ∙ ap signed (at 1) in
    let qc = pc ∙ ap signed (at 2) in
    let qd = pd ∙ ap signed (at 3) in
    let qe = pe ∙ ap signed (at 4) in
    let qf = pf ∙ ap signed (at 5) in
    let qg = ap unsigned pg ∙ rg ∙ at 6 in
    let qh = ap unsigned ph ∙ rh ∙ at 7 in
    let qi = ap unsigned pi ∙ ri ∙ at 8 in
    (λ t. record {
      v0 = record { x = qa t; y = qb t };
      v1 = record { x = qc t; y = qd t };
      v2 = record { x = qe t; y = qf t };
      n0 = qg t;
      n1 = qh t;
      n2 = qi t;
    })

-- ---- records

pub records_more : (k : ℕ) (ws : List ℕ) → records_of (suc k) ws ≡ records_of k ws ++ (record_of (drop (row_width * k) ws) ∷ [])
unfolding records_of
records_more zero ws = refl
records_more (suc k) ws =
    let e : row_width + row_width * k ≡ row_width * suc k = omega arith in
    ap (λ l. record_of ws ∷ l) (records_more k (drop row_width ws))
    ∙ ap (λ l. record_of ws ∷ (records_of k (drop row_width ws) ++ (record_of l ∷ []))) (drop-drop (row_width * k) row_width ws ∙ ap (λ m. drop m ws) e)

pub no_records : (rows : List (List ℤ)) (ws : List ℕ) → rows_mesh (take 0 rows) ≡ records_of 0 ws
unfolding rows_mesh records_of
no_records rows ws = refl

module _ (ws : List ℕ) (rows : List (List ℤ)) where
  pub row_more : {k : ℕ} → k < length rows → rows_mesh (take k rows) ≡ records_of k ws → (v : List ℤ) → row_triangle v ≡ record_of (drop (row_width * k) ws)
      → rows_mesh (take (k + 1) (set rows k v)) ≡ records_of (k + 1) ws
  unfolding rows_mesh
  row_more {k} h p v q =
      rw (add-one, take-suc-set rows k v h, map-append, q, records_more k ws) (ap (λ l. l ++ (record_of (drop (row_width * k) ws) ∷ [])) p)

-- ---- the file's mesh: the records of the bytes past the header

-- one word further
word_further : (k : ℕ) → ((l : List ℕ) → words_of (drop (4 * k) l) ≡ drop k (words_of l)) → (bs : List ℕ) → words_of (drop (suc (suc (suc (suc (4 * k))))) bs) ≡ drop (suc k) (words_of bs)
unfolding words_of
word_further k h [] = refl
word_further k h (a ∷ []) = refl
word_further k h (a ∷ b ∷ []) = refl
word_further k h (a ∷ b ∷ c ∷ []) = refl
word_further k h (a ∷ b ∷ c ∷ d ∷ l) = h l

words_behind : (k : ℕ) (bs : List ℕ) → words_of (drop (4 * k) bs) ≡ drop k (words_of bs)
words_behind zero bs = refl
words_behind (suc k) bs =
    let e : 4 * suc k ≡ suc (suc (suc (suc (4 * k)))) = omega arith in
    ap (λ m. words_of (drop m bs)) e ∙ word_further k (words_behind k) bs

pub mesh_records : (bytes : List ℕ) → mesh_of bytes ≡ records_of (triangle_count bytes) (words_of (drop 20 bytes))
unfolding mesh_of
mesh_records bytes = ap (records_of (triangle_count bytes)) (sym (words_behind 5 bytes))
