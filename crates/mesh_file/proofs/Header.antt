-- The header's tests as the code takes them, one after another. In order: `header_broken`; the
-- first fault. Assumes nothing.
use mathlib.Core.Path.{◌≡◌, sym, ◌∙◌, ap}
use mathlib.Core.Bool.{Bool, true, false, not}
use mathlib.Core.List.{List, [], ◌∷◌}
use Prim.Native.Nat.{ℕ, ◌+◌, ◌*◌, ◌<◌, ◌≤◌}
use borrow.Author.Tests.{lt-ltb, le-ltb, eq-eqb, ne_eqb}
use lib.Dec.{eqb, ltb}
use lib.ListN.{length}
use Rattle.integers.specs.Faults.{first_fault}
use Rattle.integers.proofs.Faults.{first_this, first_next, first_empty}
use Rattle.mesh.specs.Mesh.{max_triangles}
use Rattle.mesh.specs.Rows.{row_bytes}
use Rattle.table.specs.Stored.{word_at}
use Rattle.listing.specs.File.{header_broken, header_kinds}

module _ (bytes : List ℕ) where
  pub other_offset : {o : ℕ} → o ≡ word_at bytes 2 → (o ≡ 20 → ⊥) → true ≡ header_broken bytes
  unfolding header_broken
  other_offset p h = rw (← p, ne_eqb _ 20 h)

  module _ {o : ℕ} (p : o ≡ word_at bytes 2) (a : o ≡ 20) {s : ℕ} (q : s ≡ word_at bytes 4) where
    pub other_split : 2 < s → true ≡ header_broken bytes
    unfolding header_broken
    other_split h = rw (← p, eq-eqb _ 20 a, ← q, lt-ltb 2 s h)

    module _ (b : s ≤ 2) {t : ℕ} (r : t ≡ word_at bytes 0) {n : ℕ} (u : n ≡ word_at bytes 1) where
      pub other_total : (t ≡ 20 + row_bytes * n → ⊥) → true ≡ header_broken bytes
      unfolding header_broken
      other_total h = rw (← p, eq-eqb _ 20 a, ← q, le-ltb 2 s b, ← r, ← u, ne_eqb _ _ h)

      pub by_length : t ≡ 20 + row_bytes * n → not (eqb t (length bytes)) ≡ header_broken bytes
      unfolding header_broken
      by_length h = rw (← p, eq-eqb _ 20 a, ← q, le-ltb 2 s b, ← r, ← u, eq-eqb _ _ h)

  pub no_header : length bytes < 20 → 13 ≡ first_fault (header_kinds bytes)
  no_header h = sym (first_this 13 _ (lt-ltb (length bytes) 20 h))

  module _ (h : 20 ≤ length bytes) {n : ℕ} (u : n ≡ word_at bytes 1) where
    past_length : first_fault (header_kinds bytes) ≡ first_fault ((1, ltb max_triangles n) ∷ (13, header_broken bytes) ∷ [])
    past_length = first_next 13 _ (le-ltb (length bytes) 20 h) ∙ ap (λ m. first_fault ((1, ltb max_triangles m) ∷ (13, header_broken bytes) ∷ [])) (sym u)

    pub too_many : max_triangles < n → 1 ≡ first_fault (header_kinds bytes)
    too_many k = sym (past_length ∙ first_this 1 _ (lt-ltb max_triangles n k))

    module _ (k : n ≤ max_triangles) {b : Bool} (e : b ≡ header_broken bytes) where
      past_count : first_fault (header_kinds bytes) ≡ first_fault ((13, b) ∷ [])
      past_count = past_length ∙ first_next 1 _ (le-ltb max_triangles n k) ∙ ap (λ t. first_fault ((13, t) ∷ [])) (sym e)

      pub broken_header : b ≡ true → 13 ≡ first_fault (header_kinds bytes)
      broken_header t = sym (past_count ∙ first_this 13 _ t)

      pub sound_header : b ≡ false → 0 ≡ first_fault (header_kinds bytes)
      sound_header t = sym (past_count ∙ first_next 13 _ t ∙ first_empty)
