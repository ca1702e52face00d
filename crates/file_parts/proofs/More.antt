-- The fault of a file that is longer than the longest good one: it is told by its count alone, so
-- that more bytes change nothing (`more_fault`). Assumes nothing.
use mathlib.Core.Path.{◌≡◌, refl, sym, ◌∙◌, ap}
use mathlib.Core.Bool.{Bool, true, false, cond}
use mathlib.Core.List.{List, ◌++◌}
use Prim.Native.Nat.{ℕ, ◌+◌, ◌*◌, ◌<◌, ◌≤◌}
use native.Mathlib.Omega.{arith}
use borrow.Author.Tests.{ltb-false, le-ltb}
use lib.Dec.{ltb}
use lib.ListN.{length, get_or, length-append, get_or-append}
use Rattle.integers.specs.Faults.{first_fault}
use Rattle.integers.proofs.Faults.{first_this, first_next}
use Rattle.mesh.specs.Mesh.{max_triangles}
use Rattle.mesh.specs.Rows.{row_bytes}
use Rattle.table.specs.Stored.{word_of, word_at}
use Rattle.table.proofs.Words.{words_at}
use Rattle.listing.specs.File.{triangle_count, header_broken, header_kinds, file_fault}
use Rattle.listing.proofs.File.{header_told, unbroken}

-- a test that cannot be false
holds : (t : Bool) → (t ≡ false → ⊥) → t ≡ true
holds true h = refl
holds false h = absurd (h refl)

not_accepted : (t : Bool) → ◌≡◌ {A = ℕ} (cond t 1 13) 0 → ⊥
not_accepted true e = omega arith
not_accepted false e = omega arith

-- 1 or 13, by the count alone: 20 + 36 · 1,024 < 36,885
module _ (l : List ℕ) (h : 20 + row_bytes * max_triangles + 1 ≤ length l) where
  by_count : {t : Bool} → t ≡ ltb max_triangles (triangle_count l) → first_fault (header_kinds l) ≡ cond t 1 13
  by_count {t = true} e = first_next 13 _ (le-ltb (length l) 20 (omega arith)) ∙ first_this 1 _ (sym e)
  by_count {t = false} e =
      first_next 13 _ (le-ltb (length l) 20 (omega arith)) ∙ first_next 1 _ (sym e)
      ∙ first_this 13 _ (holds (header_broken l) (λ f. omega (arith, unbroken l f, ltb-false max_triangles (triangle_count l) (sym e))))

  pub too_long : file_fault l ≡ cond (ltb max_triangles (triangle_count l)) 1 13
  too_long =
      let e : first_fault (header_kinds l) ≡ cond (ltb max_triangles (triangle_count l)) 1 13 = by_count refl in
      header_told l (λ z. not_accepted (ltb max_triangles (triangle_count l)) (sym e ∙ z)) ∙ e

  pub too_long_refused : file_fault l ≡ 0 → ⊥
  too_long_refused z = not_accepted (ltb max_triangles (triangle_count l)) (sym too_long ∙ z)

-- a word that lies before more bytes
pub word_kept : (bytes more : List ℕ) (k : ℕ) → 4 * k + 4 ≤ length bytes → word_at (bytes ++ more) k ≡ word_at bytes k
word_kept bytes more k h =
    let at : (i : ℕ) → i < length bytes → get_or (bytes ++ more) i 0 ≡ get_or bytes i 0 = λ i p. get_or-append bytes more 0 i p in
    words_at (bytes ++ more) k (omega (arith, length-append bytes more))
    ∙ (λ t. word_of (at (4 * k) (omega arith) t) (at (4 * k + 1) (omega arith) t) (at (4 * k + 2) (omega arith) t) (at (4 * k + 3) (omega arith) t))
    ∙ sym (words_at bytes k h)

pub more_fault : (bytes more : List ℕ) → length bytes ≡ 20 + row_bytes * max_triangles + 1 → file_fault (bytes ++ more) ≡ file_fault bytes
more_fault bytes more e =
    too_long (bytes ++ more) (omega (arith, length-append bytes more))
    ∙ ap (λ n. cond (ltb max_triangles n) 1 13) (word_kept bytes more 1 (omega arith))
    ∙ sym (too_long bytes (omega arith))
