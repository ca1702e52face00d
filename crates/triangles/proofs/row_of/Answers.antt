-- `triangles::row_of` meets its contract: each number is the struct's, and a neighbour's bits read
-- signed and then unsigned are the neighbour. Assumes nothing.
use mathlib.Core.Path.{◌≡◌, ◌∙◌, ap}
use mathlib.Core.List.{[], ◌∷◌}
use Prim.Native.Nat.{ℕ}
use borrow.Author.Rules.{rules}
use lib.ListN.{get_or}
use lib.IntN.{ℤ}
use mir.Syntax.{w32}
use mir.Val.{Fits, to_z, of_z}
use mir.Facts.{of_z-to_z}
use Rattle.integers.specs.Word.{unsigned}
use Rattle.integers.proofs.Bits.{kept}
use Rattle.mesh.specs.Rows.{row_triangle}
use Rattle.triangles.specs.declared.IntTriangle.{IntTriangle}
use Rattle.triangles.specs.Triangles.{corner, struct_triangle}
use Rattle.triangles.proofs.row_of.Goals as goal

-- a row of nine numbers is a struct's triangle where each number is
same : (t : IntTriangle) (x y z : ℤ) {a b c d e f : ℤ} → a ≡ (corner t 0).x → b ≡ (corner t 0).y → c ≡ (corner t 1).x → d ≡ (corner t 1).y → e ≡ (corner t 2).x → f ≡ (corner t 2).y
    → unsigned x ≡ get_or t.neighbors 0 0 → unsigned y ≡ get_or t.neighbors 1 0 → unsigned z ≡ get_or t.neighbors 2 0
    → row_triangle (a ∷ b ∷ c ∷ d ∷ e ∷ f ∷ x ∷ y ∷ z ∷ []) ≡ struct_triangle t
unfolding row_triangle struct_triangle
same t x y z p₀ p₁ p₂ p₃ p₄ p₅ n₀ n₁ n₂ = λ i. record {
  v0 = record { x = p₀ i; y = p₁ i };
  v1 = record { x = p₂ i; y = p₃ i };
  v2 = record { x = p₄ i; y = p₅ i };
  n0 = n₀ i;
  n1 = n₁ i;
  n2 = n₂ i;
}

-- a word read signed, stored, and read unsigned
word : {n : ℕ} {s : ℤ} → Fits w32 n → s ≡ to_z w32 n → unsigned (to_z w32 (of_z w32 s)) ≡ n
word f e = ap (λ z. of_z w32 (to_z w32 (of_z w32 z))) e ∙ ap (λ k. of_z w32 (to_z w32 k)) (of_z-to_z f) ∙ of_z-to_z f

pub returns : goal.returns
returns c = let t = c.args.t in
    same t (to_z w32 (of_z w32 c.signed_word.result)) (to_z w32 (of_z w32 c.signed_word-2.result)) (to_z w32 (of_z w32 c.signed_word-3.result))
    (kept {w = w32} {z = (corner t 0).x} (search rules))
    (kept {w = w32} {z = (corner t 0).y} (search rules))
    (kept {w = w32} {z = (corner t 1).x} (search rules))
    (kept {w = w32} {z = (corner t 1).y} (search rules))
    (kept {w = w32} {z = (corner t 2).x} (search rules))
    (kept {w = w32} {z = (corner t 2).y} (search rules))
    (word {n = get_or t.neighbors 0 0} (search rules) c.signed_word.ensures)
    (word {n = get_or t.neighbors 1 0} (search rules) c.signed_word-2.ensures)
    (word {n = get_or t.neighbors 2 0} (search rules) c.signed_word-3.ensures)
