-- A text's lines, one after another (`lines_of` of `specs/Fields.antt`). Assumes nothing.
use mathlib.Core.Path.{◌≡◌, refl, ◌∙◌, ap}
use mathlib.Core.Bool.{true, false}
use mathlib.Core.List.{List, [], ◌∷◌}
use Prim.Native.Nat.{ℕ, suc}
use lib.Dec.{eqb}
use lib.ListN.{take, drop}
use Rattle.integers.proofs.Order.{by_test}
use Rattle.fields.specs.Fields.{run_length, in_run, lines_of, on_first}
use Rattle.fields.specs.declared.Run.TheVariants as run

pub lines_none : lines_of [] ≡ []
unfolding lines_of
lines_none = refl

lines_end : (b : ℕ) (l : List ℕ) → eqb b 10 ≡ true → lines_of (b ∷ l) ≡ [] ∷ lines_of l
unfolding lines_of
lines_end b l e = rw e

lines_byte : (b : ℕ) (l : List ℕ) → eqb b 10 ≡ false → lines_of (b ∷ l) ≡ on_first b (lines_of l)
unfolding lines_of
lines_byte b l e = rw e

-- the first line is a run, and the others follow the byte that ends it
pub lines_first : (b : ℕ) (l : List ℕ)
    → lines_of (b ∷ l) ≡ take (run_length (in_run run.Line) (b ∷ l)) (b ∷ l) ∷ lines_of (drop (suc (run_length (in_run run.Line) (b ∷ l))) (b ∷ l))
unfolding run_length
lines_first b [] =
    by_test (eqb b 10)
    (λ e. lines_end b [] e ∙ rw e)
    (λ e. lines_byte b [] e ∙ ap (on_first b) lines_none ∙ rw (e, lines_none))
lines_first b (c ∷ l) =
    by_test (eqb b 10)
    (λ e. lines_end b (c ∷ l) e ∙ rw e)
    (λ e. lines_byte b (c ∷ l) e ∙ ap (on_first b) (lines_first c l) ∙ rw e)
