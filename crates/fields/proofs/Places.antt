-- Where fields stand on a line: place i is field j's where the line from i on is `fields_from j`
-- (`specs/Fields.antt`). Assumes nothing.
use mathlib.Core.Path.{◌≡◌, sym, ◌∙◌, ap}
use mathlib.Core.List.{List}
use Prim.Native.Nat.{ℕ, ◌+◌, ◌-◌}
use native.Mathlib.Numerals.{add-one}
use native.Mathlib.Omega.{arith}
use lib.ListN.{take, drop}
use lib.Seq.{drop-drop}
use Rattle.fields.specs.Fields.{run_length, in_run, is_blank, skipped, fields_from, field_of}
use Rattle.fields.specs.declared.Run.TheVariants as run

module _ (line : List ℕ) where
  -- past the blanks at i
  skip_blanks : (i : ℕ) {r : ℕ} → r ≡ i + run_length (in_run run.Blanks) (drop i line) → drop r line ≡ skipped (drop i line)
  skip_blanks i e = ap (λ n. drop n line) e ∙ sym (drop-drop (run_length is_blank (drop i line)) i line)

  pub first_place : {r : ℕ} → r ≡ 0 + run_length (in_run run.Blanks) (drop 0 line) → drop r line ≡ fields_from 0 line
  unfolding fields_from
  first_place e = skip_blanks 0 e

  pub next_place : (i j : ℕ) {e r : ℕ} → drop i line ≡ fields_from j line → e ≡ i + run_length (in_run run.Field) (drop i line)
      → r ≡ e + run_length (in_run run.Blanks) (drop e line) → drop r line ≡ fields_from (j + 1) line
  unfolding fields_from
  next_place i j {e} p q h =
      let past : drop e line ≡ drop (run_length (in_run run.Field) (drop i line)) (drop i line) =
      ap (λ n. drop n line) q ∙ sym (drop-drop (run_length (in_run run.Field) (drop i line)) i line) in
      rw add-one (skip_blanks e h ∙ ap skipped (past ∙ ap (λ l. drop (run_length (in_run run.Field) l) l) p))

  -- a field, from its place to the end of its run
  pub field_at : (i k : ℕ) {e : ℕ} → drop i line ≡ fields_from k line → e ≡ i + run_length (in_run run.Field) (drop i line) → take (e - i) (drop i line) ≡ field_of k line
  field_at i k {e} p q =
      let n : e - i ≡ run_length (in_run run.Field) (drop i line) = omega arith in
      ap (λ m. take m (drop i line)) n ∙ ap (λ l. take (run_length (in_run run.Field) l) l) p
