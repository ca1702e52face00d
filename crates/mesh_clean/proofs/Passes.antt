-- The second pass over the rows: what is known before row k (`Linking`), at the start, where a row
-- ends the pass, at the next row, at the end. Assumes nothing.
use mathlib.Core.Path.{◌≡◌, refl, sym, ◌∙◌, ap}
use mathlib.Core.Bool.{Bool, true, false, cond}
use mathlib.Core.List.{List}
use Prim.Native.Nat.{ℕ, suc, ◌+◌, ◌*◌, ◌≤◌, ◌<◌}
use native.Mathlib.Omega.{arith}
use native.Mathlib.Numerals.{add-one}
use lib.Dec.{eqb}
use lib.ListN.{length, drop}
use lib.IntN.{ℤ}
use Rattle.mesh.specs.Mesh.{Triangle, Mesh, triangle_at}
use Rattle.mesh.specs.Rows.{rows_mesh}
use Rattle.mesh_sound.proofs.Passes.{past_rows, next_row}
use Rattle.mesh_clean.specs.declared.Seen.{Seen}
use Rattle.mesh_clean.specs.Clean.{names_before, names_after, shares_all, linked_from, sides_with, sides_from, linked}
use Rattle.mesh_clean.specs.Counted.{RowCounted}
use Rattle.mesh_clean.proofs.Tests.{at_most}

-- the edges from row k on decide, and what was counted before it is counted with theirs
pub record Linking (rows : List (List ℤ)) (k : ℕ) (s : Seen) : Type 0 where
  pub rest : linked_from (rows_mesh rows) 0 (rows_mesh rows) ≡ linked_from (rows_mesh rows) k (drop k (rows_mesh rows))
  pub before : s.before + sides_from names_before k (drop k (rows_mesh rows)) ≡ sides_from names_before 0 (rows_mesh rows)
  pub after : s.after + sides_from names_after k (drop k (rows_mesh rows)) ≡ sides_from names_after 0 (rows_mesh rows)
  pub few_before : s.before ≤ 3 * k
  pub few_after : s.after ≤ 3 * k

few_sides : (test : ℕ → ℕ → Bool) (k : ℕ) (t : Triangle) → sides_with test k t ≤ 3
unfolding sides_with
few_sides test k t = omega (arith, at_most (test k t.n0), at_most (test k t.n1), at_most (test k t.n2))

module _ (rows : List (List ℤ)) where
  abbrev m : Mesh
  m = rows_mesh rows

  pub linking_start : {s : Seen} → s.before ≡ 0 → s.after ≡ 0 → Linking rows 0 s
  linking_start e f = record { rest = refl; before = omega arith; after = omega arith; few_before = omega arith; few_after = omega arith }

  none_left : (test : ℕ → ℕ → Bool) {k : ℕ} → length rows ≤ k → sides_from test k (drop k m) ≡ 0
  unfolding sides_from
  none_left test {k} h = ap (sides_from test k) (past_rows rows h)

  pub linking_end : {k : ℕ} {s : Seen} → length rows ≤ k → Linking rows k s → eqb s.before s.after ≡ linked m
  unfolding linked_from
  linking_end {k} {s} h g =
      let b : s.before ≡ sides_from names_before 0 m = omega (arith, g.before, none_left names_before h) in
      let a : s.after ≡ sides_from names_after 0 m = omega (arith, g.after, none_left names_after h) in
      (λ i. eqb (b i) (a i)) ∙ sym (rw (g.rest ∙ ap (linked_from m k) (past_rows rows h)))

  module _ {k : ℕ} (h : k < length rows) {s : Seen} (g : Linking rows k s) {r : Seen} (c : RowCounted m k (triangle_at m k) s r) where
    linking_turn : linked_from m 0 m ≡ cond (shares_all m k (triangle_at m k)) (linked_from m (suc k) (drop (suc k) m)) false
    unfolding linked_from
    linking_turn = g.rest ∙ ap (linked_from m k) (next_row rows h)

    counted_turn : (test : ℕ → ℕ → Bool) → sides_from test k (drop k m) ≡ sides_with test k (triangle_at m k) + sides_from test (k + 1) (drop (k + 1) m)
    unfolding sides_from
    counted_turn test = ap (sides_from test k) (next_row rows h) ∙ rw add-one

    pub linking_row : r.shared ≡ false → false ≡ linked m
    linking_row e = let f : linked_from m 0 m ≡ false = linking_turn ∙ rw (sym c.shared ∙ e) in sym (rw f)

    pub linking_next : r.shared ≡ true → Linking rows (k + 1) r
    linking_next e = record {
      rest = linking_turn ∙ rw (sym c.shared ∙ e, add-one);
      before = omega (arith, g.before, c.before e, counted_turn names_before);
      after = omega (arith, g.after, c.after e, counted_turn names_after);
      few_before = omega (arith, g.few_before, c.before e, few_sides names_before k (triangle_at m k));
      few_after = omega (arith, g.few_after, c.after e, few_sides names_after k (triangle_at m k));
    }
