-- The pieces in walks by their number: how many (`count_pieces`), the first (`piece_first`, told by
-- its fault: `first_refused`, `first_head`), a line (`piece_line`), and that its walks can be put
-- (`puttable`). Assumes nothing.
use mathlib.Core.Path.{◌≡◌, refl, sym, ◌∙◌, ap}
use mathlib.Core.List.{List, [], ◌∷◌, map}
use Prim.Native.Nat.{ℕ, zero, suc, ◌+◌, ◌*◌, ◌-◌, ◌/◌, ◌%◌, ◌<◌}
use native.Mathlib.Nat.{mod-lt, div-lt_iff_lt-mul}
use native.Mathlib.Omega.{arith}
use borrow.Author.Tests.{eqb-true, eqb-false, eq-eqb, ne_eqb}
use lib.Dec.{eqb}
use lib.ListN.{length, get_or, length-map}
use lib.IntN.{ℤ}
use Rattle.integers.specs.Lists.{up_to}
use Rattle.integers.proofs.Order.{by_test}
use Rattle.integers.proofs.Counting.{length-up_to, get_or-up_to}
use Rattle.text.specs.Text.{refusal}
use Rattle.pair_lines.specs.Lines.{pairs_head}
use Rattle.pair_lines.specs.Putting.{Puttable}
use Rattle.pairs_work.specs.declared.Begun.{Begun}
use Rattle.pairs_text.specs.Walks.{corners_over, first_in, line_in, pieces_in, Fitting}

module _ (x : Begun) (firsts : List ℕ) (points : List (List ℤ)) where
  pub count_pieces : length (pieces_in x firsts points) ≡ 1 + x.left * x.right
  unfolding pieces_in
  count_pieces = omega (arith, length-map (up_to (x.left * x.right)) (line_in x firsts points), length-up_to (x.left * x.right))

  -- ---- the first

  pub piece_first : {k : ℕ} → k ≡ 0 → first_in x firsts points ≡ get_or (pieces_in x firsts points) k []
  unfolding pieces_in
  piece_first {k} e = sym (ap (λ n. get_or (pieces_in x firsts points) n []) e)

  pub first_refused : (x.fault ≡ 0 → ⊥) → refusal x.fault ≡ first_in x firsts points
  unfolding first_in
  first_refused d = sym (rw (ne_eqb x.fault 0 d))

  pub first_head : x.fault ≡ 0 → {n : ℕ} → n ≡ corners_over x firsts points → pairs_head (x.left * x.right) n x.bounds ≡ first_in x firsts points
  unfolding first_in
  first_head e c = ap (λ n. pairs_head (x.left * x.right) n x.bounds) c ∙ sym (rw (eq-eqb x.fault 0 e))

  -- ---- a line

  line_at : {k : ℕ} → k < x.left * x.right → get_or (pieces_in x firsts points) (suc k) [] ≡ line_in x firsts points k
  unfolding pieces_in
  line_at {k} h =
      getD-map-inside (line_in x firsts points) (up_to (x.left * x.right)) k (omega (arith, length-up_to (x.left * x.right)))
      ∙ ap (line_in x firsts points) (get_or-up_to (x.left * x.right) 0 h)
    where
      getD-map-inside : (f : ℕ → List ℕ) (l : List ℕ) (k : ℕ) → k < length l → get_or (map f l) k [] ≡ f (get_or l k 0)
      getD-map-inside f [] k h = absurd (omega arith)
      getD-map-inside f (y ∷ l) zero h = refl
      getD-map-inside f (y ∷ l) (suc k) h = getD-map-inside f l k (omega arith)

  pub piece_line : (k : ℕ) → (k ≡ 0 → ⊥) → k < 1 + x.left * x.right → line_in x firsts points (k - 1) ≡ get_or (pieces_in x firsts points) k []
  piece_line zero d h = absurd (d refl)
  piece_line (suc k) d h =
      let z : suc k - 1 ≡ k = omega arith in
      ap (line_in x firsts points) z ∙ sym (line_at (omega arith))

  module _ {numbers : List ℕ} {k : ℕ} {work : List ℤ} {out : List ℕ} (p : Fitting x firsts points numbers k work out) (d : k ≡ 0 → ⊥) where
    pub some_right : 0 < x.right
    some_right = some x.left x.right (omega (arith, p.inside))
      where
        some : (m n : ℕ) → 0 < m * n → 0 < n
        some m zero h = absurd (omega arith)
        some m (suc n) h = omega arith

    accepted : x.fault ≡ 0
    accepted =
        by_test (eqb x.fault 0) (eqb-true x.fault 0)
        (λ t. absurd (let n = p.workable.started.refused (eqb-false x.fault 0 t) in omega (arith, n, p.inside, d)))

    pub puttable : Puttable firsts points numbers x.left x.right ((k - 1) / x.right) ((k - 1) % x.right) work out
    puttable = record {
      keyed = p.workable.started.keyed accepted;
      p_inside = (div-lt_iff_lt-mul some_right).1 (omega (arith, p.inside, d));
      q_inside = mod-lt (k - 1) some_right;
      for_corners = p.workable.for_corners;
      for_line = p.for_line;
    }
