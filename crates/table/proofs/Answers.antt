-- What a call that writes a table answers and leaves, by its fault: laws of `counts_of` and
-- `written` of `specs/Table.antt`. A refusal (`refused_counts`, `refused_buffer`), then success;
-- what stands there reads back (`contours_left`). Assumes nothing.
use mathlib.Core.Path.{◌≡◌, sym, ◌∙◌, ap, ap₂}
use mathlib.Core.List.{List, [], ◌∷◌, flatten}
use Prim.Native.Nat.{ℕ, suc, ◌+◌, ◌*◌}
use native.Mathlib.Numerals.{add-one}
use native.Mathlib.Omega.{arith}
use borrow.Author.Tests.{eq-eqb, ne_eqb}
use lib.ListN.{length, get_or, take, length-append}
use lib.IntN.{ℤ}
use Rattle.integers.specs.Lists.{overlay}
use Rattle.integers.proofs.Overlay.{take_overlay, get_or_overlay}
use Rattle.plane.specs.Plane.{Pt}
use Rattle.table.specs.Table.{starts_from, starts_of, corners_of, table_parts, first_contours, counts_of, written}
use Rattle.corners.proofs.Corners.{length_numbers}
use Rattle.table.proofs.Parts.{length_starts}
use Rattle.table.proofs.Rules.{parts_table}

module _ {f : ℕ} (h : f ≡ 0 → ⊥) where
  pub refused_counts : (ps : List (List Pt)) → counts_of f ps ≡ record { fault = f; parts = 0; corners = 0 }
  refused_counts ps = rw (ne_eqb f 0 h)

  pub refused_buffer : {A : Type 0} (answer old : List A) → written f answer old ≡ old
  refused_buffer answer old = rw (ne_eqb f 0 h)

module _ {f : ℕ} (e : f ≡ 0) where
  pub accepted_counts : (ps : List (List Pt)) → counts_of f ps ≡ record { fault = 0; parts = length ps; corners = length (flatten ps) }
  accepted_counts ps = rw (eq-eqb f 0 e)

  pub accepted_buffer : {A : Type 0} (answer old : List A) → written f answer old ≡ overlay answer old
  accepted_buffer answer old = rw (eq-eqb f 0 e)

-- ---- read back

-- the last start is the number of corners
start_last : (k : ℕ) (ps : List (List Pt)) → get_or (starts_from k ps) (length ps) 0 ≡ k + length (flatten ps)
unfolding starts_from flatten
start_last k [] = omega arith
start_last k (p ∷ ps) = omega (arith, start_last (k + length p) ps, length-append p (flatten ps))

-- a table written on the front of two buffers: the starts and the corners that it has
module _ (ps : List (List Pt)) (s : List ℕ) (c : List ℤ) where
  starts_back : take (length ps + 1) (overlay (starts_of ps) s) ≡ starts_of ps
  starts_back = ap (λ m. take m (overlay (starts_of ps) s)) (add-one (length ps) ∙ sym (length_starts ps)) ∙ take_overlay (starts_of ps) s

  corners_back : take (2 * get_or (overlay (starts_of ps) s) (length ps) 0) (overlay (corners_of ps) c) ≡ corners_of ps
  corners_back =
      let n : length (starts_of ps) ≡ suc (length ps) = length_starts ps in
      let total : get_or (starts_of ps) (length ps) 0 ≡ length (flatten ps) = unfold starts_of in (start_last 0 ps ∙ omega arith) in
      let last : get_or (overlay (starts_of ps) s) (length ps) 0 ≡ length (flatten ps) = get_or_overlay (starts_of ps) s 0 (omega (arith, n)) ∙ total in
      let size : 2 * length (flatten ps) ≡ length (corners_of ps) = unfold corners_of in sym (length_numbers (flatten ps)) in
      ap (λ m. take m (overlay (corners_of ps) c)) (ap (λ m. 2 * m) last ∙ size) ∙ take_overlay (corners_of ps) c

-- what an accepted call wrote of each, and that both read back as the contours
module _ (ps : List (List Pt)) {n f : ℕ} (s : List ℕ) (c : List ℤ) (e : n ≡ length ps) (h : f ≡ 0) where
  pub starts_left : take (n + 1) (written f (starts_of ps) s) ≡ starts_of ps
  starts_left = ap₂ (λ m t. take (m + 1) t) e (accepted_buffer h (starts_of ps) s) ∙ starts_back ps s c

  pub corners_left : take (2 * get_or (written f (starts_of ps) s) n 0) (written f (corners_of ps) c) ≡ corners_of ps
  corners_left =
      ap₂ (λ t d. take (2 * get_or t n 0) d) (accepted_buffer h (starts_of ps) s) (accepted_buffer h (corners_of ps) c)
      ∙ ap (λ m. take (2 * get_or (overlay (starts_of ps) s) m 0) (overlay (corners_of ps) c)) e ∙ corners_back ps s c

pub contours_left : (ps : List (List Pt)) {n f : ℕ} (s : List ℕ) (c : List ℤ) → n ≡ length ps → f ≡ 0 → first_contours n (written f (starts_of ps) s) (written f (corners_of ps) c) ≡ ps
contours_left ps {n} {f} s c e h = ap₂ table_parts (starts_left ps s c e h) (corners_left ps s c e h) ∙ parts_table ps
