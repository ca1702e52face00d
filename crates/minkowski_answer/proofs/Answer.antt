-- What a call on two operands answers and leaves: a refusal (`refused`), for want of room
-- (`starts_refused`, `corners_refused`), and the contours written (`handed`). Assumes nothing.
use mathlib.Core.Path.{◌≡◌, sym, ◌∙◌, ap}
use mathlib.Core.List.{List, [], ◌∷◌, flatten}
use Prim.Native.Nat.{ℕ, suc, ◌/◌, ◌≤◌, ◌<◌}
use native.Mathlib.Omega.{arith}
use borrow.Author.Tests.{eq-eqb, ne_eqb, lt-ltb, le-ltb}
use lib.Dec.{ltb}
use lib.ListN.{length}
use lib.IntN.{ℤ}
use Rattle.integers.specs.Lists.{overlay}
use Rattle.integers.specs.Faults.{first_fault}
use Rattle.plane.specs.Plane.{Pt}
use Rattle.table.specs.declared.IntRect.{IntRect}
use Rattle.table.specs.Table.{starts_of, corners_of, room_kinds}
use Rattle.table.proofs.Answers.{refused_buffer, accepted_buffer}
use Rattle.table.proofs.Parts.{length_starts}
use Rattle.integers.proofs.Faults.{first_this, first_next, first_empty}
use Rattle.minkowski.specs.declared.PairCounts.{PairCounts}
use Rattle.minkowski.specs.Pairs.{pair_counts_of}
use Rattle.minkowski_answer.specs.Answer.{refusal_of, PairsAnswered}

refused_counts : {f : ℕ} → (f ≡ 0 → ⊥) → (ps : List (List Pt)) (b : IntRect) → pair_counts_of f ps b ≡ refusal_of f
refused_counts {f} h ps b = rw (ne_eqb f 0 h)

accepted_counts : {f : ℕ} → f ≡ 0 → (ps : List (List Pt)) (b : IntRect) → pair_counts_of f ps b ≡ record { fault = 0; contours = length ps; corners = length (flatten ps); bounds = b }
accepted_counts {f} e ps b = rw (eq-eqb f 0 e)

module _ (ps : List (List Pt)) (b : IntRect) (s : List ℕ) (c : List ℤ) where
  -- a refusal: F is the fault number, which the code found to be f
  pub refused : {f F : ℕ} {r : PairCounts} → f ≡ F → (f ≡ 0 → ⊥) → r ≡ refusal_of f → PairsAnswered F ps b s c r s c
  refused {f} {F} e d h =
      let n : F ≡ 0 → ⊥ = λ q. d (e ∙ q) in
      record {
        counts = h ∙ ap refusal_of e ∙ sym (refused_counts n ps b);
        starts = sym (refused_buffer n (starts_of ps) s);
        corners = sym (refused_buffer n (corners_of ps) c);
      }

  abbrev F : ℕ
  F = first_fault (room_kinds ps (length s) (length c))

  -- fewer places for starts than contours and one
  pub starts_refused : {r : PairCounts} → length s < suc (length ps) → r ≡ refusal_of 22 → PairsAnswered F ps b s c r s c
  starts_refused h e = refused (sym (first_this 22 _ (lt-ltb (length s) (length (starts_of ps)) (omega (arith, length_starts ps))))) (λ q. omega (arith, q)) e

  module _ (h : suc (length ps) ≤ length s) where
    starts_fit : F ≡ first_fault ((21, ltb (length c / 2) (length (flatten ps))) ∷ [])
    starts_fit = first_next 22 _ (le-ltb (length s) (length (starts_of ps)) (omega (arith, length_starts ps)))

    pub corners_refused : {r : PairCounts} → length c / 2 < length (flatten ps) → r ≡ refusal_of 21 → PairsAnswered F ps b s c r s c
    corners_refused k e = refused (sym (starts_fit ∙ first_this 21 _ (lt-ltb (length c / 2) (length (flatten ps)) k))) (λ q. omega (arith, q)) e

    pub handed : {s' : List ℕ} {c' : List ℤ} {m n : ℕ} → length (flatten ps) ≤ length c / 2 → m ≡ length ps → n ≡ length (flatten ps) → s' ≡ overlay (starts_of ps) s → c' ≡ overlay (corners_of ps) c → PairsAnswered F ps b s c (record { fault = 0; contours = m; corners = n; bounds = b }) s' c'
    handed k p q u v =
        let e : F ≡ 0 = starts_fit ∙ first_next 21 _ (le-ltb (length c / 2) (length (flatten ps)) k) ∙ first_empty in
        record {
          counts = (λ i. record { fault = 0; contours = p i; corners = q i; bounds = b }) ∙ sym (accepted_counts e ps b);
          starts = u ∙ sym (accepted_buffer e (starts_of ps) s);
          corners = v ∙ sym (accepted_buffer e (corners_of ps) c);
        }
