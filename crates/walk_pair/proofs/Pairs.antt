-- A pair begun, by its faults: 7 and 2 of either walk (`left_7`, `right_7`, `left_2`, `right_2`),
-- and past those by the two walks begun (`pair_at`, `pair_first`, `pair_second`, `pair_both`).
-- Assumes nothing.
use mathlib.Core.Path.{◌≡◌, refl, sym, ◌∙◌, ap}
use mathlib.Core.Bool.{Bool, true, false, cond}
use mathlib.Core.List.{List, [], ◌∷◌}
use Prim.Native.Nat.{ℕ}
use native.Mathlib.Omega.{arith}
use borrow.Author.Tests.{ne_eqb}
use lib.Dec.{eqb, ltb}
use lib.ListN.{length}
use lib.IntN.{ℤ}
use Rattle.integers.specs.Faults.{first_fault}
use Rattle.integers.proofs.Faults.{first_this, first_next}
use Rattle.corners.specs.Corners.{points_of, off_range}
use Rattle.pair.specs.declared.Place.{Place}
use Rattle.pair.specs.Walk.{winding_leaves, begin}
use Rattle.pair.specs.Pair.{start_of}
use Rattle.walk.specs.declared.Begun.TheVariants as begun
use Rattle.walk.specs.declared.Paired.TheVariants as paired
use Rattle.walk.specs.Calls.{length_broken, begin_fault, begun_of, pair_begin_fault, paired_of}
use Rattle.walk.proofs.Answers.{accepts, refuses, by_answer}
use Rattle.walk_pair.specs.Pairing.{first_of}

-- ---- what a walk begun tells

begun_place : (l : List ℤ) (reflected : Bool) {w : Place} → begun_of l reflected ≡ begun.At w → (begin_fault l reflected ≡ 0) × (w ≡ begin reflected (points_of l))
unfolding begun_of
begun_place l reflected h =
    by_answer (begin_fault l reflected) h (λ z q. (z, (cc)))
    (λ n q. absurd (let k : ◌≡◌ {A = ℕ} 0 1 = cc in omega (arith, k)))

begun_fault : (l : List ℤ) (reflected : Bool) {f : ℕ} → begun_of l reflected ≡ begun.Refused f → (f ≡ begin_fault l reflected) × (f ≡ 0 → ⊥)
unfolding begun_of
begun_fault l reflected {f} h =
    by_answer (begin_fault l reflected) h
    (λ z q. absurd (let k : ◌≡◌ {A = ℕ} 0 1 = cc in omega (arith, k)))
    (λ n q. let same : f ≡ begin_fault l reflected = cc in (same, λ z. n (sym same ∙ z)))

-- ---- the first fault of two walks, past 7 and 2

-- of one walk, and of two, each kind left before right
abbrev one : Bool → Bool → ℕ
one x u = first_fault ((8, x) ∷ (20, u) ∷ [])

abbrev two : Bool → Bool → Bool → Bool → ℕ
two x y u v = first_fault ((8, x) ∷ (8, y) ∷ (20, u) ∷ (20, v) ∷ [])

abbrev merged : ℕ → ℕ → ℕ
merged f g = cond (eqb f 0) g (cond (eqb g 0) f (first_of f g))

merged_is : (x y u v : Bool) → two x y u v ≡ merged (one x u) (one y v)
unfolding first_fault
merged_is true true u v = refl
merged_is true false u true = refl
merged_is true false u false = refl
merged_is false true true v = refl
merged_is false true false v = refl
merged_is false false true true = refl
merged_is false false true false = refl
merged_is false false false true = refl
merged_is false false false false = refl

-- a walk's fault past 7 and 2
past : (l : List ℤ) (reflected : Bool) → length_broken l ≡ false → off_range l ≡ false → begin_fault l reflected ≡ one (winding_leaves reflected (points_of l)) (eqb (length l) 0)
unfolding begin_fault
past l reflected a c = first_next 7 _ a ∙ first_next 2 _ c

-- ---- the answers

module _ (reflected : Bool) (l r : List ℤ) where
  refused_by : {f : ℕ} → pair_begin_fault reflected l r ≡ f → (f ≡ 0 → ⊥) → paired.Refused f ≡ paired_of reflected l r
  unfolding paired_of
  refused_by e n = ap paired.Refused (sym e) ∙ refuses (paired.At (start_of reflected (points_of l) (points_of r))) (paired.Refused (pair_begin_fault reflected l r)) (λ z. n (sym e ∙ z))

  pub left_7 : length_broken l ≡ true → paired.Refused 7 ≡ paired_of reflected l r
  unfolding pair_begin_fault
  left_7 a = refused_by (first_this 7 _ a) (λ z. absurd (omega arith))

  module _ (a : length_broken l ≡ false) where
    pub right_7 : length_broken r ≡ true → paired.Refused 7 ≡ paired_of reflected l r
    unfolding pair_begin_fault
    right_7 b = refused_by (first_next 7 _ a ∙ first_this 7 _ b) (λ z. absurd (omega arith))

    module _ (b : length_broken r ≡ false) where
      pub left_2 : off_range l ≡ true → paired.Refused 2 ≡ paired_of reflected l r
      unfolding pair_begin_fault
      left_2 c = refused_by (first_next 7 _ a ∙ first_next 7 _ b ∙ first_this 2 _ c) (λ z. absurd (omega arith))

      module _ (c : off_range l ≡ false) where
        pub right_2 : off_range r ≡ true → paired.Refused 2 ≡ paired_of reflected l r
        unfolding pair_begin_fault
        right_2 d = refused_by (first_next 7 _ a ∙ first_next 7 _ b ∙ first_next 2 _ c ∙ first_this 2 _ d) (λ z. absurd (omega arith))

        module _ (d : off_range r ≡ false) where
          both_faults : pair_begin_fault reflected l r ≡ merged (begin_fault l false) (begin_fault r reflected)
          unfolding pair_begin_fault
          both_faults =
              first_next 7 _ a ∙ first_next 7 _ b ∙ first_next 2 _ c ∙ first_next 2 _ d
              ∙ merged_is (winding_leaves false (points_of l)) (winding_leaves reflected (points_of r)) (eqb (length l) 0) (eqb (length r) 0)
              ∙ (λ i. merged (sym (past l false a c) i) (sym (past r reflected b d) i))

          pub pair_at : {w v : Place} → begun_of l false ≡ begun.At w → begun_of r reflected ≡ begun.At v → paired.At (record { a = w; b = v }) ≡ paired_of reflected l r
          unfolding paired_of
          pair_at {w} {v} p q =
              let x = begun_place l false p in
              let y = begun_place r reflected q in
              (λ i. paired.At (record { a = x.1 i; b = y.1 i }))
              ∙ accepts (paired.At (start_of reflected (points_of l) (points_of r))) (paired.Refused (pair_begin_fault reflected l r)) (both_faults ∙ (λ i. merged (x.0 i) (y.0 i)))

          pub pair_second : {w : Place} {g : ℕ} → begun_of l false ≡ begun.At w → begun_of r reflected ≡ begun.Refused g → paired.Refused g ≡ paired_of reflected l r
          pair_second {w} {g} p q =
              let y = begun_fault r reflected q in
              refused_by (both_faults ∙ (λ i. merged ((begun_place l false p).0 i) (sym y.0 i))) y.1

          pub pair_first : {f : ℕ} {v : Place} → begun_of l false ≡ begun.Refused f → begun_of r reflected ≡ begun.At v → paired.Refused f ≡ paired_of reflected l r
          pair_first {f} {v} p q =
              let x = begun_fault l false p in
              refused_by (both_faults ∙ (λ i. merged (sym x.0 i) ((begun_place r reflected q).0 i)) ∙ rw (ne_eqb f 0 x.1)) x.1

          pub pair_both : {f g : ℕ} → begun_of l false ≡ begun.Refused f → begun_of r reflected ≡ begun.Refused g → {k : ℕ} → k ≡ first_of f g → paired.Refused k ≡ paired_of reflected l r
          pair_both {f} {g} p q {k} e =
              let x = begun_fault l false p in
              let y = begun_fault r reflected q in
              refused_by (both_faults ∙ (λ i. merged (sym x.0 i) (sym y.0 i)) ∙ rw (ne_eqb f 0 x.1, ne_eqb g 0 y.1) (sym e)) (λ z. either_of (ltb g f) (sym e ∙ z) x.1 y.1)
            where
              either_of : (t : Bool) → cond t g f ≡ 0 → (f ≡ 0 → ⊥) → (g ≡ 0 → ⊥) → ⊥
              either_of true z m n = n z
              either_of false z m n = m z
