-- What a put leaves (`Put` of `specs/Put.antt`). In order: one word; nothing; one put after
-- another; a put of a reading. Assumes nothing.
use mathlib.Core.Path.{◌≡◌, refl, sym, ◌∙◌, ap, subst}
use mathlib.Core.Bool.{Bool, true, false, cond}
use mathlib.Core.List.{List, [], ◌∷◌, ◌++◌, append_assoc, append-nil}
use Prim.Native.Nat.{ℕ, ◌+◌, ◌≤◌}
use native.Mathlib.Numerals.{add-one}
use native.Mathlib.Omega.{arith}
use lib.ListN.{length, take, set, length-append, length-set}
use lib.Seq.{take-suc-set}
use Rattle.std.specs.Prelude.{Option, is_some, option_to_list}
use Rattle.field_numbers.specs.Numbers.{told}
use Rattle.mesh_fields.specs.Put.{Put}

true_false : true ≡ false → ⊥
true_false q = let z : ◌≡◌ {A = ℕ} 0 1 = ap (λ t. cond t 0 1) q in omega arith

-- ---- one word

pub put_word : {t : Bool} {at : ℕ} (w : ℕ) {old : List ℕ} → at + 1 ≤ length old → t ≡ true → Put t (w ∷ []) at old (set old at w) true
put_word {at} w {old} h e =
    record {
      answer = sym e;
      front = λ q. rw add-one (take-suc-set old at w (omega arith));
      as_many = length-set old at w;
    }

-- ---- nothing put

pub put_wrong : {t : Bool} {ws : List ℕ} {at : ℕ} {old : List ℕ} → t ≡ false → Put t ws at old old false
put_wrong e = record { answer = sym e; front = λ q. absurd (true_false (sym q ∙ e)); as_many = refl }

-- as it is told
pub put_not : {t r : Bool} {ws : List ℕ} {at : ℕ} {old : List ℕ} → r ≡ false → t ≡ false → Put t ws at old old r
put_not {t} {r} {ws} {at} {old} q e = subst (Put t ws at old old) (sym q) (put_wrong e)

-- a test that puts nothing
pub put_none : {t r : Bool} {at : ℕ} {old : List ℕ} → r ≡ t → Put t [] at old old r
put_none {at} {old} e =
    let n : at + 0 ≡ at = omega arith in
    record { answer = e; front = λ q. ap (λ k. take k old) n ∙ sym (append-nil (take at old)); as_many = refl }

-- ---- one after another

module _ {t : Bool} {ws : List ℕ} {at : ℕ} {a b : List ℕ} {r : Bool} (p : Put t ws at a b r) where
  -- the first is wrong
  pub put_stops : (u : Bool) (vs : List ℕ) → r ≡ false → Put (cond t u false) (ws ++ vs) at a b r
  put_stops u vs e =
      let f : t ≡ false = sym p.answer ∙ e in
      let g : false ≡ cond t u false = rw f in
      record {
        answer = e ∙ g;
        front = λ q. absurd (true_false (sym q ∙ ap (λ s. cond s u false) f));
        as_many = p.as_many;
      }

  -- the first is right
  pub put_then : {u : Bool} {vs : List ℕ} {n : ℕ} {c : List ℕ} {s : Bool} → r ≡ true → n ≡ at + length ws → Put u vs n b c s → Put (cond t u false) (ws ++ vs) at a c s
  put_then {u} {vs} {n} {c} e m q =
      let f : t ≡ true = sym p.answer ∙ e in
      let g : cond t u false ≡ u = rw f in
      let k : at + length (ws ++ vs) ≡ n + length vs = omega (arith, length-append ws vs) in
      record {
        answer = q.answer ∙ sym g;
        front = λ h. ap (λ j. take j c) k ∙ q.front (sym g ∙ h) ∙ ap (λ l. l ++ vs) (ap (λ j. take j b) m ∙ p.front f) ∙ append_assoc (take at a) ws vs;
        as_many = q.as_many ∙ p.as_many;
      }

-- ---- a reading

pub put_told : (t : Bool) (v : ℕ) {n : Option ℕ} {at : ℕ} {a b : List ℕ} {r : Bool} → n ≡ told t v → Put (is_some n) (option_to_list n) at a b r → Put t (v ∷ []) at a b r
put_told t v {n} {at} {a} {b} {r} e p = by t v e
  where
    by : (t : Bool) (v : ℕ) → n ≡ told t v → Put t (v ∷ []) at a b r
    by true v e = subst (λ m. Put (is_some m) (option_to_list m) at a b r) e p
    by false v e =
        let q : Put false [] at a b r = subst (λ m. Put (is_some m) (option_to_list m) at a b r) e p in
        record { answer = q.answer; front = λ h. absurd (true_false (sym h)); as_many = q.as_many }
