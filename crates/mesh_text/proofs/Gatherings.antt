-- A text gathered line by line (`specs/Gathering.antt`). In order: a line that is passed over and
-- one that says something; a line taken (`Taken`); the whole text (`Going`, what the loop keeps).
-- Assumes nothing.
use mathlib.Core.Path.{◌≡◌, refl, sym, ◌∙◌, ap, subst}
use mathlib.Core.Bool.{Bool, true, false, cond}
use mathlib.Core.List.{List, [], ◌∷◌, ◌++◌, append_assoc, append-nil}
use Prim.Native.Nat.{ℕ, suc, ◌+◌, ◌*◌, ◌-◌, ◌≤◌, ◌<◌}
use native.Mathlib.Omega.{arith}
use borrow.Author.Tests.{eq-eqb, ne_eqb, eqb-true, eqb-false, ltb-false, ltb-true, lt-ltb, le-ltb}
use lib.Dec.{eqb, ltb}
use lib.ListN.{length, get_or, take, drop, drop_of_length-le}
use lib.Seq.{drop-cons, drop-drop}
use Rattle.integers.proofs.Order.{by_test}
use Rattle.mesh.specs.Rows.{row_width}
use Rattle.fields.specs.Fields.{run_length, in_run, lines_of}
use Rattle.fields.specs.declared.Run.TheVariants as run
use Rattle.fields.proofs.Lines.{lines_none, lines_first}
use Rattle.mesh_fields.specs.Put.{Put}
use Rattle.mesh_lines.specs.Lines.{is_passed_over, is_head, head_words, is_triangle, triangle_of, triangle_words}
use Rattle.mesh_text.specs.declared.Step.{Step}
use Rattle.mesh_text.specs.Text.{max_written, max_telling, mark_end, lines_in, fits, wrong_from, wrong_line, telling, line_words}
use Rattle.mesh_text.specs.Gathering.{words_from, Taken, Gathered, fewer}

pub true_false : true ≡ false → ⊥
true_false q = let z : ◌≡◌ {A = ℕ} 0 1 = ap (λ t. cond t 0 1) q in omega arith

-- ---- a line

module _ (l : List ℕ) (ls : List (List ℕ)) where
  module _ (e : is_passed_over l ≡ true) where
    pub telling_passed : telling (l ∷ ls) ≡ telling ls
    unfolding telling
    telling_passed = rw e

    pub words_passed : (k : ℕ) → words_from k (l ∷ ls) ≡ words_from k ls
    unfolding words_from
    words_passed k = rw e

    pub wrong_passed : (k n : ℕ) → wrong_from k n (l ∷ ls) ≡ wrong_from k (n + 1) ls
    unfolding wrong_from
    wrong_passed k n = rw e

  module _ (e : is_passed_over l ≡ false) where
    pub telling_more : telling (l ∷ ls) ≡ l ∷ telling ls
    unfolding telling
    telling_more = rw e

    pub words_more : (k : ℕ) → words_from k (l ∷ ls) ≡ line_words k l ++ words_from (k + 1) ls
    unfolding words_from
    words_more k = rw e

    pub wrong_more : (k n : ℕ) → wrong_from k n (l ∷ ls) ≡ cond (fits k l) (wrong_from (k + 1) (n + 1) ls) (n + 1)
    unfolding wrong_from
    wrong_more k n = rw e

-- ---- a line's words

pub fits_many : {k : ℕ} (l : List ℕ) → (k ≡ 0 → ⊥) → max_written < k → fits k l ≡ false
unfolding fits
fits_many {k} l h g = rw (ne_eqb k 0 h, lt-ltb max_written k g)

pub fits_few : (k : ℕ) (l : List ℕ) → fits k l ≡ true → k ≤ max_written
fits_few k l e =
    by_test (eqb k 0)
    (λ z. omega (arith, eqb-true k 0 z))
    (λ z. by_test (ltb max_written k) (λ g. absurd (true_false (sym e ∙ fits_many l (eqb-false k 0 z) (ltb-true max_written k g)))) (λ g. ltb-false max_written k g))

pub put_first : {k : ℕ} (l : List ℕ) {old new : List ℕ} {r : Bool} → k ≡ 0 → Put (is_head l) (head_words l) 0 old new r → Put (fits k l) (line_words k l) (row_width * k - fewer) old new r
unfolding fits line_words
put_first l {old} {new} {r} e p = subst (λ j. Put (fits j l) (line_words j l) (row_width * j - fewer) old new r) (sym e) p

pub put_next : {k : ℕ} (l : List ℕ) {old new : List ℕ} {r : Bool} → (k ≡ 0 → ⊥) → k ≤ max_written → Put (is_triangle l) (triangle_words (triangle_of l)) (row_width * k - fewer) old new r
    → Put (fits k l) (line_words k l) (row_width * k - fewer) old new r
unfolding fits line_words
put_next {k} l h g p = rw (ne_eqb k 0 h, le-ltb max_written k g) p

pub fits_head : (l : List ℕ) → fits 0 l ≡ true → is_head l ≡ true
unfolding fits
fits_head l e = e

pub fits_triangle : (k : ℕ) (l : List ℕ) → fits (k + 1) l ≡ true → is_triangle l ≡ true
unfolding fits
fits_triangle k l e = rw (ne_eqb (k + 1) 0 (λ z. omega arith), le-ltb max_written (k + 1) (fits_few (k + 1) l e)) at e

-- behind k lines row_width * k - fewer words are gathered: none, 2, 11, ..
line_size : (k : ℕ) (l : List ℕ) → row_width * k - fewer + length (line_words k l) ≡ row_width * (k + 1) - fewer
unfolding line_words
line_size k l =
    by_test (eqb k 0)
    (λ z. rw z (omega (arith, eqb-true k 0 z)))
    (λ z. rw z (let h : k ≡ 0 → ⊥ = eqb-false k 0 z in omega arith))

-- ---- a line taken

module _ (l : List ℕ) (k : ℕ) (old : List ℕ) where
  pub taken_passed : is_passed_over l ≡ true → k ≤ max_telling → Taken l k old old (record { right = true; count = k })
  taken_passed e h =
      record {
        judged = λ n ls. wrong_passed l ls e k n;
        words = λ q ls. ap (λ w. take (row_width * k - fewer) old ++ w) (words_passed l ls e k);
        lines = λ q ls. ap (λ t. k + length t) (telling_passed l ls e);
        few = λ q. h;
        as_many = refl;
      }

  module _ {new : List ℕ} {r : Bool} (e : is_passed_over l ≡ false) (p : Put (fits k l) (line_words k l) (row_width * k - fewer) old new r) where
    pub taken_right : r ≡ true → Taken l k old new (record { right = true; count = k + 1 })
    taken_right q =
        let f : fits k l ≡ true = sym p.answer ∙ q in
        let front : take (row_width * (k + 1) - fewer) new ≡ take (row_width * k - fewer) old ++ line_words k l = ap (λ n. take n new) (sym (line_size k l)) ∙ p.front f in
        record {
          judged = λ n ls. wrong_more l ls e k n ∙ ap (λ t. cond t (wrong_from (k + 1) (n + 1) ls) (n + 1)) f;
          words = λ u ls.
              ap (λ w. take (row_width * k - fewer) old ++ w) (words_more l ls e k) ∙ sym (append_assoc (take (row_width * k - fewer) old) (line_words k l) (words_from (k + 1) ls))
              ∙ ap (λ w. w ++ words_from (k + 1) ls) (sym front);
          lines = λ u ls. omega (arith, ap length (telling_more l ls e));
          few = λ u. omega (arith, fits_few k l f);
          as_many = p.as_many;
        }

    pub taken_wrong : r ≡ false → Taken l k old new (record { right = false; count = k })
    taken_wrong q =
        let f : fits k l ≡ false = sym p.answer ∙ q in
        record {
          judged = λ n ls. wrong_more l ls e k n ∙ ap (λ t. cond t (wrong_from (k + 1) (n + 1) ls) (n + 1)) f;
          words = λ u. absurd (true_false (sym u));
          lines = λ u. absurd (true_false (sym u));
          few = λ u. absurd (true_false (sym u));
          as_many = p.as_many;
        }

-- ---- the whole text

-- the line at a place, and those behind it
pub lines_at : (text : List ℕ) {at : ℕ} {e : ℕ} → at < length text → e ≡ at + run_length (in_run run.Line) (drop at text)
    → lines_of (drop at text) ≡ take (e - at) (drop at text) ∷ lines_of (drop (e + 1) text)
lines_at text {at} {e} h q =
    let n : e - at ≡ run_length (in_run run.Line) (drop at text) = omega arith in
    let m : at + suc (run_length (in_run run.Line) (drop at text)) ≡ e + 1 = omega arith in
    let d = drop-cons text at 0 h in
    let f : lines_of (drop at text) ≡ take (run_length (in_run run.Line) (drop at text)) (drop at text) ∷ lines_of (drop (suc (run_length (in_run run.Line) (drop at text))) (drop at text)) =
    rw d (lines_first (get_or text at 0) (drop (suc at) text)) in
    f ∙ (λ i. take (sym n i) (drop at text) ∷ lines_of (drop-drop (suc (run_length (in_run run.Line) (drop at text))) at text i))
    ∙ ap (λ j. take (e - at) (drop at text) ∷ lines_of (drop j text)) m

-- what holds where the lines before place `at`, of which `count` said something, are taken
pub record Going (text old : List ℕ) (at line count : ℕ) (words : List ℕ) : Type 0 where
  pub judged : wrong_line text ≡ wrong_from count line (lines_of (drop at text))
  pub gathered : words_from 0 (lines_in text) ≡ take (row_width * count - fewer) words ++ words_from count (lines_of (drop at text))
  pub lines : length (telling (lines_in text)) ≡ count + length (telling (lines_of (drop at text)))
  pub few : count ≤ max_telling
  pub near : line ≤ at
  pub within : at ≤ length text + 1
  pub as_many : length words ≡ length old

pub going_begins : {text old : List ℕ} {at : ℕ} → at ≡ mark_end text → at ≤ length text → Going text old at 0 0 old
going_begins {text} {at} e h =
    let q : length (telling (lines_in text)) ≡ length (telling (lines_of (drop at text))) = ap (λ m. length (telling (lines_of (drop m text)))) (sym e) in
    record {
      judged = ap (λ m. wrong_from 0 0 (lines_of (drop m text))) (sym e);
      gathered = ap (λ m. words_from 0 (lines_of (drop m text))) (sym e);
      lines = omega (arith, q);
      few = omega arith;
      near = omega arith;
      within = omega arith;
      as_many = refl;
    }

module _ {text old : List ℕ} {at line count : ℕ} {words : List ℕ} (g : Going text old at line count words) where
  module _ {new : List ℕ} {e : ℕ} {r : Step} (h : at < length text) (q : e ≡ at + run_length (in_run run.Line) (drop at text)) (u : e ≤ length text) (t : Taken (take (e - at) (drop at text)) count words new r) where
    judged_line : wrong_line text ≡ cond r.right (wrong_from r.count (line + 1) (lines_of (drop (e + 1) text))) (line + 1)
    judged_line = g.judged ∙ ap (wrong_from count line) (lines_at text h q) ∙ t.judged line (lines_of (drop (e + 1) text))

    pub going_on : r.right ≡ true → Going text old (e + 1) (line + 1) r.count new
    going_on f =
        let l = lines_at text h q in
        record {
          judged = judged_line ∙ ap (λ b. cond b (wrong_from r.count (line + 1) (lines_of (drop (e + 1) text))) (line + 1)) f;
          gathered = g.gathered ∙ ap (λ ls. take (row_width * count - fewer) words ++ words_from count ls) l ∙ t.words f (lines_of (drop (e + 1) text));
          lines = g.lines ∙ ap (λ ls. count + length (telling ls)) l ∙ t.lines f (lines_of (drop (e + 1) text));
          few = t.few f;
          near = omega (arith, g.near);
          within = omega arith;
          as_many = t.as_many ∙ g.as_many;
        }

    pub going_wrong : r.right ≡ false → Gathered text old new (record { wrong = line + 1; count = 0 })
    going_wrong f =
        record {
          judged = sym (judged_line ∙ ap (λ b. cond b (wrong_from r.count (line + 1) (lines_of (drop (e + 1) text))) (line + 1)) f);
          lines = λ z. absurd (omega arith);
          words = λ z. absurd (omega arith);
          some = λ z. absurd (omega arith);
          few = λ z. absurd (omega arith);
          as_many = t.as_many ∙ g.as_many;
        }

  module _ (h : length text ≤ at) where
    none_left : lines_of (drop at text) ≡ []
    none_left = ap lines_of (drop_of_length-le text h) ∙ lines_none

    wrong_at_end : wrong_line text ≡ cond (eqb count 0) (line + 1) 0
    unfolding wrong_from
    wrong_at_end = g.judged ∙ ap (wrong_from count line) none_left

    pub no_first_line : count ≡ 0 → Gathered text old words (record { wrong = line + 1; count = 0 })
    no_first_line z =
        record {
          judged = sym (wrong_at_end ∙ ap (λ b. cond b (line + 1) 0) (eq-eqb count 0 z));
          lines = λ e. absurd (omega arith);
          words = λ e. absurd (omega arith);
          some = λ e. absurd (omega arith);
          few = λ e. absurd (omega arith);
          as_many = g.as_many;
        }

    pub all_gathered : (count ≡ 0 → ⊥) → Gathered text old words (record { wrong = 0; count = count })
    unfolding telling words_from
    all_gathered z =
        record {
          judged = sym (wrong_at_end ∙ ap (λ b. cond b (line + 1) 0) (ne_eqb count 0 z));
          lines = λ e. omega (arith, g.lines, ap (λ ls. length (telling ls)) none_left);
          words = λ e. sym (g.gathered ∙ ap (λ ls. take (row_width * count - fewer) words ++ words_from count ls) none_left ∙ append-nil (take (row_width * count - fewer) words));
          some = λ e. omega arith;
          few = λ e. g.few;
          as_many = g.as_many;
        }
