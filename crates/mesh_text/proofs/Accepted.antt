-- A text that is accepted: how many of its lines say something, and what they are; that its file
-- fits. Assumes nothing.
use mathlib.Core.Path.{◌≡◌, sym, ◌∙◌, ap}
use mathlib.Core.Bool.{Bool, true, false, cond}
use mathlib.Core.List.{List, [], ◌∷◌}
use Prim.Native.Nat.{ℕ, ◌+◌, ◌≤◌}
use native.Mathlib.Omega.{arith}
use borrow.Author.Tests.{eqb-true, eq-eqb}
use lib.Dec.{eqb}
use lib.ListN.{length, get_or, drop}
use Rattle.integers.specs.Lists.{All}
use Rattle.integers.proofs.Order.{by_test}
use Rattle.integers.proofs.Overlay.{length_overlay}
use Rattle.mesh_lines.specs.Lines.{is_passed_over, is_head, is_triangle}
use Rattle.mesh_text.specs.declared.NotConverted.{NotConverted}
use Rattle.std.specs.Prelude.{Result, Ok, Err}
use Rattle.mesh_text.specs.Text.{max_written, max_telling, lines_in, file_room, fits, wrong_from, wrong_line, telling, limit_of, split_number_of, triangles_of, file_of_text}
use Rattle.mesh_text.specs.Conversion.{too_long, conversion, bytes_converted}
use Rattle.mesh_text.proofs.Gatherings.{telling_passed, telling_more, wrong_passed, wrong_more, fits_few, fits_head, fits_triangle, true_false}
use Rattle.mesh_text.proofs.Writing.{length_mesh, length_file}

-- ---- one line

wrong_none : (k n : ℕ) → wrong_from k n [] ≡ 0 → 1 ≤ k
unfolding wrong_from
wrong_none k n e =
    by_test (eqb k 0)
    (λ z. absurd (let q : n + 1 ≡ 0 = rw z at e in omega arith))
    (λ z. let h : k ≡ 0 → ⊥ = λ q. true_false (sym (eq-eqb k 0 q) ∙ z) in omega arith)

-- a line that says something fits, and the lines behind it are right
right_more : (k n : ℕ) (l : List ℕ) (ls : List (List ℕ)) → is_passed_over l ≡ false → wrong_from k n (l ∷ ls) ≡ 0 → (fits k l ≡ true) × (wrong_from (k + 1) (n + 1) ls ≡ 0)
right_more k n l ls e w =
    let v = sym (wrong_more l ls e k n) ∙ w in
    by_test (fits k l)
    (λ f. (f, sym (ap (λ t. cond t (wrong_from (k + 1) (n + 1) ls) (n + 1)) f) ∙ v))
    (λ f. absurd (let q : n + 1 ≡ 0 = sym (ap (λ t. cond t (wrong_from (k + 1) (n + 1) ls) (n + 1)) f) ∙ v in omega arith))

-- ---- how many

few_lines : {k : ℕ} (n : ℕ) (ls : List (List ℕ)) → k ≤ max_telling → wrong_from k n ls ≡ 0 → (k + length (telling ls) ≤ max_telling) × (1 ≤ k + length (telling ls))
unfolding telling
few_lines {k} n [] h w = (omega arith, omega (arith, wrong_none k n w))
few_lines {k} n (l ∷ ls) h w =
    by_test (is_passed_over l)
    (λ e. let f = few_lines {k = k} (n + 1) ls h (sym (wrong_passed l ls e k n) ∙ w) in (omega (arith, ap length (telling_passed l ls e)), omega (arith, ap length (telling_passed l ls e))))
    (λ e.
    let m = right_more k n l ls e w in
    let f = few_lines {k = k + 1} (n + 1) ls (omega (arith, fits_few k l m.0)) m.1 in
    (omega (arith, ap length (telling_more l ls e)), omega (arith, ap length (telling_more l ls e))))

pub few_triangles : (text : List ℕ) → wrong_line text ≡ 0 → length (triangles_of text) ≤ max_written
few_triangles text e = omega (arith, length_mesh text, few_lines 0 (lines_in text) (omega arith) e)

-- ---- what they are

triangles_behind : (k n : ℕ) (ls : List (List ℕ)) → wrong_from (k + 1) n ls ≡ 0 → All (λ l. is_triangle l ≡ true) (telling ls)
unfolding telling
triangles_behind k n [] w = tt
triangles_behind k n (l ∷ ls) w =
    by_test (is_passed_over l)
    (λ e. rw e (triangles_behind k (n + 1) ls (sym (wrong_passed l ls e (k + 1) n) ∙ w)))
    (λ e.
    let m = right_more (k + 1) n l ls e w in
    rw e (fits_triangle k l m.0, triangles_behind (k + 1) (n + 1) ls m.1))

right_lines : (n : ℕ) (ls : List (List ℕ)) → wrong_from 0 n ls ≡ 0 → (is_head (get_or (telling ls) 0 []) ≡ true) × All (λ l. is_triangle l ≡ true) (drop 1 (telling ls))
unfolding telling
right_lines n [] w = absurd (omega (arith, wrong_none 0 n w))
right_lines n (l ∷ ls) w =
    by_test (is_passed_over l)
    (λ e. rw e (right_lines (n + 1) ls (sym (wrong_passed l ls e 0 n) ∙ w)))
    (λ e.
    let m = right_more 0 n l ls e w in
    rw e (fits_head l m.0, triangles_behind 0 (n + 1) ls m.1))

pub right_text : (text : List ℕ) → wrong_line text ≡ 0 → (is_head (get_or (telling (lines_in text)) 0 []) ≡ true) × All (λ l. is_triangle l ≡ true) (drop 1 (telling (lines_in text)))
right_text text e = right_lines 0 (lines_in text) e

-- ---- the file fits

is_written : Result ℕ NotConverted → Bool
is_written (Ok n) = true
is_written (Err e) = false

length_told : Result ℕ NotConverted → ℕ
length_told (Ok n) = n
length_told (Err e) = 0

pub file_fits : (text : List ℕ) {m : ℕ} → conversion text ≡ Ok m → m ≤ file_room
unfolding conversion is_written length_told
file_fits text e =
    by_test (too_long text)
    (λ t. absurd (true_false (sym (ap is_written (rw t at e)))))
    (λ t.
    by_test (eqb (wrong_line text) 0)
    (λ w. let q = ap length_told (rw (t, w) at e) in omega (arith, q, length_file (limit_of text) (split_number_of text) (triangles_of text), few_triangles text (eqb-true (wrong_line text) 0 w)))
    (λ w. absurd (true_false (sym (ap is_written (rw (t, w) at e))))))

-- the lent bytes stay as many
pub length_converted : (text old : List ℕ) → file_room ≤ length old → length (bytes_converted text old) ≡ length old
unfolding bytes_converted
length_converted text old h =
    by_test (too_long text)
    (λ t. rw t)
    (λ t.
    by_test (eqb (wrong_line text) 0)
    (λ w.
    let n : length (file_of_text text) ≤ length old = omega (arith, length_file (limit_of text) (split_number_of text) (triangles_of text), few_triangles text (eqb-true (wrong_line text) 0 w)) in
    rw (t, w) (length_overlay (file_of_text text) old n))
    (λ w. rw (t, w)))

-- what was written stands in the lent bytes
pub written_within : (text old : List ℕ) {m : ℕ} {out : List ℕ} {r : Result ℕ NotConverted} → length old ≡ file_room → r ≡ conversion text → out ≡ bytes_converted text old → r ≡ Ok m → m ≤ length out
written_within text old h e q w = omega (arith, file_fits text (sym e ∙ w), ap length q, length_converted text old (omega arith))
