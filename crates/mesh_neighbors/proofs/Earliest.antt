-- The earliest of two sides' or two triangles' faults (`both_told`), of three sides (`three_told`),
-- and one pass over the triangles (`Judged`: `judged_start`, `judged_turn`, `judged_end`). Assumes
-- nothing.
use mathlib.Core.Path.{◌≡◌, refl, sym, ◌∙◌, ap}
use mathlib.Core.Bool.{Bool, true, false, cond}
use Prim.Native.Nat.{ℕ, suc, ◌+◌, ◌≤◌, ◌<◌}
use native.Mathlib.Numerals.{add-one}
use native.Mathlib.Omega.{arith}
use borrow.Author.Tests.{eqb-false, lt-ltb, le-ltb, ne_eqb}
use lib.Dec.{eqb}
use lib.ListN.{length, drop}
use Rattle.integers.specs.Faults.{first_fault}
use Rattle.integers.proofs.Order.{by_test}
use Rattle.mesh.specs.Mesh.{Mesh, Triangle, triangle_at, some_from, some, some_side, shared, strays, misnames, mismatches, stray_neighbour, misnamed, mismatched}
use Rattle.mesh.proofs.Sides.{some_turn, some_end}
use Rattle.mesh_neighbors.specs.Earliest.{neighbour_kinds, neighbour_fault, row_fault, earlier}

-- the first fault of side i of triangle k
abbrev pub kinds_at : Mesh → ℕ → ℕ → ℕ
kinds_at m k i =
    first_fault
    (neighbour_kinds
    (shared (triangle_at m k) (λ i n. strays (length m) k n) i)
    (shared (triangle_at m k) (λ i n. misnames m k (triangle_at m k) n) i)
    (shared (triangle_at m k) (mismatches m k (triangle_at m k)) i))

-- ---- the earlier of two

abbrev or : Bool → Bool → Bool
or a b = cond a true b

-- x is none, or comes after n
abbrev Later : ℕ → ℕ → Type 0
Later n x = (x ≡ 0 → ⊥) → n < x

same : {n : ℕ} → 0 < n → earlier n n ≡ n
unfolding earlier
same {n} h = rw (ne_eqb n 0 (omega arith), le-ltb n n (omega arith))

before : {n x : ℕ} → 0 < n → Later n x → earlier n x ≡ n
unfolding earlier
before {n} {x} h l = by_test (eqb x 0) (λ e. rw (ne_eqb n 0 (omega arith), e)) (λ e. rw (ne_eqb n 0 (omega arith), e, lt-ltb n x (l (eqb-false x 0 e))))

after : {n x : ℕ} → 0 < n → Later n x → earlier x n ≡ n
unfolding earlier
after {n} {x} h l =
    by_test (eqb x 0) (λ e. rw e)
    (λ e. rw (e, ne_eqb n 0 (omega arith), le-ltb x n (omega (arith, l (eqb-false x 0 e)))))

one_told : {n : ℕ} → 0 < n → (a b : Bool) {x y : ℕ} → Later n x → Later n y → cond (or a b) n (earlier x y) ≡ earlier (cond a n x) (cond b n y)
one_told {n} h true true k l = sym (same h)
one_told h true false k l = sym (before h l)
one_told h false true k l = sym (after h k)
one_told h false false k l = refl

later_last : {n m : ℕ} → n < m → (c : Bool) → Later n (cond c m 0)
later_last h true e = h
later_last h false e = absurd (e refl)

later_next : {n : ℕ} {m : ℕ} → n < m → (b : Bool) {x : ℕ} → Later n x → Later n (cond b m x)
later_next h true l e = h
later_next h false l e = l e

last_told : (a b : Bool) → ◌≡◌ {A = ℕ} (cond (or a b) 5 0) (earlier (cond a 5 0) (cond b 5 0))
unfolding earlier
last_told true true = refl
last_told true false = refl
last_told false true = refl
last_told false false = refl

-- the fault of two together is the earlier of theirs
pub both_told : (a b c a' b' c' : Bool) → first_fault (neighbour_kinds (or a a') (or b b') (or c c')) ≡ earlier (first_fault (neighbour_kinds a b c)) (first_fault (neighbour_kinds a' b' c'))
unfolding first_fault
both_told a b c a' b' c' =
    let x : ℕ = cond c 5 0 in
    let y : ℕ = cond c' 5 0 in
    ap (λ w. cond (or a a') 3 (cond (or b b') 4 w)) (last_told c c')
    ∙ ap (cond (or a a') 3) (one_told (omega arith) b b' (later_last (omega arith) c) (later_last (omega arith) c'))
    ∙ one_told (omega arith) a a'
    (later_next (omega arith) b (later_last (omega arith) c)) (later_next (omega arith) b' (later_last (omega arith) c'))

-- ---- three sides

pub three_told : (m : Mesh) (k : ℕ) {a b c d e : ℕ} → a ≡ kinds_at m k 0 → b ≡ kinds_at m k 1 → c ≡ kinds_at m k 2 → d ≡ earlier b c → e ≡ earlier a d → e ≡ row_fault m k
three_told m k ea eb ec ed ee =
    let t = triangle_at m k in
    let s = shared t (λ i n. strays (length m) k n) in
    let n = shared t (λ i n. misnames m k t n) in
    let x = shared t (mismatches m k t) in
    ee ∙ (λ i. earlier (ea i) (ed i)) ∙ (λ i. earlier (kinds_at m k 0) (earlier (eb i) (ec i)))
    ∙ ap (earlier (kinds_at m k 0)) (sym (both_told (s 1) (n 1) (x 1) (s 2) (n 2) (x 2)))
    ∙ sym (both_told (s 0) (n 0) (x 0) (or (s 1) (s 2)) (or (n 1) (n 2)) (or (x 1) (x 2)))

-- ---- one pass

or_assoc : (a b c : Bool) → or a (or b c) ≡ or (or a b) c
or_assoc true b c = refl
or_assoc false b c = refl

or_false : (a : Bool) → or a false ≡ a
or_false true = refl
or_false false = refl

module _ (m : Mesh) where
  abbrev straying : ℕ → Triangle → Bool
  straying k t = some_side (shared t (λ i n. strays (length m) k n))

  abbrev misnaming : ℕ → Triangle → Bool
  misnaming k t = some_side (shared t (λ i n. misnames m k t n))

  abbrev mismatching : ℕ → Triangle → Bool
  mismatching k t = some_side (shared t (mismatches m k t))

  -- of some test, what holds before triangle k and what is left
  abbrev Left : (ℕ → Triangle → Bool) → ℕ → Bool → Type 0
  Left test k b = some test m ≡ or b (some_from test k (drop k m))

  left_turn : (test : ℕ → Triangle → Bool) {k : ℕ} (b : Bool) → k < length m → Left test k b → Left test (k + 1) (or b (test k (triangle_at m k)))
  left_turn test {k} b h e =
      e ∙ ap (or b) (some_turn test m h) ∙ or_assoc b (test k (triangle_at m k)) (some_from test (suc k) (drop (suc k) m))
      ∙ ap (λ n. or (or b (test k (triangle_at m k))) (some_from test n (drop n m))) (sym (add-one k))

  left_end : (test : ℕ → Triangle → Bool) {k : ℕ} (b : Bool) → length m ≤ k → Left test k b → some test m ≡ b
  left_end test {k} b h e = e ∙ ap (or b) (some_end test m h) ∙ or_false b

  -- the faults of the triangles before k
  pub record Judged (k fault : ℕ) : Type 0 where
    pub a : Bool
    pub b : Bool
    pub c : Bool
    pub told : fault ≡ first_fault (neighbour_kinds a b c)
    pub strays_left : Left straying k a
    pub misnames_left : Left misnaming k b
    pub mismatches_left : Left mismatching k c

  pub judged_start : Judged 0 0
  judged_start = record { a = false; b = false; c = false; told = unfold first_fault in refl; strays_left = refl; misnames_left = refl; mismatches_left = refl }

  pub judged_turn : {f r g : ℕ} {k : ℕ} → k < length m → Judged k f → r ≡ row_fault m k → g ≡ earlier f r → Judged (k + 1) g
  judged_turn {f} {k} h j e p = record {
    a = or j.a (straying k (triangle_at m k));
    b = or j.b (misnaming k (triangle_at m k));
    c = or j.c (mismatching k (triangle_at m k));
    told = p ∙ (λ i. earlier (j.told i) (e i)) ∙ sym (both_told j.a j.b j.c (straying k (triangle_at m k)) (misnaming k (triangle_at m k)) (mismatching k (triangle_at m k)));
    strays_left = left_turn straying j.a h j.strays_left;
    misnames_left = left_turn misnaming j.b h j.misnames_left;
    mismatches_left = left_turn mismatching j.c h j.mismatches_left;
  }

  pub judged_end : {f : ℕ} {k : ℕ} → length m ≤ k → Judged k f → f ≡ neighbour_fault m
  unfolding neighbour_fault stray_neighbour misnamed mismatched
  judged_end h j =
      j.told
      ∙ sym (λ i. first_fault (neighbour_kinds (left_end straying j.a h j.strays_left i) (left_end misnaming j.b h j.misnames_left i) (left_end mismatching j.c h j.mismatches_left i)))
