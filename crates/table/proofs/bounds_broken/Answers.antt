-- `table::bounds_broken` meets its contract. The loop's invariant: the answer is that for the
-- corners from k on. Assumes nothing.
use mathlib.Core.Path.{◌≡◌, sym, ◌∙◌, ap, subst}
use mathlib.Core.Bool.{Bool, true, false}
use mathlib.Core.List.{List, ◌∷◌}
use Prim.Native.Nat.{ℕ, suc, ◌+◌, ◌≤◌, ◌<◌}
use native.Mathlib.Numerals.{add-one}
use borrow.Author.Rules.{rules}
use lib.IntN.{ℤ}
use lib.ListN.{length, drop, get_or, drop_of_length-le}
use lib.Seq.{drop-cons}
use lib.Signed.{lt_z}
use mir.Syntax.{w32}
use mir.Val.{SFits, to_z, of_z}
use Rattle.integers.proofs.Bits.{kept}
use Rattle.plane.specs.declared.IntPoint.{IntPoint}
use Rattle.plane.specs.Plane.{Pt, O}
use Rattle.plane.specs.Machine.{point}
use Rattle.table.specs.declared.IntRect.{IntRect}
use Rattle.table.specs.Table.{within_bounds, some_outside, bounds_broken}
use Rattle.table.proofs.bounds_broken.Goals as goal
use Rattle.table.proofs.bounds_broken.Goals.{then-bounds-via-then-bounds, then-bounds-via-else-bounds+then-bounds-2}

-- a test of two bounds as the machine holds them
held : {a b : ℤ} {t : Bool} → SFits w32 a → SFits w32 b → lt_z (to_z w32 (of_z w32 a)) (to_z w32 (of_z w32 b)) ≡ t → lt_z a b ≡ t
held f g e = rw (kept f, kept g) at e

module _ {b : IntRect} (l : List Pt) (f₁ : SFits w32 b.min_x) (f₂ : SFits w32 b.max_x) (f₃ : SFits w32 b.min_y) (f₄ : SFits w32 b.max_y) where
  crossed_x : lt_z (to_z w32 (of_z w32 b.max_x)) (to_z w32 (of_z w32 b.min_x)) ≡ true → true ≡ bounds_broken b l
  unfolding bounds_broken
  crossed_x e = rw (held f₂ f₁ e)

  crossed_y : lt_z (to_z w32 (of_z w32 b.max_x)) (to_z w32 (of_z w32 b.min_x)) ≡ false
      → lt_z (to_z w32 (of_z w32 b.max_y)) (to_z w32 (of_z w32 b.min_y)) ≡ true → true ≡ bounds_broken b l
  unfolding bounds_broken
  crossed_y e f = rw (held f₂ f₁ e, held f₄ f₃ f)

  by_corners : lt_z (to_z w32 (of_z w32 b.max_x)) (to_z w32 (of_z w32 b.min_x)) ≡ false
      → lt_z (to_z w32 (of_z w32 b.max_y)) (to_z w32 (of_z w32 b.min_y)) ≡ false → bounds_broken b l ≡ some_outside b (drop 0 l)
  unfolding bounds_broken
  by_corners e f = rw (held f₂ f₁ e, held f₄ f₃ f)

-- corner k, by the answer for it
module _ (b : IntRect) (l : List Pt) {k : ℕ} (h : k < length l) {r : Bool} {p : IntPoint} (q : point p ≡ get_or l k O) (e : r ≡ within_bounds b (point p)) where
  corner : drop k l ≡ point p ∷ drop (k + 1) l
  corner = rw add-one (drop-cons l k O h ∙ ap (λ t. t ∷ drop (suc k) l) (sym q))

  outside : r ≡ false → some_outside b (drop k l) ≡ true
  unfolding some_outside
  outside n = rw (corner, ← e, n)

  passed : r ≡ true → some_outside b (drop k l) ≡ some_outside b (drop (k + 1) l)
  unfolding some_outside
  passed n = rw (corner, ← e, n)

at_end : (b : IntRect) (l : List Pt) {k : ℕ} → length l ≤ k → some_outside b (drop k l) ≡ false
unfolding some_outside
at_end b l {k} h = rw (drop_of_length-le l {i = k} h)

pub returns-then-bounds : goal.returns-then-bounds
returns-then-bounds c = elim c.then-bounds.branch [
  | then-bounds-via-then-bounds w ↦ crossed_x _ (search rules) (search rules) (search rules) (search rules) w.if-bounds.true
  | then-bounds-via-else-bounds+then-bounds-2 w ↦ crossed_y _ (search rules) (search rules) (search rules) (search rules) w.if-bounds.false w.if-bounds-2.true
]

pub loop-k-init : goal.loop-k-init
loop-k-init c = by_corners _ (search rules) (search rules) (search rules) (search rules) c.if-bounds.false c.if-bounds-2.false

pub returns-then-not-within_bounds : goal.returns-then-not-within_bounds
returns-then-not-within_bounds c = sym (c.loop-k.invariant ∙ outside _ _ (subst (λ n. c.loop-k.k < n) c.corner_count-k-end.ensures c.loop-k-test.true) c.corner_at.ensures c.within_bounds.ensures c.if-not-within_bounds.true)

pub loop-k-preserved : goal.loop-k-preserved
loop-k-preserved c = c.loop-k.invariant ∙ passed _ _ (subst (λ n. c.loop-k.k < n) c.corner_count-k-end.ensures c.loop-k-test.true) c.corner_at.ensures c.within_bounds.ensures c.if-not-within_bounds.false

pub returns : goal.returns
returns c = let l = c.loop-k in
    sym (l.invariant ∙ at_end _ _ (subst (λ n. n ≤ l.k) c.corner_count-k-end.ensures c.loop-k-test.false))
