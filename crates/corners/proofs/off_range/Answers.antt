-- `corners::off_range` meets its contract. The loop's invariant: the answer for the whole list is
-- that for what is left of it, or that one before was out of range. Assumes nothing.
use mathlib.Core.Path.{◌≡◌, refl, sym, ◌∙◌}
use mathlib.Core.Bool.{Bool, true, false, not, cond, ◌||◌}
use mathlib.Core.List.{List}
use Prim.Native.Nat.{ℕ, ◌+◌, ◌≤◌, ◌<◌}
use native.Mathlib.Numerals.{add-one}
use lib.IntN.{ℤ, pos}
use lib.ListN.{length, drop, get_or, drop_of_length-le}
use lib.Seq.{drop-cons}
use mir.Syntax.{w32}
use Rattle.integers.proofs.Bits.{got}
use Rattle.plane.specs.Plane.{in_range}
use Rattle.corners.specs.Corners.{off_range}
use Rattle.corners.proofs.off_range.Goals as goal

-- number i
turn : (xs : List ℤ) {i : ℕ} → i < length xs → (off : Bool) {r : Bool} {u : ℤ} → u ≡ get_or xs i (pos 0) → r ≡ in_range u
    → cond off true (off_range (drop i xs)) ≡ cond (off || not r) true (off_range (drop (i + 1) xs))
unfolding off_range
turn xs {i} h off {r} {u} p e = rw (add-one, drop-cons xs i (pos 0), ← p, ← e) (either off r _)
  where
    either : (a b c : Bool) → cond a true (cond b c true) ≡ cond (a || not b) true c
    either true b c = refl
    either false true c = refl
    either false false c = refl

end : (xs : List ℤ) {i : ℕ} → length xs ≤ i → (off : Bool) → cond off true (off_range (drop i xs)) ≡ off
unfolding off_range
end xs h true = refl
end xs {i} h false = rw (drop_of_length-le xs {i = i} h)

pub loop-z-preserved : goal.loop-z-preserved
loop-z-preserved c = c.loop-z.invariant ∙ turn _ c.loop-z-test.true c.loop-z.off (got w32 _ c.in_range-arg-1.given) c.in_range.ensures

pub returns : goal.returns
returns c = sym (c.loop-z.invariant ∙ end _ c.loop-z-test.false c.loop-z.off)
