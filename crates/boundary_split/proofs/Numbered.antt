-- What splitting by a number answers: a refusal where there is no such split, and what splitting
-- answers by the split of the number where there is. Assumes nothing.
use mathlib.Core.Path.{◌≡◌, refl, sym, subst}
use mathlib.Core.List.{List}
use Prim.Native.Nat.{ℕ, ◌≤◌, ◌<◌}
use native.Mathlib.Omega.{arith}
use borrow.Author.Tests.{lt-ltb, le-ltb}
use lib.ListN.{length}
use lib.IntN.{ℤ}
use Rattle.mesh.specs.Mesh.{Mesh}
use Rattle.table.specs.declared.Counts.{Counts}
use Rattle.table.specs.Table.{Answered}
use Rattle.convex_gather.proofs.Answer.{refused}
use Rattle.split.specs.Splitting.{split_parts, split_fault, SplitAnswered}
use Rattle.split.specs.declared.ConvexSplitStrategy.{ConvexSplitStrategy}
use Rattle.listing.specs.File.{strategy_of}
use Rattle.boundary_split.specs.Told.{numbered_fault, NumberedAnswered}

module _ {n : ℕ} (m : ℕ) (mesh : Mesh) (s : List ℕ) (c : List ℤ) where
  no_such : 2 < n → 13 ≡ numbered_fault n m mesh (length s) (length c)
  unfolding numbered_fault
  no_such h = sym (rw (lt-ltb 2 n h))

  such : n ≤ 2 → split_fault (strategy_of n) m mesh (length s) (length c) ≡ numbered_fault n m mesh (length s) (length c)
  unfolding numbered_fault
  such h = sym (rw (le-ltb 2 n h))

  pub no_split : 2 < n → NumberedAnswered n m mesh s c (record { fault = 13; parts = 0; corners = 0 }) s c
  no_split h = refused (split_parts (strategy_of n) m mesh) s c (no_such h) (λ q. omega (arith, q)) refl

  -- how is the split of the number n
  pub by_split : n ≤ 2 → {how : ConvexSplitStrategy} → how ≡ strategy_of n → {r : Counts} {s' : List ℕ} {c' : List ℤ} → SplitAnswered how m mesh s c r s' c' → NumberedAnswered n m mesh s c r s' c'
  by_split h q {r} {s'} {c'} a = subst (λ f. Answered f (split_parts (strategy_of n) m mesh) s c r s' c') (such h) (subst (λ w. SplitAnswered w m mesh s c r s' c') q a)
