-- `mesh_bounds::with_point` meets its contract: bound by bound. Assumes nothing.
use mathlib.Core.Path.{◌≡◌, ◌∙◌}
use lib.IntN.{ℤ}
use lib.Signed.{le_z}
use mir.Syntax.{w32}
use mir.Val.{SFits, to_z, of_z}
use Rattle.std.specs.Int.{int_min, int_max}
use Rattle.integers.proofs.Order.{by_test}
use Rattle.integers.proofs.Tests.{le_z-≤, le_z-<, ≤-lt_z, <-lt_z}
use Rattle.integers.proofs.Bits.{kept, got}
use Rattle.mesh_bounds.specs.Bounds.{lesser, greater}
use borrow.Author.Rules.{rules}
use Rattle.mesh_bounds.proofs.with_point.Goals as goal

module _ (a b : ℤ) where
  min_is : int_min a b ≡ lesser a b
  min_is = by_test (le_z a b) (λ e. rw (e, ≤-lt_z {x = b} {y = a} (le_z-≤ a b e))) (λ e. rw (e, <-lt_z {x = b} {y = a} (le_z-< a b e)))

  max_is : int_max a b ≡ greater a b
  max_is = by_test (le_z a b) (λ e. rw (e, ≤-lt_z {x = b} {y = a} (le_z-≤ a b e))) (λ e. rw (e, <-lt_z {x = b} {y = a} (le_z-< a b e)))

-- an operand as the machine holds it
abbrev held : ℤ → ℤ
held z = to_z w32 (of_z w32 z)

module _ {a b : ℤ} (f : SFits w32 a) (g : SFits w32 b) where
  least : int_min (held a) (held b) ≡ lesser a b
  least = min_is (held a) (held b) ∙ (λ j. lesser (kept f j) (kept g j))

  greatest : int_max (held a) (held b) ≡ greater a b
  greatest = max_is (held a) (held b) ∙ (λ j. greater (kept f j) (kept g j))

pub returns : goal.returns
returns c = let a : SFits w32 c.args.b.min_x = search rules in
    let b : SFits w32 c.args.b.max_x = search rules in
    let d : SFits w32 c.args.b.min_y = search rules in
    let e : SFits w32 c.args.b.max_y = search rules in
    let x : SFits w32 c.args.p.x = search rules in
    let y : SFits w32 c.args.p.y = search rules in
    (λ i. record {
      min_x = (got w32 _ c.min.type_inv ∙ c.min.ensures.value ∙ least a x) i;
      max_x = (got w32 _ c.max.type_inv ∙ c.max.ensures.value ∙ greatest b x) i;
      min_y = (got w32 _ c.min-2.type_inv ∙ c.min-2.ensures.value ∙ least d y) i;
      max_y = (got w32 _ c.max-2.type_inv ∙ c.max-2.ensures.value ∙ greatest e y) i;
    })
