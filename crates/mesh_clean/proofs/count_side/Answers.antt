-- `mesh_clean::count_side` meets its contract: the two ways of Tests. Assumes nothing.
use mathlib.Core.Path.{◌∙◌, ap}
use mathlib.Core.Path.{◌≡◌, refl}
use mathlib.Core.Bool.{Bool, true, false, not, cond}
use Prim.Native.Nat.{◌+◌}
use lib.Dec.{eqb}
use mir.Val.{bool_byte}
use Rattle.mesh.specs.Mesh.{none}
use Rattle.mesh_clean.proofs.Tests.{side_before, one_before, none_after, side_after, none_before, some_after}
use Rattle.mesh_clean.proofs.count_side.Goals as goal

bit : (b : Bool) → bool_byte b ≡ cond b 1 0
bit true = refl
bit false = refl

pub returns-then-n-k : goal.returns-then-n-k
returns-then-n-k c = let g = c.args in
    record {
      shared = λ p q ea eb. c.names_back.ensures p q ea eb ∙ side_before g.mesh.now g.k g.n c.if-n-k.true c.requires.0 p q;
      before = one_before g.mesh.now g.k g.n c.if-n-k.true g.s.before;
      after = none_after g.mesh.now g.k g.n c.if-n-k.true g.s.after;
    }

pub returns-else-n-k : goal.returns-else-n-k
returns-else-n-k c = let g = c.args in
    record {
      shared = λ p q ea eb. side_after g.mesh.now g.k g.n c.if-n-k.false p q;
      before = none_before g.mesh.now g.k g.n c.if-n-k.false g.s.before;
      after = ap (λ x. g.s.after + x) (c.from.ensures ∙ bit (not (eqb g.n none))) ∙ some_after g.mesh.now g.k g.n c.if-n-k.false g.s.after;
    }
