-- `boundary_path::is_drawn` meets its contract. Assumes nothing.
use mathlib.Core.Path.{◌∙◌, ap}
use borrow.Author.Tests.{not-true, not-false}
use lib.Ieee.{binary64, of_bits}
use lib.Ieee.Scale.{finite}
use Rattle.path.proofs.Tests.{both_hold, first_fails}
use Rattle.boundary_path.proofs.Rows.{drawn_past, drawn_is}
use borrow.Author.Rules.{rules}
use Rattle.boundary_path.proofs.is_drawn.Goals as goal

pub returns-then-kind-ge-CLOSE : goal.returns-then-kind-ge-CLOSE
returns-then-kind-ge-CLOSE c = drawn_past c.args.row c.if-kind-ge-CLOSE.true

pub returns-then-not-is_finite : goal.returns-then-not-is_finite
returns-then-not-is_finite c = first_fails _ (c.is_finite.ensures ∙ ap (λ n. finite (of_bits binary64 n)) c.carried.ensures) c.if-not-is_finite.true ∙ drawn_is c.args.row c.if-kind-ge-CLOSE.false

pub returns : goal.returns
returns c = both_hold
    (c.is_finite.ensures ∙ ap (λ n. finite (of_bits binary64 n)) c.carried.ensures) c.if-not-is_finite.false
    (c.is_finite-2.ensures ∙ ap (λ n. finite (of_bits binary64 n)) c.carried-2.ensures)
    ∙ drawn_is c.args.row c.if-kind-ge-CLOSE.false
