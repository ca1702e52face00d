-- `boundary_path::reach_row` meets its contract. Assumes nothing.
use mathlib.Core.Path.{sym, ap, subst}
use mathlib.Core.Bool.{not}
use native.Mathlib.Omega.{arith}
use lib.Dec.{T}
use lib.Ieee.{binary64, of_bits, nan_bits}
use Rattle.boundary_path.proofs.Rows.{drawn_under, x_number, y_number, reach_relative, reach_vertical, reach_horizontal, reach_both}
use borrow.Author.Rules.{rules}
use Rattle.boundary_path.proofs.reach_row.Goals as goal

pub float_from_bits-x : goal.float_from_bits-x
float_from_bits-x c = subst (λ n. T (not (nan_bits binary64 n))) (sym c.carried-x.ensures) (x_number c.args.row c.requires)

pub float_from_bits-y : goal.float_from_bits-y
float_from_bits-y c = subst (λ n. T (not (nan_bits binary64 n))) (sym c.carried-y.ensures) (y_number c.args.row c.requires)

pub returns-then-kind-eq-RELATIVE_LINE : goal.returns-then-kind-eq-RELATIVE_LINE
returns-then-kind-eq-RELATIVE_LINE c = let a = c.args in
    reach_relative a.row a.at (ap (of_bits binary64) c.carried-x.ensures) (ap (of_bits binary64) c.carried-y.ensures) c.if-kind-eq-RELATIVE_LINE.true

pub returns-then-kind-eq-VERTICAL : goal.returns-then-kind-eq-VERTICAL
returns-then-kind-eq-VERTICAL c = let a = c.args in
    reach_vertical a.row a.at (ap (of_bits binary64) c.carried-x.ensures) (ap (of_bits binary64) c.carried-y.ensures) c.if-kind-eq-VERTICAL.true

pub returns-then-kind-eq-HORIZONTAL : goal.returns-then-kind-eq-HORIZONTAL
returns-then-kind-eq-HORIZONTAL c = let a = c.args in
    reach_horizontal a.row a.at (ap (of_bits binary64) c.carried-x.ensures) (ap (of_bits binary64) c.carried-y.ensures) c.if-kind-eq-HORIZONTAL.true

pub returns : goal.returns
returns c = reach_both c.args.row c.args.at (ap (of_bits binary64) c.carried-x.ensures) (ap (of_bits binary64) c.carried-y.ensures)
    (omega (arith, c.if-kind-eq-HORIZONTAL.false, c.if-kind-eq-VERTICAL.false, c.if-kind-eq-RELATIVE_LINE.false, drawn_under c.args.row c.requires))
