-- `pairs_text::put_pieces` meets its contract: a piece a turn, each put into what is left of the
-- lent bytes. Assumes nothing.
use mathlib.Core.Path.{◌≡◌, subst}
use mathlib.Core.Bool.{false}
use native.Mathlib.Omega.{arith}
use Rattle.pairs_text.specs.Walks.{pieces_in, Handed}
use Rattle.pairs_text.proofs.Fitting.{count_pieces}
use Rattle.pairs_text.proofs.Putting.{putting_none, putting_length, putting_inside, putting_turn, handed_full, handed_all}
use Rattle.pairs_text.proofs.put_pieces.Goals as goal

pub loop-k-init : goal.loop-k-init
loop-k-init c = let g = c.args in
    (omega arith, putting_none (pieces_in g.begun g.firsts.now g.points.now) g.from g.out.now)

pub returns-then-out-size-lt-LINE : goal.returns-then-out-size-lt-LINE
returns-then-out-size-lt-LINE c = let g = c.args in
    let p = c.loop-k.invariant.1 in
    handed_full p (omega (arith, c.loop-k-test.true, count_pieces g.begun g.firsts.now g.points.now)) (omega (arith, c.if-out-size-lt-LINE.true, putting_length p))

pub overflow_add-size : goal.overflow_add-size
overflow_add-size c = omega (arith, putting_inside c.loop-k.invariant.1 c.put_piece-size.ensures c.out-1.given.0)

pub loop-k-preserved : goal.loop-k-preserved
loop-k-preserved c = let l = c.loop-k in
    let g = c.args in (
      omega (arith, c.loop-k-test.true),
      putting_turn l.invariant.1 (omega (arith, c.loop-k-test.true, count_pieces g.begun g.firsts.now g.points.now)) c.if-out-size-lt-LINE.false c.put_piece-size.ensures c.out-1.given.0,
    )

-- with no piece left, the next is the end, or `from` where that is past it
pub returns : goal.returns
returns c = let g = c.args in
    let e : c.loop-k.k ≡ c.max.result = omega (arith, c.max.ensures, c.loop-k.invariant.0, c.loop-k-test.false, c.loop-k.auto.k) in
    subst (λ n. Handed (pieces_in g.begun g.firsts.now g.points.now) g.from g.out.now c.loop-k.out (record { size = c.loop-k.size; next = n; more = false })) e
    (handed_all c.loop-k.invariant.1 (omega (arith, c.loop-k-test.false, count_pieces g.begun g.firsts.now g.points.now)))
