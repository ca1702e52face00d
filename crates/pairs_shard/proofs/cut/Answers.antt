-- `pairs_shard::cut` meets its contract: the fault first, then the two halves of the shard, one
-- after another. Assumes nothing.
use mathlib.Core.Path.{◌≡◌, sym, ◌∙◌, ap}
use native.Mathlib.Omega.{arith}
use borrow.Author.Rules.{rules}
use lib.ListN.{length}
use Rattle.integers.proofs.Overlay.{length_overlay}
use Rattle.pairs_shard.proofs.Faults.{accepted_cut, counted}
use Rattle.pairs_shard.specs.Shard.{least_of, shard_of}
use Rattle.pairs_shard.proofs.Known.{known, asked, asked_as, least_is}
use Rattle.pairs_shard.proofs.Putting.{length_counts, shard_fits, shard_put}
use Rattle.faults.specs.Told.{told}
use Rattle.faults.proofs.Numbers.{not_0}
use Rattle.pairs_shard.proofs.cut.Goals as goal

pub word_at-requires : goal.word_at-requires
word_at-requires c = omega (arith, (known _ _ _ (asked 0 0 (sym c.shard_fault.ensures ∙ (ap told c.in_default.is)))).inside)

pub put_rest-size-requires : goal.put_rest-size-requires
put_rest-size-requires c = let B = c.args.bytes.now in
    let p = least_is _ _ c.min-past.ensures ∙ ap (least_of c.args.to) c.word_at.ensures in
    let q = least_is _ _ c.min-first.ensures ∙ ap (least_of c.args.from) p in
    let u = asked_as c.args.from c.args.to {bytes = B} (sym c.shard_fault.ensures ∙ (ap told c.in_default.is)) q p in
    let k = known _ _ _ u in
    let n = length_counts k in
    (u, search rules, omega (arith, n, c.put_counts-at.ensures.after))

pub returns : goal.returns
returns c = let B = c.args.bytes.now in
    let p = least_is _ _ c.min-past.ensures ∙ ap (least_of c.args.to) c.word_at.ensures in
    let q = least_is _ _ c.min-first.ensures ∙ ap (least_of c.args.from) p in
    let w = shard_put c.args.from c.args.to B q p c.put_counts-at.ensures c.put_rest-size.ensures in
    let z = sym c.shard_fault.ensures ∙ (ap told c.in_default.is) in
    let a = accepted_cut c.args.from c.args.to B c.args.out.now z w.0 w.1 in
    let fits = shard_fits c.args.from c.args.to B z in
    let n : length c.args.out.now ≡ 147516 = search rules in
    record { told = a.0; bytes = a.1; counted = counted _ (omega (arith, w.0, fits, n, ap length w.1, length_overlay (shard_of c.args.from c.args.to B) c.args.out.now (omega (arith, fits, n)))) }
