-- `wide_divide::divide` meets its contract: one word as it is, two words with dividend and divisor
-- scaled. Assumes nothing.
use mathlib.Core.Path.{◌≡◌, ◌∙◌}
use Prim.Native.Nat.{ℕ, ◌+◌, ◌*◌, ◌-◌, ◌/◌, ◌%◌, ◌^◌, ◌≤◌, ◌<◌}
use native.Mathlib.Omega.{arith}
use native.Mathlib.Nat.{div-add-mod', mod-lt}
use mir.Syntax.{w64}
use mir.Val.{Fits}
use Rattle.wide.specs.Words.{two_words}
use Rattle.wide_divide.specs.Quotients.{Divided, Normal}
use Rattle.wide_divide.proofs.Scaled.{top_below, divisor_kept, unscaled}
use Rattle.wide_divide.proofs.divide.Goals as goal

-- one word
short : {high : ℕ} (low : ℕ) {d : ℕ} → high ≡ 0 → 0 < d → Divided (two_words high low) d (record { quotient = low / d; remainder = low % d })
short low {d} e h = record { whole = div-add-mod' low d ∙ omega arith; rest = mod-lt low h }

module _ {h l d s : ℕ} (hd : h < d) (fl : l < 2 ^ 64) (n : Normal d s) where
  top_fits : Fits w64 ((h * 2 ^ s) % 2 ^ 64 + l / 2 / 2 ^ (63 - s))
  top_fits = record { fits = omega (arith, top_below h l d s hd fl n, n.word) }

  asks : (2 ^ 63 ≤ (d * 2 ^ s) % 2 ^ 64) × ((h * 2 ^ s) % 2 ^ 64 + l / 2 / 2 ^ (63 - s) < (d * 2 ^ s) % 2 ^ 64)
  asks = (rw (divisor_kept h l d s hd fl n) n.top, rw (divisor_kept h l d s hd fl n) (top_below h l d s hd fl n))

pub overflow_add-top : goal.overflow_add-top
overflow_add-top c = top_fits c.requires c.ranges.low.fits c.doublings-s.ensures

pub divide_normal-q-requires : goal.divide_normal-q-requires
divide_normal-q-requires c = asks c.requires c.ranges.low.fits c.doublings-s.ensures

pub returns : goal.returns
returns c = let k = c.doublings-s in
    unscaled c.args.high c.args.low c.args.d k.result c.requires c.ranges.low.fits k.ensures c.divide_normal-q.ensures
