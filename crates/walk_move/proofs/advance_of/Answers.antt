-- `walk_move::advance_of` meets its contract, field by field. Assumes nothing.
use mathlib.Core.Path.{◌≡◌, ap}
use Prim.Native.Nat.{ℕ, ◌-◌}
use Rattle.pair.specs.declared.Place.{Place}
use Rattle.pair.specs.Walk.{next_index, advance}
use Rattle.walk_move.proofs.advance_of.Goals as goal

moved : (n : ℕ) (w : Place) {i : ℕ} → i ≡ next_index n w → ◌≡◌ {A = Place} (record { index = i; remaining = w.remaining - 1; reverse = w.reverse; reflected = w.reflected; segment = w.segment; start = w.start; end = w.end }) (advance n w)
unfolding advance
moved n w e = ap (λ i. record { index = i; remaining = w.remaining - 1; reverse = w.reverse; reflected = w.reflected; segment = w.segment; start = w.start; end = w.end }) e

pub returns : goal.returns
returns c = moved _ _ c.next_index.ensures
