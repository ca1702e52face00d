-- Pieces taken while there is room: one more (`taking_turn`), no room (`taking_full`); they are the
-- first ones (`taking_front`), no more than there are (`taking_few`), and at least one where there
-- is any and room for it (`taking_some`). Assumes nothing.
use mathlib.Core.Path.{◌≡◌, refl, ap}
use mathlib.Core.List.{List, [], ◌∷◌, ◌++◌}
use Prim.Native.Nat.{ℕ, ◌-◌, ◌<◌, ◌≤◌}
use native.Mathlib.Omega.{arith}
use borrow.Author.Tests.{lt-ltb, le-ltb}
use lib.Dec.{ltb}
use lib.ListN.{length, drop}
use Rattle.integers.proofs.Order.{by_test}
use Rattle.pair_lines.specs.Putting.{line_room}
use Rattle.pairs_text.specs.Pieces.{taking_pieces}

pub taking_turn : {room : ℕ} (p : List ℕ) (ps : List (List ℕ)) → line_room ≤ room → taking_pieces room (p ∷ ps) ≡ p ∷ taking_pieces (room - length p) ps
unfolding taking_pieces
taking_turn {room} p ps h = rw (le-ltb room line_room h)

pub taking_full : {room : ℕ} (ps : List (List ℕ)) → room < line_room → taking_pieces room ps ≡ []
unfolding taking_pieces
taking_full [] h = refl
taking_full {room} (p ∷ ps) h = rw (lt-ltb room line_room h)

pub taking_front : (room : ℕ) (ps : List (List ℕ)) → ps ≡ taking_pieces room ps ++ drop (length (taking_pieces room ps)) ps
unfolding taking_pieces
taking_front room [] = refl
taking_front room (p ∷ ps) =
    by_test (ltb room line_room) (λ t. rw t) (λ t. rw t (ap (λ l. p ∷ l) (taking_front (room - length p) ps)))

pub taking_few : (room : ℕ) (ps : List (List ℕ)) → length (taking_pieces room ps) ≤ length ps
unfolding taking_pieces
taking_few room [] = omega arith
taking_few room (p ∷ ps) = by_test (ltb room line_room) (λ t. rw t (omega arith)) (λ t. rw t (omega (arith, taking_few (room - length p) ps)))

pub taking_some : (room : ℕ) (ps : List (List ℕ)) → line_room ≤ room → 0 < length ps → 0 < length (taking_pieces room ps)
taking_some room [] h k = absurd (omega arith)
taking_some room (p ∷ ps) h k = omega (arith, ap length (taking_turn p ps h))
