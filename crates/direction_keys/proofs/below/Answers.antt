-- `direction_keys::below` meets its contract: the upright extent, scaled, outweighs the other.
-- Assumes nothing.
use Rattle.integers.proofs.Bits.{kept}
use Rattle.direction_keys.proofs.Selects.{read, scaled_fits, sign_fits, sign_lower}
use Rattle.direction_keys.proofs.below.Goals as goal

pub returns : goal.returns
returns c = let s = c.requires in
    rw (read s.y_small, read s.x_small, kept (scaled_fits s.x_small s.y_small), kept (sign_fits s.x_small s.y_small)) (sign_lower s.x_small s.y_small)
