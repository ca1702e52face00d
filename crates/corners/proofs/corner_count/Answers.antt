-- `corners::corner_count` meets its contract. Assumes nothing.
use mathlib.Core.Path.{sym}
use Rattle.corners.proofs.Corners.{length_points}
use Rattle.corners.proofs.corner_count.Goals as goal

pub returns : goal.returns
returns c = sym (length_points c.args.corners.now)
