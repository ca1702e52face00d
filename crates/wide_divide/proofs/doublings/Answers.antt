-- `wide_divide::doublings` meets its contract: the zeros above the highest digit. Assumes nothing.
use Rattle.wide_divide.proofs.Scaled.{normal_of}
use Rattle.wide_divide.proofs.doublings.Goals as goal

pub returns : goal.returns
returns c = normal_of c.requires c.ranges.d.fits
