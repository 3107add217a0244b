-- `farthest_corner` meets its contract: the four corners in the definition's order. Assumes nothing.
use Rattle.dng.specs.Value.{farthest}
use Rattle.row_vignette.proofs.Literals.{zero_is}
use Rattle.row_vignette.proofs.farthest_corner.Goals as goal

pub returns : goal.returns
unfolding farthest
returns c = cc zero_is
