-- `Line::wide_gain` meets its contract: the definition's operations in its order. Assumes nothing.
use Rattle.dng.specs.Value.{radial_gain}
use Rattle.row_vignette.specs.Rows.{wide_gain}
use Rattle.row_vignette.proofs.Literals.{one-is}
use Rattle.row_vignette.proofs.Line.wide_gain.Goals as goal

pub returns : goal.returns
unfolding wide_gain radial_gain
returns c = cc one-is
