-- `over_scale` meets its contract: its constant is 65535. Assumes nothing.
use mathlib.Core.Path.{ap}
use lib.Ieee.{Float, binary32, mul, div}
use Rattle.row_deltas.proofs.Literals.{largest}
use Rattle.row_deltas.proofs.over_scale.Goals as goal

pub returns : goal.returns
returns c = ap (λ (x : Float). div binary32 (mul binary32 c.args.d x) c.args.scale) largest
