-- `fix_means::divided` meets its contract: the count is exact in an f32. Assumes nothing.
use mathlib.Core.Path.{ap}
use lib.Ieee.{Float, binary32, div}
use Rattle.fix_means.proofs.divided.Goals as goal

pub returns : goal.returns
returns c = ap (λ (v : Float). div binary32 c.args.sum v) c.f32_of_u16.ensures
