-- `row_scale` meets its contract: a missing scale is 1.0. Assumes nothing.
use mathlib.Core.Path.{◌∙◌, ap}
use lib.Ieee.{Float}
use Rattle.dng.specs.Value.{nth}
use Rattle.row_deltas.proofs.Literals.{one-is}
use Rattle.row_deltas.proofs.row_scale.Goals as goal

pub returns : goal.returns
returns c =
    c.value_at.ensures ∙ ap (λ (x : Float). nth c.args.n c.args.body.now x c.args.i) one-is
