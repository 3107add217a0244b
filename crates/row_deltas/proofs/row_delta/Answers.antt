-- `row_delta` meets its contract: a missing delta is 0.0. Assumes nothing.
use mathlib.Core.Path.{◌∙◌, ap}
use lib.Ieee.{Float, binary32, mul, div}
use Rattle.num_convert.specs.Convert.{whole_in}
use Rattle.dng.specs.Value.{nth}
use Rattle.row_deltas.proofs.Literals.{zero_is}
use Rattle.row_deltas.proofs.row_delta.Goals as goal

pub returns : goal.returns
returns c =
    c.over_scale.ensures
    ∙ ap (λ (x : Float). div binary32 (mul binary32 x (whole_in binary32 65535)) c.args.scale)
    (c.value_at.ensures ∙ ap (λ (x : Float). nth c.args.n c.args.body.now x c.args.i) zero_is)
