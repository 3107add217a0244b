-- `list_bodies::vignette` meets its contract, by what was read. Assumes nothing.
use mathlib.Core.Path.{◌∙◌}
use Rattle.list_fields.proofs.Laws.{radial-is}
use Rattle.dng.proofs.Exits.{exit}
use Rattle.list_bodies.proofs.Laws.{lens-cut, vignette-cut, vignette-read}
use Rattle.list_bodies.proofs.vignette.Goals as goal

pub returns-in_err-radial : goal.returns-in_err-radial
returns-in_err-radial c =
    exit c.from_residual.ensures.1 ∙ vignette-cut _ _ _ (lens-cut _ _ _ c.radial_in.ensures c.in_err-radial.was)

pub returns : goal.returns
returns c =
    let is = radial-is _ _ _ c.radial_in.ensures c.in_ok-radial.was in
    vignette-read _ _ _ is.0 is.1
