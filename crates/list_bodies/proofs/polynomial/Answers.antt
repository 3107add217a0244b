-- `list_bodies::polynomial` meets its contract, by what was read and its test. Assumes nothing.
use mathlib.Core.Path.{ap, ◌∙◌}
use Rattle.std.specs.Prelude.{Err}
use Rattle.dng.proofs.Exits.{exit}
use Rattle.list_bodies.proofs.Laws.{cut-counted-at, is-counted, degree-cut, degree-read, degree-not}
use Rattle.list_bodies.proofs.polynomial.Goals as goal

pub returns-in_err-region : goal.returns-in_err-region
returns-in_err-region c =
    exit c.from_residual.ensures.1
    ∙ degree-cut _ _ _ (cut-counted-at _ _ _ c.counted_in.ensures c.in_err-region.was)

pub returns-then-degree_fits : goal.returns-then-degree_fits
returns-then-degree_fits c =
    let is = is-counted _ _ _ c.counted_in.ensures c.in_ok-region.was in
    degree-read _ _ _ c.degree_fits.ensures c.if-degree_fits.true is.1 is.2

pub returns-else-degree_fits : goal.returns-else-degree_fits
returns-else-degree_fits c =
    let is = is-counted _ _ _ c.counted_in.ensures c.in_ok-region.was in
    ap Err c.refuse.ensures
    ∙ degree-not _ _ _ c.degree_fits.ensures c.if-degree_fits.false is.0 is.2 c.degree_reason.ensures
