-- `list_bodies::table` meets its contract, by what was read and its test. Assumes nothing.
use mathlib.Core.Path.{ap, ◌∙◌}
use Rattle.std.specs.Prelude.{Err}
use Rattle.dng.specs.declared.Opcode.TheVariants.{MapTable}
use Rattle.dng.proofs.Exits.{exit}
use Rattle.list_bodies.proofs.Laws.{cut-counted-at, is-counted, values-cut, values-read, values-not}
use Rattle.list_bodies.proofs.table.Goals as goal

pub returns-in_err-region : goal.returns-in_err-region
returns-in_err-region c =
    exit c.from_residual.ensures.1
    ∙ values-cut _ _ _ 2 MapTable (cut-counted-at _ _ _ c.counted_in.ensures c.in_err-region.was)

pub returns-then-values_fit : goal.returns-then-values_fit
returns-then-values_fit c =
    let is = is-counted _ _ _ c.counted_in.ensures c.in_ok-region.was in
    values-read _ _ _ 2 MapTable c.values_fit.ensures c.if-values_fit.true is.1 is.2

pub returns-else-values_fit : goal.returns-else-values_fit
returns-else-values_fit c =
    let is = is-counted _ _ _ c.counted_in.ensures c.in_ok-region.was in
    ap Err c.refuse.ensures ∙ values-not _ _ _ 2 MapTable c.values_fit.ensures c.if-values_fit.false is.0
