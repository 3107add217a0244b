-- `list_read::step` meets its contract, by what was found and how its body was read. Assumes nothing.
use mathlib.Core.Path.{◌∙◌}
use Rattle.dng.proofs.Exits.{exit}
use Rattle.list_read.proofs.Laws.{step-item, step-body, step_cut}
use Rattle.list_read.proofs.step.Goals as goal

pub returns-in_err-entry : goal.returns-in_err-entry
returns-in_err-entry c = exit c.from_residual.ensures.1 ∙ step_cut _ _ c.next.ensures c.in_err-entry.was

pub returns-in_err-op : goal.returns-in_err-op
returns-in_err-op c =
    exit c.from_residual-in_err-op.ensures.1
    ∙ step-body _ _ c.next.ensures c.in_ok-entry.was c.parse.ensures c.in_err-op.was

pub returns : goal.returns
returns c = step-item _ _ c.next.ensures c.in_ok-entry.was c.parse.ensures c.in_ok-op.was
