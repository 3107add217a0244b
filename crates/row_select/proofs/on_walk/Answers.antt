-- `on_walk` meets its contract: the run over the walk's places, at the columns' numbers. Assumes nothing.
use mathlib.Core.Path.{◌∙◌}
use native.Mathlib.Omega.{arith}
use Rattle.row_select.proofs.Sizes.{begin-small, nth-small}
use Rattle.row_select.proofs.Steps.{steps-numbered}
use Rattle.row_select.proofs.on_walk.Goals as goal

pub overflow_mul-begin : goal.overflow_mul-begin
overflow_mul-begin g c = omega (arith, begin-small c.requires.walk)

pub overflow_add-begin : goal.overflow_add-begin
overflow_add-begin g c = omega (arith, begin-small c.requires.walk)

pub on_run-requires-clause-short : goal.on_run-requires-clause-short
on_run-requires-clause-short g c = (omega (arith, c.stop_of-stop.ensures), nth-small c.requires.walk)

pub on_steps-requires-clause-short : goal.on_steps-requires-clause-short
on_steps-requires-clause-short g c = (omega (arith, c.stop_of-stop.ensures), nth-small c.requires.walk)

pub returns-then-step-eq1 : goal.returns-then-step-eq1
returns-then-step-eq1 g c =
    λ h law. c.on_run.ensures h law ∙ rw (← c.if-step-eq1.true, c.stop_of-stop.ensures) (steps-numbered c.args.k h c.args.row.now c.requires.walk)

pub returns-else-step-eq1 : goal.returns-else-step-eq1
returns-else-step-eq1 g c =
    λ h law. c.on_steps.ensures h law ∙ rw (c.stop_of-stop.ensures) (steps-numbered c.args.k h c.args.row.now c.requires.walk)
