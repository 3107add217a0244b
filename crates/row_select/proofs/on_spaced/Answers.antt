-- `on_spaced` meets its contract: the steps over the walk's places, at the columns' numbers. Assumes nothing.
use mathlib.Core.Path.{◌∙◌}
use native.Mathlib.Omega.{arith}
use Rattle.row_select.proofs.Sizes.{begin-small, nth-small}
use Rattle.row_select.proofs.Steps.{steps-numbered}
use Rattle.row_select.proofs.on_spaced.Goals as goal

pub overflow_mul-from : goal.overflow_mul-from
overflow_mul-from g c = omega (arith, begin-small c.requires.walk)

pub overflow_add-from : goal.overflow_add-from
overflow_add-from g c = omega (arith, begin-small c.requires.walk)

pub on_steps-requires-clause-short : goal.on_steps-requires-clause-short
on_steps-requires-clause-short g c = (omega (arith, c.stop_of-stop.ensures), nth-small c.requires.walk)

pub returns : goal.returns
returns g c =
    λ h law. c.on_steps.ensures h law ∙ rw (c.stop_of-stop.ensures) (steps-numbered c.args.k h c.args.row.now c.requires.walk)
