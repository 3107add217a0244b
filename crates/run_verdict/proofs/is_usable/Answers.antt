-- `run_verdict::is_usable` meets its contract, by what was told of m2. Assumes nothing.
use mathlib.Core.Path.{ap, ◌∙◌}
use Rattle.std.specs.Prelude.{is_some}
use Rattle.dng.specs.Value.{one}
use Rattle.run_verdict.proofs.Laws.{told}
use Rattle.run_verdict.proofs.is_usable.Goals as goal

pub returns : goal.returns
returns c = c.is_some.ensures ∙ ap is_some (c.m2.ensures one) ∙ told _
