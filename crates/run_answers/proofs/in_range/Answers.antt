-- `run_answers::in_range` meets its contract: the definition's case, by computing.
use Rattle.dng.specs.Answer.{in_range}
use mathlib.Core.Path.{refl}
use Rattle.run_answers.proofs.in_range.Goals as goal

pub returns : goal.returns
unfolding in_range
returns c = refl
