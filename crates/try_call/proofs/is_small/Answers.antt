-- `try_call::is_small` meets its contract: it is the tests of the definition. Assumes nothing.
use mathlib.Core.Path.{refl}
use Rattle.try_call.specs.Calls.{small_of}
use Rattle.try_call.proofs.is_small.Goals as goal

pub returns : goal.returns
unfolding small_of
returns c = refl
